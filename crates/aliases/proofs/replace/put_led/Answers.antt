-- `aliases::replace::put_led` meets its contract. Assumes nothing.
use native.Mathlib.Numerals.{add-one}
use native.Mathlib.Omega.{arith}
use mathlib.Core.Path.{◌≡◌, sym, ap, ◌∙◌}
use mathlib.Core.List.{◌∷◌}
use Prim.Native.Nat.{ℕ}
use lib.ListN.{length, set, length-set}
use lib.Seq.{sets}
use borrow.Author.Tests.{eqb-true, eq-eqb}
use Rattle.standard.proofs.General.{clash}
use Rattle.standard.specs.Reading.{optional}
use Rattle.subtag.specs.Sections.{led}
use Rattle.aliases.proofs.Keyed as keys
use Rattle.aliases.proofs.replace.put_led.Goals as goal
use Rattle.aliases.proofs.replace.put_led.Goals.{Else-is_empty}

pub returns-then-is_empty : goal.returns-then-is_empty
returns-then-is_empty c =
    let a = c.args in
    let e = keys.led-none a.src.now (eqb-true _ 0 (sym c.is_empty.ensures ∙ c.if-is_empty.true)) in
    (omega (arith, ap length e), ap (sets a.out.now a.at) (sym e))

some : (c : Else-is_empty) → let s = c.args.src.now in led (optional s) ≡ 45 ∷ s
some c = keys.led-some _ (λ e. clash (eq-eqb _ 0 e) (sym c.is_empty.ensures ∙ c.if-is_empty.false))

pub bounds-out-at : goal.bounds-out-at
bounds-out-at c = omega (arith, ap length (some (goal.at.bounds-out-at c).Else-is_empty))

pub put-requires : goal.put-requires
put-requires c =
    let a = c.args in
    omega (arith, ap length (some (goal.at.put-requires c).Else-is_empty), length-set a.out.now a.at 45)

pub returns : goal.returns
returns c =
    let a = c.args in
    let w = some (goal.at.returns c).Else-is_empty in
    (omega (arith, c.put.ensures.0, ap length w), c.put.ensures.1 ∙ ap (λ (n : ℕ). sets (set a.out.now a.at 45) n a.src.now) (add-one a.at) ∙ ap (sets a.out.now a.at) (sym w))
