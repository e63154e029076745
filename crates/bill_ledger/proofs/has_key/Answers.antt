-- `bill_ledger::has_key` meets its contract. Assumes nothing.
use mathlib.Core.Path.{◌≡◌, sym, ap, ◌∙◌}
use Prim.Native.Nat.{ℕ, ◌+◌}
use native.Mathlib.Omega.{arith}
use borrow.Author.Tests.{le-ltb}
use Rattle.standard.specs.Tag.{same}
use Rattle.standard.specs.Delivery.{Bytes}
use Rattle.standard.proofs.General.{clash}
use Rattle.bill_ledger.specs.Places.{text_at}
use Rattle.bill_ledger.proofs.Changes.{hit-in, hit-out}
use Rattle.bill_ledger.proofs.has_key.Goals as goal

pub returns-then-at-n : goal.returns-then-at-n
returns-then-at-n c =
    let a = c.args in (
      λ cs. c.same.ensures ∙ ap (λ (x : Bytes). same x a.key.now) c.key_at.ensures.0 ∙ ap (λ (j : ℕ). same (text_at a.keys.now j) a.key.now) (let z : a.at ≡ 0 + a.at = omega arith in z) ∙ sym (hit-in a.keys.now cs a.key.now a.at 0 a.n c.if-at-n.true),
      λ e. c.if-at-n.true,
    )

pub returns-else-at-n : goal.returns-else-at-n
returns-else-at-n c =
    let f = le-ltb c.args.at c.args.n c.if-at-n.false in
    (λ cs. f ∙ sym (hit-out _ cs _ _ 0 _ c.if-at-n.false), λ e. clash e f)
