-- `aliases::replace::put_first` meets its contract. Assumes nothing.
use native.Mathlib.Omega.{arith}
use mathlib.Core.Path.{◌≡◌, sym, ap, ◌∙◌}
use mathlib.Core.List.{map}
use Prim.Native.Nat.{ℕ, ◌+◌}
use lib.ListN.{length, length-map}
use lib.Seq.{sets}
use borrow.Author.Tests.{eqb-true, eq-eqb}
use Rattle.standard.proofs.General.{clash}
use Rattle.standard.specs.Tag.{Tag}
use Rattle.subtag.specs.Bytes.{normal_byte, cased as raised_tag}
use Rattle.subtag.proofs.Cased.{cased-length}
use Rattle.aliases.proofs.Cased as cased-laws
use Rattle.aliases.proofs.replace.put_first.Goals as goal

pub returns-then-is_empty : goal.returns-then-is_empty
returns-then-is_empty c =
    let a = c.args in
    let n : length a.given.now ≡ 0 = eqb-true _ 0 (sym c.is_empty.ensures ∙ c.if-is_empty.true) in
    let z : length (map normal_byte a.given.now) ≡ 0 = omega (arith, length-map a.given.now normal_byte) in
    let e = cased-laws.pick-none a.count (map normal_byte a.given.now) a.brought.now z in
    (c.put.ensures.0 ∙ ap (λ (t : Tag). a.at + length t) (sym e), c.put.ensures.1 ∙ ap (sets a.out.now a.at) (sym e))

pub returns-else-is_empty : goal.returns-else-is_empty
returns-else-is_empty c =
    let a = c.args in
    let n : (length a.given.now ≡ 0 → ⊥) = (λ e. clash (eq-eqb _ 0 e) (sym c.is_empty.ensures ∙ c.if-is_empty.false)) in
    let z = length-map a.given.now normal_byte in
    let t = raised_tag a.count (map normal_byte a.given.now) in
    let e = cased-laws.pick_some a.count (map normal_byte a.given.now) a.brought.now (omega arith) in
    let k : length t ≡ length a.given.now = cased-length a.count (map normal_byte a.given.now) ∙ z in
    (c.put_cased.ensures.0 ∙ ap (λ (m : ℕ). a.at + m) (sym k) ∙ ap (λ (t : Tag). a.at + length t) (sym e), c.put_cased.ensures.1 ∙ ap (sets a.out.now a.at) (sym e))
