-- `subtag::scan` meets its contract. Assumes nothing.
use native.Mathlib.Omega.{arith}
use mathlib.Core.Path.{refl, sym, ◌∙◌}
use Rattle.subtag.proofs.Bytes.{separator-class}
use Rattle.subtag.proofs.Scanning as scanning
use Rattle.subtag.proofs.scan.Goals as goal

pub loop-b-init : goal.loop-b-init
loop-b-init c = record { here = refl; judging = scanning.scanning-start _ }

pub loop-b-preserved : goal.loop-b-preserved
loop-b-preserved c =
    let l = c.loop-b in
    let k = c.class_of-k in
    record {
      here = omega arith;
      judging =
          rw l.invariant.here
          (scanning.judging-more _ _ _ _ _ _ (rw l.invariant.here at l.invariant.judging) k.result c.letter-letters.result c.digit-digits.result c.from.result
          c.loop-b-test.true k.ensures (sym (separator-class _) ∙ sym c.eq.ensures ∙ c.if-eq.false)
          c.letter-letters.ensures c.digit-digits.ensures (c.from.ensures ∙ c.lowered.ensures) (let h = c.lowered.type_inv in let e = c.from.ensures in omega arith));
    }

pub returns-after-loop-b : goal.returns-after-loop-b
returns-after-loop-b c =
    let l = c.loop-b in
    scanning.judging-end _ _ _ _ _ _ l.invariant.judging _ (omega arith) c.first_of-first.ensures

pub returns-then-eq : goal.returns-then-eq
returns-then-eq c =
    let l = c.loop-b in
    scanning.judging-sep _ _ _ _ _ _ l.invariant.judging c.class_of-k.result _ (omega arith) (rw l.invariant.here c.class_of-k.ensures) (sym (separator-class _) ∙ sym c.eq.ensures ∙ c.if-eq.true)
    c.first_of-first.ensures
