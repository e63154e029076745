-- `subtag::put_cased` meets its contract. Assumes nothing.
use native.Mathlib.Omega.{arith}
use mathlib.Core.Path.{refl, ap, ◌∙◌}
use Rattle.subtag.proofs.Cased as cased-laws
use Rattle.subtag.specs.Bytes.{normal_byte, cased_byte}
use Rattle.subtag.proofs.put_cased.Goals as goal

pub loop-i-init : goal.loop-i-init
loop-i-init c = cased-laws.cased-start normal_byte _ _ _

pub loop-i-preserved : goal.loop-i-preserved
loop-i-preserved c =
    let l = c.loop-i in
    let a = c.args in
    cased-laws.cased_next normal_byte _ _ _ _ _ _ _ l.invariant (c.recase.ensures ∙ ap (cased_byte l.i a.count) c.normalise.ensures) (omega arith)

pub returns : goal.returns
returns c =
    let l = c.loop-i in
    let a = c.args in
    (refl, l.invariant ∙ cased-laws.cased-all normal_byte a.count a.out.now a.at a.src.now l.i (omega arith))
