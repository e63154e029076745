-- `byte_string::put` meets its contract. Assumes nothing.
use native.Mathlib.Omega.{arith}
use mathlib.Core.Path.{refl, ◌∙◌}
use lib.ListN.{length-set}
use Rattle.byte_string.proofs.Stores as stores
use Rattle.byte_string.proofs.put.Goals as goal

pub loop-i-preserved : goal.loop-i-preserved
loop-i-preserved c =
    let l = c.loop-i in
    let a = c.args in
    let h = c.loop-i-test.true in
    (length-set l.out _ _ ∙ l.invariant.0, stores.plain-next a.out.now l.out a.at a.src.now l.i _ l.invariant.1 refl h)

pub returns : goal.returns
returns c =
    let l = c.loop-i in
    let a = c.args in
    (refl, l.invariant.1 ∙ stores.plain-all a.out.now a.at a.src.now l.i (omega arith))
