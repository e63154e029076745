-- `table_report::cases::put_recased` meets its contract. Assumes nothing.
use native.Mathlib.Omega.{arith}
use mathlib.Core.Path.{ap, ◌∙◌}
use lib.ListN.{length-set}
use Rattle.subtag.specs.Bytes.{cased_byte}
use Rattle.table_report.proofs.Recased as recasing
use Rattle.table_report.proofs.cases.put_recased.Goals as goal

pub loop-i-preserved : goal.loop-i-preserved
loop-i-preserved c =
    let l = c.loop-i in
    (recasing.recased-next _ _ _ _ _ _ l.invariant.0 c.loop-i-test.true _ _ (c.recase.ensures ∙ ap (cased_byte 0 l.n) c.lower.ensures) c.next_count-n.ensures, length-set l.out l.i c.recase.result ∙ l.invariant.1)

pub returns : goal.returns
returns c = let l = c.loop-i in let r = recasing.recased-all _ _ _ _ _ _ l.invariant.0 c.loop-i-test.false l.auto.i-end in (omega (arith, r.0, l.auto.i-end), r.1)
