-- `table_report::words::put_told` meets its contract. Assumes nothing.
use native.Mathlib.Omega.{arith}
use mathlib.Core.List.{[]}
use Rattle.tsv.proofs.Laws.{field-length}
use Rattle.table_report.proofs.Written as written
use Rattle.table_report.proofs.words.put_told.Goals as goal

pub put_wrong-requires : goal.put_wrong-requires
put_wrong-requires c = omega (arith, field-length [] 32, c.put_meaning-p.ensures.2, c.put-q.ensures.0)

pub returns : goal.returns
returns c = written.told-written _ _ _ _ _ _ _ _ _ _ c.put_meaning-p.ensures c.put-q.ensures c.put_wrong.ensures
