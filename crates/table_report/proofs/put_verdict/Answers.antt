-- `table_report::put_verdict` meets its contract. Assumes nothing.
use native.Mathlib.Omega.{arith}
use Rattle.tsv.proofs.Laws.{table-word}
use Rattle.table_report.proofs.Written as written
use Rattle.table_report.proofs.put_verdict.Goals as goal

pub put_number-q-requires : goal.put_number-q-requires
put_number-q-requires c = omega (arith, table-word, c.put-p.ensures.0)

pub put_number-r-requires : goal.put_number-r-requires
put_number-r-requires c = omega (arith, table-word, c.put-p.ensures.0, c.put_number-q.ensures.2)

pub put_number-requires : goal.put_number-requires
put_number-requires c = omega (arith, table-word, c.put-p.ensures.0, c.put_number-q.ensures.2, c.put_number-r.ensures.2)

pub returns : goal.returns
returns c = written.verdict-written _ _ _ _ _ _ _ _ _ _ _ _ c.put-p.ensures c.put_number-q.ensures c.put_number-r.ensures c.put_number.ensures
