-- `table_report::put_rest` meets its contract. Assumes nothing.
use Rattle.table_report.proofs.Written as written
use Rattle.table_report.proofs.put_rest.Goals as goal

pub returns : goal.returns
returns c = written.rest-written _ _ _ _ _ _ _ _ _ _ _ _ c.put_line-p.ensures c.put_row-q.ensures c.put_meant.ensures
