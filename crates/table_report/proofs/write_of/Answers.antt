-- `table_report::write_of` meets its contract. Assumes nothing.
use Rattle.table_report.proofs.Written as written
use Rattle.table_report.proofs.write_of.Goals as goal

pub returns : goal.returns
returns c = written.line-written _ _ _ _ _ _ _ _ _ _ _ c.put_verdict-at.ensures (written.spot-least _ _ _ c.min.ensures) c.put_rest.ensures
