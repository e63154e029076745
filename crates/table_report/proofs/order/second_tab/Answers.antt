-- `table_report::order::second_tab` meets its contract. Assumes nothing.
use Rattle.table_report.proofs.Counts as counts
use Rattle.table_report.proofs.order.second_tab.Goals as goal

pub returns-else-a-line : goal.returns-else-a-line
returns-else-a-line c = counts.second_none _ _ c.end_of-a.ensures c.if-a-line.false

pub returns-then-a-line : goal.returns-then-a-line
returns-then-a-line c = counts.second-some _ _ c.end_of-a.ensures c.if-a-line.true _ c.end_of.ensures
