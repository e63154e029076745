-- `table::value_in` meets its contract. Assumes nothing.
use Rattle.table.proofs.Lines.{in-row, no-row}
use Rattle.table.proofs.value_in.Goals as goal

pub returns-then-starts_row : goal.returns-then-starts_row
returns-then-starts_row c = in-row _ _ _ _ _ c.requires.0 c.requires.1 c.starts_row.ensures c.if-starts_row.true

pub returns-else-starts_row : goal.returns-else-starts_row
returns-else-starts_row c = (no-row _ _ _ _ _ c.starts_row.ensures c.if-starts_row.false, tt)
