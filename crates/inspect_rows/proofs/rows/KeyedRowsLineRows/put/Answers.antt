-- `inspect_rows::rows::KeyedRows::put` meets its contract. Assumes nothing.
use Rattle.inspect_rows.specs.Rows.{line_row}
use Rattle.inspect_rows.proofs.rows.KeyedRowsLineRows.put.Goals as goal

pub returns : goal.returns
unfolding line_row
returns c = rw (← c.key_number-key.ensures) c.put_row.ensures
