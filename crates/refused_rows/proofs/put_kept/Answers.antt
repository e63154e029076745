-- `refused_rows::put_kept` meets its contract. Assumes nothing.
use Rattle.refused_rows.specs.Rows.{kept_row}
use Rattle.refused_rows.proofs.put_kept.Goals as goal

pub returns : goal.returns
unfolding kept_row
returns c = rw c.check_line.ensures at c.put_fault.ensures
