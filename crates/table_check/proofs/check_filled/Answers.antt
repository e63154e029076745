-- `table_check::check_filled` meets its contract. Assumes nothing.
use Rattle.row_shapes.specs.Rows.{kind_is}
use Rattle.table_check.proofs.check_filled.Goals as goal

pub check_free-requires : goal.check_free-requires
unfolding kind_is
check_free-requires c = (c.requires.0, c.fill_hints.ensures)

pub returns : goal.returns
unfolding kind_is
returns c = c.check_free.ensures
