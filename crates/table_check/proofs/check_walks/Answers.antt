-- `table_check::check_walks` meets its contract. Assumes nothing.
use mathlib.Core.Path.{sym, ◌∙◌}
use Rattle.row_shapes.specs.Rows.{kind_is}
use Rattle.table_check.proofs.Ordered.{unused}
use Rattle.table_check.proofs.check_walks.Goals as goal

pub returns-then-not-uses : goal.returns-then-not-uses
unfolding kind_is
returns-then-not-uses c = unused _ _ _ _ (sym c.uses.ensures ∙ c.if-not-uses.true)
