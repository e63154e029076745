-- `table_check::check_each` meets its contract. Assumes nothing.
use Rattle.row_shapes.specs.Rows.{kind_is}
use mathlib.Core.Path.{◌∙◌}
use Rattle.table_check.proofs.Ordered.{handed, first-bad, second-bad, third, each-table}
use Rattle.table_check.proofs.check_each.Goals as goal

pub returns-in_err-check_one : goal.returns-in_err-check_one
unfolding kind_is
returns-in_err-check_one c = handed _ _ c.from_residual.ensures.1 (first-bad _ _ _ _ c.in_err-check_one.ensures ∙ each-table _ _ _ _ _)

pub returns-in_err-check_one-2 : goal.returns-in_err-check_one-2
unfolding kind_is
returns-in_err-check_one-2 c =
    handed _ _ c.from_residual-in_err-check_one-2.ensures.1 (second-bad _ _ _ c.in_ok-check_one.ensures _ c.in_err-check_one-2.ensures ∙ each-table _ _ _ _ _)

pub returns : goal.returns
unfolding kind_is
returns c = third _ _ _ c.in_ok-check_one.ensures c.in_ok-check_one-2.ensures _ c.check_one-3.ensures ∙ each-table _ _ _ _ _
