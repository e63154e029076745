-- `row_shapes::pairs::parent_row` meets its contract. Assumes nothing.
use mathlib.Core.Path.{ap, ◌∙◌}
use mathlib.Core.Bool.{not}
use Rattle.row_shapes.proofs.Texts.{parent-two, parent-key, parent_is, pair-missing, pair-refused, pair_row}
use Rattle.row_shapes.proofs.pairs.parent_row.Goals as goal

pub returns-in_err-pair : goal.returns-in_err-pair
returns-in_err-pair c = rw c.from_residual.ensures (pair-missing _ c.in_err-pair.ensures _ parent-two)

pub returns-then-same : goal.returns-then-same
returns-then-same c = pair-refused _ _ c.in_ok-pair.ensures _ (parent_is _ _ c.in_ok-pair.ensures _ c.same.ensures ∙ ap not c.if-same.true)

pub returns : goal.returns
returns c = pair_row _ _ c.in_ok-pair.ensures _ parent-key (parent_is _ _ c.in_ok-pair.ensures _ c.same.ensures ∙ ap not c.if-same.false)
