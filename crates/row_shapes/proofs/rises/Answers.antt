-- `row_shapes::rises` meets its contract. Assumes nothing.
use mathlib.Core.Path.{◌∙◌}
use Rattle.row_shapes.proofs.Passes.{rises-is}
use Rattle.row_shapes.proofs.rises.Goals as goal

pub returns : goal.returns
returns c = c.is_lt.ensures ∙ rises-is _ _ _ c.compare.ensures
