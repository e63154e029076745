-- `byte_string::compare` meets its contract. Assumes nothing.
use mathlib.Core.Path.{ap, ◌∙◌}
use Rattle.byte_string.specs.Strings.{order_of}
use Rattle.byte_string.proofs.Orders.{of-slices}
use Rattle.byte_string.proofs.compare.Goals as goal

pub returns : goal.returns
returns c = ap order_of c.cmp.ensures ∙ of-slices _ _
