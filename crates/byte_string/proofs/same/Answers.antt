-- `byte_string::same` meets its contract. Assumes nothing.
use mathlib.Core.Path.{◌∙◌}
use Rattle.byte_string.proofs.Orders.{of-equal}
use Rattle.byte_string.proofs.same.Goals as goal

pub returns : goal.returns
returns c = c.eq.ensures ∙ of-equal _ _
