-- `bill_lines::only` meets its contract. Assumes nothing.
use mathlib.Core.Path.{refl}
use Rattle.bill_lines.specs.State.{only}
use Rattle.bill_lines.proofs.only.Goals as goal

pub returns : goal.returns
unfolding only
returns c = refl
