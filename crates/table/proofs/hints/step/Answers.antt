-- `table::hints::step` meets its contract. Assumes nothing.
use native.Mathlib.Omega.{arith}
use mathlib.Core.Path.{refl}
use Rattle.table.specs.Hints.{slot_step}
use Rattle.table.proofs.hints.step.Goals as goal

pub returns : goal.returns
unfolding slot_step
returns c = (refl, omega arith)
