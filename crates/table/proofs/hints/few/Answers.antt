-- `table::hints::few` meets its contract. Assumes nothing.
use mathlib.Core.Path.{refl}
use native.Mathlib.Omega.{arith}
use Rattle.table.proofs.Hinting.{blank_of, place-few}
use Rattle.table.proofs.hints.few.Goals as goal

pub returns : goal.returns
returns c = blank_of 1024 (λ slot h. omega (arith, place-few 1024 slot refl))
