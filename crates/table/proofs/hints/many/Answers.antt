-- `table::hints::many` meets its contract. Assumes nothing.
use native.Mathlib.Omega.{arith}
use Rattle.table.proofs.Hinting.{blank_of, place-many}
use Rattle.table.proofs.hints.many.Goals as goal

pub returns : goal.returns
returns c = blank_of 16384 (λ slot h. omega (arith, place-many 16384 slot (λ e. omega arith)))
