-- `program_io::input::begin` meets its contract. Assumes nothing.
use Rattle.std.proofs.Common.{refl, arith}
use Rattle.program_io.proofs.Laws.{going_start}
use native.Mathlib.Omega.{arith}
use Rattle.program_io.proofs.input.begin.Goals as goal

pub returns : goal.returns
returns c = (record { behind = omega arith; few = omega arith; within = omega arith }, λ piece. going_start _ piece refl refl refl refl)
