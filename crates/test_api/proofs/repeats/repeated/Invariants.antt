-- `test_api::repeats::repeated` meets its contract. Assumes nothing.
use mathlib.Core.Path.{◌≡◌}
use lib.ListN.{length}
use Rattle.c_api.specs.Packed.{unpacked}
use Rattle.test_api.proofs.repeats.repeated.Given as goal

abbrev pub invariant-loop : goal.invariant-loop
invariant-loop l = (unpacked l.r l.out ≡ unpacked l.initial.r l.initial.out) × (length l.out ≡ length l.initial.out)
