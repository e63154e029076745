-- `table::hints::fill_hints` meets its contract. The hints are right for the keys that end before i. Assumes nothing.
use mathlib.Core.Path.{◌≡◌}
use Prim.Native.Nat.{◌<◌}
use lib.ListN.{length}
use Rattle.table.proofs.Hinting.{Filled}
use Rattle.table.proofs.hints.fill_hints.Given as goal

abbrev pub invariant-loop-i : goal.invariant-loop-i
invariant-loop-i l = (length l.hints ≡ length l.initial.hints) × (l.slot < 16384) × Filled l.t l.hints l.start l.slot l.i
