-- `table::hints::slot_from` meets its contract. Assumes nothing.
use mathlib.Core.Path.{◌≡◌}
use Prim.Native.Nat.{◌<◌}
use lib.ListN.{drop}
use Rattle.table.specs.Hints.{slot_from}
use Rattle.table.proofs.hints.slot_from.Given as goal

abbrev pub invariant-loop-b : goal.invariant-loop-b
invariant-loop-b l = (l.slot < 16384) × (slot_from l.h l.key ≡ slot_from l.slot (drop l.b-index l.key))
