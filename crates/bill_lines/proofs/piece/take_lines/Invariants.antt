-- `bill_lines::piece::take_lines` meets its contract. Assumes nothing.
use mathlib.Core.Path.{◌≡◌}
use mathlib.Core.List.{List}
use Prim.Native.Nat.{◌+◌, ◌-◌}
use lib.ListN.{length}
use Rattle.standard.specs.Delivery.{Bytes}
use Rattle.bill_lines.specs.Over.{tables_in}
use Rattle.bill_ledger.specs.Up.{Sized}
use Rattle.bill_lines.specs.State.{Bounded, Going}
use Rattle.bill_lines.proofs.Taking.{Taken}
use Rattle.bill_lines.proofs.piece.take_lines.Given as goal

abbrev pub invariant-loop-at : goal.invariant-loop-at
invariant-loop-at l = (length l.keys ≡ length l.initial.keys) × (length l.counts ≡ length l.initial.counts) × (length l.out ≡ length l.initial.out) × Bounded l.c × Sized l.keys l.counts
    × ((ls : List Bytes) → Going (tables_in l.tables) ls l.initial.c l.initial.keys l.initial.counts → Taken (tables_in l.tables) l.piece l.at ls l.c l.keys l.counts)

abbrev pub decreases-loop-at : goal.decreases-loop-at
decreases-loop-at l = length l.piece + 1 - l.at
