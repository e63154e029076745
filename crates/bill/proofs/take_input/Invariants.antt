-- `bill::take_input` meets its contract: the bill holds the lines that were handed over so far. Assumes nothing.
use mathlib.Core.Path.{◌≡◌}
use mathlib.Core.List.{List, []}
use Prim.Native.Nat.{◌-◌}
use lib.ListN.{length}
use Rattle.standard.specs.Delivery.{Bytes}
use Rattle.lines.specs.Squeeze.{handed_over, all_lines}
use Rattle.lines.specs.Reader.{Placed}
use Rattle.program_io.specs.Handed.{Going}
use Rattle.bill_lines.specs.Held.{Held}
use Rattle.bill.proofs.take_input.Given as goal

abbrev pub invariant-loop-streams : goal.invariant-loop-streams
invariant-loop-streams l = (length l.block ≡ length l.initial.block) × (length l.piece ≡ length l.initial.piece) × (length l.keys ≡ length l.initial.keys) × (length l.counts ≡ length l.initial.counts) × (length l.out ≡ length l.initial.out)
    × Placed l.input.taken (length l.piece) × (l.c.number ≡ 0) × ((bs : List Bytes) × Going bs l.input l.piece × Held l.tables.aliases.rows.now l.tables.likely.rows.now (all_lines (handed_over [] bs)) l.c l.keys l.counts)

abbrev pub decreases-loop-streams : goal.decreases-loop-streams
decreases-loop-streams l = 18446744073709551615 - l.input.bytes
