-- `refused::print_rows` meets its contract. Assumes nothing.
use mathlib.Core.Path.{◌≡◌}
use Prim.Native.Nat.{◌-◌}
use lib.ListN.{length}
use Rattle.refused_rows.specs.Rows.{line_row}
use Rattle.refused.proofs.Numbers.{Numbering}
use Rattle.refused.proofs.print_rows.Given as goal

abbrev pub invariant-loop-at : goal.invariant-loop-at
invariant-loop-at l = (length l.form ≡ 256) × (length l.out ≡ length l.initial.out) × Numbering (line_row l.tables.aliases.rows.now l.tables.likely.rows.now) l.first l.piece l.initial.o l.o l.at l.next

abbrev pub decreases-loop-at : goal.decreases-loop-at
decreases-loop-at l = length l.piece - l.at
