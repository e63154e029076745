-- `answer_lines::print_rows` meets its contract. Assumes nothing.
use mathlib.Core.Path.{◌≡◌}
use Prim.Native.Nat.{◌-◌}
use lib.ListN.{length}
use Rattle.lines.specs.Pieces.{rows_text}
use Rattle.lines.proofs.Pieces.{rows_none}
use Rattle.program_io.proofs.Printing.{Printing}
use Rattle.answer_lines.proofs.print_rows.Given as goal

abbrev pub invariant-loop-at : goal.invariant-loop-at
invariant-loop-at g l = (length l.out ≡ length l.initial.out) × Printing (rows_text (g.R.LineRows.row_of l.rows)) (rows_none (g.R.LineRows.row_of l.rows)) l.piece l.initial.o l.o l.at

abbrev pub decreases-loop-at : goal.decreases-loop-at
decreases-loop-at g l = length l.piece - l.at
