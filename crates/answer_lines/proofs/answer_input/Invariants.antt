-- `answer_lines::answer_input` meets its contract: the rows of what was handed over so far are printed. Assumes nothing.
use mathlib.Core.Path.{◌≡◌}
use mathlib.Core.Bool.{false}
use mathlib.Core.List.{List}
use Prim.Native.Nat.{◌-◌}
use lib.ListN.{length}
use Rattle.lines.specs.Squeeze.{Bytes}
use Rattle.lines.specs.Pieces.{rows_text}
use Rattle.lines.specs.Reader.{Placed}
use Rattle.program_io.specs.Handed.{Going}
use Rattle.program_io.specs.Printed.{headed, Headed}
use Rattle.program_io.proofs.Printing.{Printed}
use Rattle.answer_lines.proofs.answer_input.Given as goal

abbrev pub invariant-loop-streams : goal.invariant-loop-streams
invariant-loop-streams g l = (length l.block ≡ length l.initial.block) × (length l.piece ≡ length l.initial.piece) × (length l.out ≡ length l.initial.out) × Placed l.input.taken (length l.piece)
    × (l.output.failed ≡ false)
    × ((bs : List Bytes) × Going bs l.input l.piece × ((header : Bytes) → Headed header l.fn.from → Printed (headed header (rows_text (g.R.LineRows.row_of l.rows))) bs l.output))

abbrev pub decreases-loop-streams : goal.decreases-loop-streams
decreases-loop-streams g l = 18446744073709551615 - l.input.bytes
