-- `refused::answer_input` meets its contract: the rows of what was handed over so far are printed. Assumes nothing.
use mathlib.Core.Path.{◌≡◌}
use mathlib.Core.List.{List, []}
use Prim.Native.Nat.{◌-◌}
use lib.ListN.{length}
use Rattle.lines.specs.Squeeze.{Bytes, handed_over, all_lines}
use Rattle.lines.specs.Reader.{Placed}
use Rattle.program_io.specs.Handed.{Going}
use Rattle.program_io.specs.Printed.{headed}
use Rattle.program_io.proofs.Printing.{Printed}
use Rattle.refused_rows.specs.Numbered.{rows_from, number_after}
use Rattle.refused_rows.specs.Rows.{line_row}
use Rattle.refused.specs.Header.{header}
use Rattle.refused.proofs.answer_input.Given as goal

abbrev pub invariant-loop-streams : goal.invariant-loop-streams
invariant-loop-streams l = (length l.form ≡ length l.initial.form) × (length l.block ≡ length l.initial.block) × (length l.piece ≡ length l.initial.piece) × (length l.out ≡ length l.initial.out) × Placed l.input.taken (length l.piece)
    × ((bs : List Bytes) × Going bs l.input l.piece × Printed (headed header (rows_from (line_row l.tables.aliases.rows.now l.tables.likely.rows.now) 1)) bs l.output × (l.next ≡ number_after 1 (all_lines (handed_over [] bs))))

abbrev pub decreases-loop-streams : goal.decreases-loop-streams
decreases-loop-streams l = 18446744073709551615 - l.input.bytes
