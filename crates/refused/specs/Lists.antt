-- What a run of the program read and printed. Assumes nothing.
use Rattle.std.specs.Prelude.{◌≡◌, true, false, List, ◌++◌, ◌%◌, ◌^◌, length}
use Rattle.table.specs.Lines.{lines}
use Rattle.lines.specs.Squeeze.{Bytes, together}
use Rattle.program_io.specs.declared.input.Input.{Input}
use Rattle.program_io.specs.declared.output.Output.{Output}
use Rattle.program_io.specs.Handed.{is_end}
use Rattle.program_io.specs.Printed.{headed, Answers}
use Rattle.refused_rows.specs.Numbered.{rows_from}
use Rattle.refused_rows.specs.Rows.{line_row, refused_text}
use Rattle.refused.specs.Header.{header}

-- Of the blocks bs, wherever they end, the header and the rows were printed that `Answers` says. Where the input was read to
-- its end and no write failed, they are the rows of the lines that the bill counts as refused, with their numbers in the
-- input.
pub record Lists (A L : Bytes) (bs : List Bytes) (i : Input) (o : Output) : Type 0 where
  pub answers : Answers (headed header (rows_from (line_row A L) 1)) bs i o
  pub all : is_end i.last ≡ true → o.failed ≡ false → o.bytes ≡ length (header ++ refused_text A L (lines (together bs))) % 2 ^ 64
