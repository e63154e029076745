-- What a run of the program told. Assumes nothing.
use Rattle.std.specs.Prelude.{◌≡◌, []}
use Rattle.standard.specs.Delivery.{Bytes, given}
use Rattle.operations.specs.declared.delivery.Answer.{Answer}
use Rattle.operations.specs.Answer.{answer_of}
use Rattle.standard.specs.Make.{check_made}
use Rattle.table_report.specs.Line.{told}
use Rattle.program_io.specs.declared.Run.{Run}
use Rattle.program_io.specs.Handed.{Read}
use Rattle.program_io.specs.Printed.{IsPrinted}

-- The verdict on the tables: its number was given back and its line printed, unless a write failed; nothing was read.
pub record Tells (A L P : Bytes) (r : Run) : Type 0 where
  pub read : Read [] r.input
  pub verdict : Answer
  pub checked : answer_of verdict [] ≡ given (check_made A L P) []
  pub number : r.number ≡ verdict.number
  pub printed : IsPrinted r.output (told verdict.number verdict.place verdict.table A L P 2048)
