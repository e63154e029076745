-- What a program that answers line by line did, over any tables. Assumes nothing.
use Rattle.std.specs.Prelude.{◌≡◌, true, ◌⊎◌, List, [], ◌++◌}
use Rattle.std.proofs.Math.Option.{Option, none, some}
use Rattle.standard.specs.Table.{TableFault}
use Rattle.tsv.specs.Fields.{table_text}
use Rattle.lines.specs.Squeeze.{Bytes}
use Rattle.program_io.specs.declared.Run.{Run}
use Rattle.program_io.specs.declared.input.Input.{Input}
use Rattle.program_io.specs.declared.output.Output.{Output}
use Rattle.program_io.specs.Handed.{Read}
use Rattle.program_io.specs.Printed.{IsPrinted}

-- The header could not be printed, and nothing was read.
pub record Unheaded (r : Run) : Type 0 where
  pub number : r.number ≡ 0
  pub read : Read [] r.input
  pub failed : r.output.failed ≡ true

-- Bad tables: nothing was read, and the header and their line were printed, or a write failed.
pub record Refuses (header : Bytes) (f : TableFault) (r : Run) : Type 0 where
  pub number : r.number ≡ f.fault.number
  pub read : Read [] r.input
  pub printed : IsPrinted r.output (header ++ table_text f.fault.number f.fault.place f.table)

-- Good tables: of some blocks, the input and the output are as `answers` says.
pub record Replies (answers : List Bytes → Input → Output → Type 0) (r : Run) : Type 0 where
  pub number : r.number ≡ 0
  pub blocks : List Bytes
  pub given : answers blocks r.input r.output

-- by the check of the tables
unfoldable pub RunsBy : Bytes → (List Bytes → Input → Output → Type 0) → Option TableFault → Run → Type 0
RunsBy header answers none r = Replies answers r
RunsBy header answers (some f) r = Refuses header f r

-- behind the header
unfoldable pub Runs : Bytes → (List Bytes → Input → Output → Type 0) → Option TableFault → Run → Type 0
Runs header answers o r = Unheaded r ⊎ RunsBy header answers o r
