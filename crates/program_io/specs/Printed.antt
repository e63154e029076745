-- Standard output as the programs print it. Assumes nothing.
use Rattle.std.specs.Prelude.{◌≡◌, ℕ, ◌+◌, ◌%◌, ◌^◌, true, false, ◌⊎◌, List, [], ◌∷◌, ◌++◌, length}
use Rattle.table.specs.Lines.{lines}
use Rattle.lines.specs.Squeeze.{Bytes, handed_over, handed, all_lines, together}
use Rattle.program_io.specs.declared.input.Input.{Input}
use Rattle.program_io.specs.declared.output.Output.{Output}
use Rattle.program_io.specs.Handed.{Read, Ended, Broken}

-- A text of n bytes was printed; or a write failed, and then, as after an earlier one, no more is counted.
pub record Prints (o : Output) (n : ℕ) (r : Output) : Type 0 where
  pub stays : o.failed ≡ true → r ≡ o
  pub counted : r.failed ≡ false → r.bytes ≡ (o.bytes + n) % 2 ^ 64
  pub failed : r.failed ≡ true → r.bytes ≡ o.bytes

-- The text is all that was printed, unless a write failed.
unfoldable pub IsPrinted : Output → Bytes → Type 0
IsPrinted o text = o.failed ≡ false → o.bytes ≡ length text % 2 ^ 64

-- Of lines whose rows are `rows`: all rows were printed; or a write failed, and those of the first lines were.
pub record PrintsLines (rows : List Bytes → Bytes) (ls : List Bytes) (o : Output) (r : Output) : Type 0 where
  pub all : r.failed ≡ false → r.bytes ≡ (o.bytes + length (rows ls)) % 2 ^ 64
  pub first : r.failed ≡ true → ((ms ns : List Bytes) × (ls ≡ ms ++ ns) × (r.bytes ≡ (o.bytes + length (rows ms)) % 2 ^ 64))

-- rows behind a header
unfoldable pub headed : Bytes → (List Bytes → Bytes) → List Bytes → Bytes
headed header rows ls = header ++ rows ls

-- The header was printed, and nothing else.
pub record Headed (header : Bytes) (o : Output) : Type 0 where
  pub printed : o.failed ≡ false
  pub bytes : o.bytes ≡ length header % 2 ^ 64

-- The input was the blocks bs, read to its end, and the rows of its lines were printed.
pub record Answered (rows : List Bytes → Bytes) (bs : List Bytes) (i : Input) (o : Output) : Type 0 where
  pub read : Ended bs i
  pub printed : o.failed ≡ false
  pub bytes : o.bytes ≡ length (rows (lines (together bs))) % 2 ^ 64

-- After the blocks bs reading failed, and the rows of their whole lines were printed.
pub record Unread (rows : List Bytes → Bytes) (bs : List Bytes) (i : Input) (o : Output) : Type 0 where
  pub read : Broken bs i
  pub printed : o.failed ≡ false
  pub bytes : o.bytes ≡ length (rows (all_lines (handed_over [] bs))) % 2 ^ 64

-- The blocks bs were read, and then a write failed among the rows of the piece x, which they hand over last: those of the
-- pieces before it were printed.
pub record Unwritten (rows : List Bytes → Bytes) (bs : List Bytes) (i : Input) (o : Output) : Type 0 where
  pub read : Read bs i
  pub failed : o.failed ≡ true
  pub pieces : List Bytes
  pub x : Bytes
  pub last : (handed_over [] bs ≡ pieces ++ (x ∷ [])) ⊎ (handed [] bs ≡ pieces ++ (x ∷ []))
  pub ls : List Bytes
  pub ms : List Bytes
  pub cut : lines x ≡ ls ++ ms
  pub bytes : o.bytes ≡ length (rows (all_lines pieces ++ ls)) % 2 ^ 64

-- what a run came to: one of the three
unfoldable pub Answers : (List Bytes → Bytes) → List Bytes → Input → Output → Type 0
Answers rows bs i o = Answered rows bs i o ⊎ (Unread rows bs i o ⊎ Unwritten rows bs i o)
