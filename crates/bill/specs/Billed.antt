-- What a run of the program read and billed. Assumes nothing.
use Rattle.std.specs.Prelude.{◌≡◌, ◌⊎◌, List, [], ◌∷◌, ◌++◌, ℕ}
use Rattle.standard.specs.Delivery.{Bytes}
use Rattle.table.specs.Lines.{lines}
use Rattle.lines.specs.Squeeze.{handed_over, all_lines, together}
use Rattle.program_io.specs.declared.input.Input.{Input}
use Rattle.program_io.specs.Handed.{Read, Ended, Broken}
use Rattle.bill_lines.specs.Held.{Held}
use Rattle.bill_lines.specs.Text.{month_text, month_number}
use Rattle.bill.specs.declared.Billed.{Billed}

-- the input was the blocks bs, read to its end, and the bill is that of its lines
pub record Whole (A L : Bytes) (bs : List Bytes) (r : Billed) (ks : Bytes) (cs : List ℕ) : Type 0 where
  pub read : Ended bs r.input
  pub held : Held A L (lines (together bs)) r.counts ks cs

-- the last of the blocks bs was needed: of the lines that those before it hand over the bill is not refused
pub record Needed (A L : Bytes) (bs : List Bytes) : Type 0 where
  pub before : List Bytes
  pub block : Bytes
  pub last : bs ≡ before ++ (block ∷ [])
  pub unrefused : month_number A L (all_lines (handed_over [] before)) ≡ 0

-- the bill of the blocks bs, as many bytes as were read, is refused, whatever comes after them
pub record Refused (A L : Bytes) (bs : List Bytes) (r : Billed) (ks : Bytes) (cs : List ℕ) : Type 0 where
  pub read : Read bs r.input
  pub needed : Needed A L bs
  pub number : r.counts.number ≡ 0 → ⊥
  pub held : (ms : List Bytes) → Held A L (lines (together (bs ++ ms))) r.counts ks cs

-- one of these; or reading failed after the blocks bs
unfoldable pub Bills : Bytes → Bytes → List Bytes → Billed → Bytes → List ℕ → Type 0
Bills A L bs r ks cs = Whole A L bs r ks cs ⊎ (Refused A L bs r ks cs ⊎ Broken bs r.input)

-- What `says` holds of, the text of the bill: of the whole input, with its number.
pub record Text (A L : Bytes) (bs : List Bytes) (n : ℕ) (i : Input) (says : Bytes → Type 0) : Type 0 where
  pub read : Ended bs i
  pub number : n ≡ month_number A L (lines (together bs))
  pub text : says (month_text A L (lines (together bs)))

-- Of a refused one: of the blocks bs, as many bytes as were read, whatever comes after them; over bad tables of none.
pub record Refusal (A L : Bytes) (bs : List Bytes) (n : ℕ) (i : Input) (says : Bytes → Type 0) : Type 0 where
  pub read : Read bs i
  pub needed : (bs ≡ []) ⊎ Needed A L bs
  pub refused : n ≡ 0 → ⊥
  pub number : (ms : List Bytes) → n ≡ month_number A L (lines (together (bs ++ ms)))
  pub text : (ms : List Bytes) → says (month_text A L (lines (together (bs ++ ms))))

-- No text, since reading failed after the blocks bs.
pub record Nothing (bs : List Bytes) (n : ℕ) (i : Input) (says : Bytes → Type 0) : Type 0 where
  pub read : Broken bs i
  pub number : n ≡ 0
  pub text : says []

-- one of these
unfoldable pub Makes : Bytes → Bytes → List Bytes → ℕ → Input → (Bytes → Type 0) → Type 0
Makes A L bs n i says = Text A L bs n i says ⊎ (Refusal A L bs n i says ⊎ Nothing bs n i says)
