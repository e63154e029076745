-- Standard input as the programs read it: the blocks so far, one after the other, what they handed over, and how it ended.
-- Assumes nothing.
use Rattle.std.specs.Prelude.{◌≡◌, ℕ, ◌+◌, ◌<◌, ◌≤◌, Bool, true, false, List, [], ◌∷◌, ◌++◌, length, take, zero, suc, Result, Ok, Err}
use Rattle.lines.specs.Squeeze.{Bytes as Text, handed_over, handed, together}
use Rattle.lines.specs.Reader.{Carries}
use Rattle.program_io.specs.declared.input.Last.{Last}
use Rattle.program_io.specs.declared.input.Last.TheVariants.{Block, End, Failure}
use Rattle.program_io.specs.declared.input.Got.{Got}
use Rattle.program_io.specs.declared.input.Input.{Input}

-- whether the input ended
abbrev pub is_end : Last → Bool
is_end Block = false
is_end End = true
is_end Failure = false

-- whether reading failed, which is not the end
abbrev pub is_failure : Last → Bool
is_failure Block = false
is_failure End = false
is_failure Failure = true

-- so many bytes, and how the input went on
pub record GotAs (n : ℕ) (l : Last) (g : Got) : Type 0 where
  pub len : g.len ≡ n
  pub last : g.last ≡ l

-- what reading gave, as a call said it: no bytes are the end, and a call that failed is a failure
abbrev pub IsGot : {E : Type 0} → Result ℕ E → Got → Type 0
IsGot (Ok zero) g = GotAs 0 End g
IsGot (Ok (suc n)) g = GotAs (suc n) Block g
IsGot (Err e) g = GotAs 0 Failure g

-- a block has some bytes, at most n; else there are none
pub record GotWithin (g : Got) (n : ℕ) : Type 0 where
  pub few : g.len ≤ n
  pub some : g.last ≡ Block → 0 < g.len
  pub end : g.last ≡ End → g.len ≡ 0
  pub failure : g.last ≡ Failure → g.len ≡ 0

-- room for a block of some bytes, and for it behind an unfinished line
pub record Room (block piece : ℕ) : Type 0 where
  pub some : 0 < block
  pub behind : 260 + block ≤ piece

-- The blocks bs were read, and there may be more.
pub record Going (bs : List Text) (i : Input) (piece : Text) : Type 0 where
  pub more : i.last ≡ Block
  pub bytes : i.bytes ≡ length (together bs)
  pub carried : Carries bs i.taken piece

-- The blocks bs were read, with no failure.
pub record Read (bs : List Text) (i : Input) : Type 0 where
  pub unfailed : is_failure i.last ≡ false
  pub bytes : i.bytes ≡ length (together bs)

-- The blocks bs were read, and they are the whole input.
pub record Ended (bs : List Text) (i : Input) : Type 0 where
  pub no_more : i.last ≡ End
  pub bytes : i.bytes ≡ length (together bs)

-- The blocks bs were read, and then reading failed.
pub record Broken (bs : List Text) (i : Input) : Type 0 where
  pub failed : i.last ≡ Failure
  pub bytes : i.bytes ≡ length (together bs)

-- What stands at the front of the piece after reading once more, behind what was handed over before: the whole lines of the
-- block b that was read, or at the end of the input the unfinished line.
pub record Handed (bs : List Text) (b : Text) (i : Input) (piece : Text) : Type 0 where
  pub going : i.last ≡ Block → Going (bs ++ (b ∷ [])) i piece
  pub lines : i.last ≡ Block → handed_over [] (bs ++ (b ∷ [])) ≡ handed_over [] bs ++ (take i.taken.whole piece ∷ [])
  pub ended : i.last ≡ End → Ended bs i
  pub last : i.last ≡ End → handed [] bs ≡ handed_over [] bs ++ (take i.taken.whole piece ∷ [])
  pub broken : i.last ≡ Failure → Broken bs i

-- The bytes of a block are counted; it has some, and no count goes over what a word holds.
pub record Counted (i r : Input) (block : ℕ) : Type 0 where
  pub few : r.got ≤ block
  pub bytes : r.bytes ≡ i.bytes + r.got
  pub most : r.bytes ≤ 18446744073709551615
  pub some : r.last ≡ Block → 0 < r.got
