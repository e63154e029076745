-- The line reader between two blocks of input: what a piece carries, and what one block more hands over. Assumes nothing.
use Rattle.std.specs.Prelude.{◌≡◌, List, [], ◌∷◌, ◌++◌, ℕ, ◌+◌, ◌-◌, ◌≤◌, ◌<◌, length, take, drop}
use Rattle.lines.specs.declared.Taken.{Taken}
use Rattle.lines.specs.Squeeze.{Bytes, handed_over, unfinished, handed}

-- the lines end within a piece of n bytes, and the unfinished one has at most 260 of them
pub record Placed (t : Taken) (n : ℕ) : Type 0 where
  pub behind : t.whole ≤ t.end
  pub few : t.end ≤ t.whole + 260
  pub within : t.end ≤ n

-- behind its whole lines the piece has the unfinished line of the blocks bs
unfoldable pub Carries : List Bytes → Taken → Bytes → Type 0
Carries bs t piece = take (t.end - t.whole) (drop t.whole piece) ≡ unfinished [] bs

-- What stands at the front of the piece after one more block b: its whole lines, and behind them the unfinished one; a block
-- of no bytes ends the input, and then it is the unfinished line.
pub record HandsOver (bs : List Bytes) (b : Bytes) (t : Taken) (piece : Bytes) : Type 0 where
  pub more : 0 < length b → handed_over [] (bs ++ (b ∷ [])) ≡ handed_over [] bs ++ (take t.whole piece ∷ [])
  pub carried : 0 < length b → Carries (bs ++ (b ∷ [])) t piece
  pub last : length b ≡ 0 → handed [] bs ≡ handed_over [] bs ++ (take t.whole piece ∷ [])
