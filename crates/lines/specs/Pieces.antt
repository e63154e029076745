-- Rows of the lines of a piece, written one after the other into a lent output as long as there is room: `need` bytes
-- free before each. `row` is the text of the row of a line. Assumes nothing.
use Rattle.std.specs.Prelude.{true, false, List, [], ◌∷◌, ◌++◌, ◌≡◌, ℕ, ◌+◌, ◌-◌, ◌≤◌, ◌<◌, leb, length}
use Rattle.table.specs.Lines.{lines}
use Rattle.lines.specs.Squeeze.{Bytes}

-- the rows, one after the other
unfoldable pub rows_text : (Bytes → Bytes) → List Bytes → Bytes
rows_text row [] = []
rows_text row (l ∷ ls) = row l ++ rows_text row ls

-- the lines that are answered in so many free bytes
unfoldable pub answered : (Bytes → Bytes) → ℕ → ℕ → List Bytes → List Bytes
answered row need room [] = []
answered row need room (l ∷ ls) = elim (leb need room) [ true ↦ l ∷ answered row need (room - length (row l)) ls | false ↦ [] ]

-- the bytes that lines take, each with its 0A
unfoldable pub span : List Bytes → ℕ
span [] = 0
span (l ∷ ls) = length l + 1 + span ls

-- of a piece x: the text of the rows, and how many of its bytes their lines take; only the last line can lack its 0A
unfoldable pub piece_text : (Bytes → Bytes) → ℕ → ℕ → Bytes → Bytes
piece_text row need room x = rows_text row (answered row need room (lines x))

-- the lesser of the two
unfoldable pub at_most : ℕ → ℕ → ℕ
at_most n m = n - (n - m)

-- how many bytes of a piece are answered
unfoldable pub piece_used : (Bytes → Bytes) → ℕ → ℕ → Bytes → ℕ
piece_used row need room x = at_most (length x) (span (answered row need room (lines x)))

-- where the next line starts, in a piece of n bytes, after a line that ends at e: behind its 0A, or at the end
pub record Next (n e at : ℕ) : Type 0 where
  pub behind : e < n → at ≡ e + 1
  pub end : n ≤ e → at ≡ e
