-- Rows of numbered lines of a piece, written one after the other into a lent output as long as there is room: `need` bytes
-- free before each. `row` is the text of the row of a line with its number. Assumes nothing.
use Rattle.std.specs.Prelude.{ℕ, ◌+◌, ◌-◌, ◌%◌, ◌^◌, true, false, List, [], ◌∷◌, ◌++◌, length, nat_le}
use Rattle.table.specs.Lines.{lines}
use Rattle.lines.specs.Squeeze.{Bytes}
use Rattle.lines.specs.Pieces.{span, at_most}

-- the number of the next line, as a word of 64 bits counts lines
unfoldable pub next_number : ℕ → ℕ
next_number n = (n + 1) % 2 ^ 64

-- the number behind lines whose first has the number n
unfoldable pub number_after : ℕ → List Bytes → ℕ
number_after n [] = n
number_after n (l ∷ ls) = number_after (next_number n) ls

-- the rows of lines whose first has the number n, one after the other
unfoldable pub rows_from : (ℕ → Bytes → Bytes) → ℕ → List Bytes → Bytes
rows_from row n [] = []
rows_from row n (l ∷ ls) = row n l ++ rows_from row (next_number n) ls

-- the lines that are answered in so many free bytes
unfoldable pub answered_from : (ℕ → Bytes → Bytes) → ℕ → ℕ → ℕ → List Bytes → List Bytes
answered_from row need room n [] = []
answered_from row need room n (l ∷ ls) =
    elim (nat_le need room) [ true ↦ l ∷ answered_from row need (room - length (row n l)) (next_number n) ls | false ↦ [] ]

-- the lines that are answered of a piece x whose first line has the number n
unfoldable pub piece_lines : (ℕ → Bytes → Bytes) → ℕ → ℕ → ℕ → Bytes → List Bytes
piece_lines row need room n x = answered_from row need room n (lines x)

-- the text of their rows
unfoldable pub piece_text : (ℕ → Bytes → Bytes) → ℕ → ℕ → ℕ → Bytes → Bytes
piece_text row need room n x = rows_from row n (piece_lines row need room n x)

-- how many bytes of the piece they take; only the last line can lack its 0A
unfoldable pub piece_used : (ℕ → Bytes → Bytes) → ℕ → ℕ → ℕ → Bytes → ℕ
piece_used row need room n x = at_most (length x) (span (piece_lines row need room n x))

-- the number of the line behind them
unfoldable pub piece_next : (ℕ → Bytes → Bytes) → ℕ → ℕ → ℕ → Bytes → ℕ
piece_next row need room n x = number_after n (piece_lines row need room n x)
