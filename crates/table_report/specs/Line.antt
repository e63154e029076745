-- The line of a verdict on the three tables: `table`, number, table, place, line of the file, row, meaning, parted by tabs.
-- Assumes nothing.
use Rattle.std.specs.Prelude.{Bool, cond, not, ◌||◌, [], ◌++◌, ℕ, ◌+◌, eqb, leb, ltb, length, take, drop}
use Rattle.standard.specs.Tag.{text}
use Rattle.tsv.specs.Fields.{decimal, field}
use Rattle.tsv.specs.Shown.{shown}
use Rattle.meaning.specs.Meaning.{meaning_of}
use Rattle.row_shapes.specs.declared.Table.{Table}
use Rattle.row_shapes.specs.declared.Table.TheVariants.{Aliases, Likely, Parents}
use Rattle.table_report.specs.Faults.{Bytes, row_in, count_of, shape_fault, order_fault}
use Rattle.table_report.specs.Words.{told_text}

-- whether a number names a row: 0 and 11 do not
unfoldable pub names_row : ℕ → Bool
names_row n = not (eqb n 0 || eqb n 11)

-- the line of the file where the row stands that starts at a place, from 1; 0 where none is named
unfoldable pub line_of : ℕ → Bytes → ℕ → ℕ
line_of n x p = cond (names_row n) (count_of 10 (take p x) + 1) 0

-- the row at the front of the rest of a table, where one is named
unfoldable pub row_for : ℕ → Bytes → Bytes
row_for n rest = cond (names_row n) (row_in rest) []

-- the words of the number; after 12 and 13 also what is wrong with the row
unfoldable pub meant_text : ℕ → Table → Bytes → ℕ → Bytes
meant_text n t x p = cond (eqb n 12) (told_text 12 (shape_fault t (drop p x))) (cond (eqb n 13) (told_text 13 (order_fault t x p)) (meaning_of n))

-- the first four fields, as 01 has them
unfoldable pub verdict_text : ℕ → ℕ → ℕ → Bytes
verdict_text number place table = field (text "table") 9 ++ (field (decimal number) 9 ++ (field (decimal table) 9 ++ field (decimal place) 9))

-- the other three, of the table x
unfoldable pub rest_text : ℕ → Table → Bytes → ℕ → Bytes
rest_text n t x p = field (decimal (line_of n x p)) 9 ++ (field (shown 255 (row_for n (drop p x))) 9 ++ field (meant_text n t x p) 10)

-- a place beyond the end counts as the end
unfoldable pub spot : ℕ → ℕ → ℕ
spot len p = cond (ltb len p) len p

-- the whole line, of the table x of this kind, which is named by a number
unfoldable pub line_text : ℕ → ℕ → ℕ → Table → Bytes → Bytes
line_text n p named t x = verdict_text n p named ++ rest_text n t x (spot (length x) p)

-- the line over the table that is named: 1 aliases, 2 likely, any other parents
unfoldable pub report_text : ℕ → ℕ → ℕ → Bytes → Bytes → Bytes → Bytes
report_text n p named A L P = cond (eqb named 1) (line_text n p named Aliases A) (cond (eqb named 2) (line_text n p named Likely L) (line_text n p named Parents P))

-- what is written into so many bytes: the line, or nothing in fewer than 2048
unfoldable pub told : ℕ → ℕ → ℕ → Bytes → Bytes → Bytes → ℕ → Bytes
told n p named A L P room = cond (leb 2048 room) (report_text n p named A L P) []
