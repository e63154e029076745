-- Lines of a table, by index; and what the code answers on the lookup of one row.
-- Assumes nothing.
use Rattle.std.specs.Prelude.{Bool, true, false, cond, List, [], ◌∷◌, ◌++◌, ℕ, ◌+◌, ◌-◌, ◌≤◌, eqb, take, drop, length, Option, Some, None}
use Rattle.std.specs.Option.{IfSome}
use Rattle.std.specs.declared.ops.Range.{Range}
use Rattle.std.proofs.Common.{Bor}
use Rattle.std.proofs.Math.Option.{Option as Maybe, none, some}
use Rattle.standard.specs.Table.{Found as Located}
use Rattle.standard.specs.Tag.{onto}

-- the lines of t, without their 0A. Bytes after the last 0A are a line unless there are none
unfoldable pub lines : List ℕ → List (List ℕ)
lines [] = []
lines (x ∷ t) = cond (eqb x 10) ([] ∷ lines t) (onto x (lines t))

-- l begins with p
unfoldable pub starts : List ℕ → List ℕ → Bool
starts [] l = true
starts (x ∷ p) [] = false
starts (x ∷ p) (y ∷ l) = cond (eqb x y) (starts p l) false

-- the answer where there is no row, and where there is one
abbrev pub no_row : Located
no_row = record { found = false; start = 0; len = 0 }

abbrev pub row_at : ℕ → ℕ → Located
row_at start len = record { found = true; start = start; len = len }

-- the answer on the line from i to e: the value begins behind the key and a tab
unfoldable pub row_in : List ℕ → List ℕ → ℕ → ℕ → Located
row_in t key i e = cond (starts (key ++ (9 ∷ [])) (take (e - i) (drop i t))) (row_at (i + length key + 1) (e - (i + length key + 1))) no_row

-- the standard's answer that the code's stands for: where the value is, or nothing
abbrev pub found_is : Option (Range ℕ) → Located
found_is None = no_row
found_is (Some r) = row_at r.start (r.end - r.start)

-- the place lies in the table
abbrev pub InTable : List ℕ → Option (Range ℕ) → Type 0
InTable t r = IfSome r (λ r. (r.start ≤ r.end) × (r.end ≤ length t))

-- the part of the table that an answer names
abbrev pub value_of : List ℕ → Located → List ℕ
value_of t f = take f.len (drop f.start t)

-- what an answer says, as the standard's lookup says it
abbrev pub value_if : List ℕ → Located → Maybe (List ℕ)
value_if t f = cond f.found (some (value_of t f)) none

-- the standard's value that a lent part stands for
abbrev pub value_is : Option (Bor (List ℕ)) → Maybe (List ℕ)
value_is None = none
value_is (Some v) = some v.now

-- a lookup's answer: its value, or nothing, and whether there is one
unfoldable pub value_or : Maybe (List ℕ) → List ℕ
value_or none = []
value_or (some v) = v

unfoldable pub is_found : Maybe (List ℕ) → Bool
is_found none = false
is_found (some v) = true
