-- The chain of parents by the bytes of its lines: a parent is a row's value, or what stands before the last `-`, or
-- `und`. Assumes nothing.
use Rattle.std.specs.Prelude.{true, false, List, [], ◌∷◌, ℕ, zero, suc, ◌-◌, eqb, ltb, length, get_or, take}
use Rattle.std.proofs.Math.Option.{Option, none, some}
use Rattle.standard.specs.Tag.{same}
use Rattle.standard.specs.Identifier.{und}
use Rattle.standard.specs.Delivery.{Bytes}
use Rattle.standard.specs.Table.{lookup, rows}

-- the last index below i with a `-`, or the length
unfoldable pub last_below : ℕ → Bytes → ℕ
last_below zero x = length x
last_below (suc i) x = elim (eqb (get_or x i 0) 45) [ true ↦ i | false ↦ last_below i x ]

-- the last index with a `-`, or the length
unfoldable pub last_dash : Bytes → ℕ
last_dash x = last_below (length x) x

-- 01, Chain of parents: the last subtag is dropped; a language alone has parent `und`.
unfoldable pub without_last : Bytes → Bytes
without_last x = elim (ltb (last_dash x) (length x)) [ true ↦ take (last_dash x) x | false ↦ und ]

-- a row's value, or the text without its last subtag
unfoldable pub parent_by : Option Bytes → Bytes → Bytes
parent_by none x = without_last x
parent_by (some w) x = w

-- the row of a line with v variants; a key of the table has none
unfoldable pub row_text : Bytes → ℕ → Bytes → Option Bytes
row_text P zero x = lookup (rows P) x
row_text P (suc v) x = none

-- the parent of a line with v variants
unfoldable pub parent_text : Bytes → ℕ → Bytes → Bytes
parent_text P v x = parent_by (row_text P v x) x

-- the lines from x with v variants, while steps are left
unfoldable pub chain_text : Bytes → ℕ → ℕ → Bytes → List Bytes
chain_text P zero v x = x ∷ []
chain_text P (suc n) v x = elim (same x und) [ true ↦ x ∷ [] | false ↦ x ∷ chain_text P n (v - 1) (parent_text P v x) ]
