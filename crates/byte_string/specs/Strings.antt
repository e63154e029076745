-- The order of byte strings as the code answers it, the first place of a byte, and what is written at a place.
-- Assumes nothing.
use Rattle.std.specs.Prelude.{cond, [], ◌∷◌, List, ◌≡◌, length, eqb}
use Prim.Native.Nat.{ℕ, ◌+◌, ◌≤◌, zero, suc, Ordering}
use Rattle.std.specs.declared.cmp.Ordering.{Ordering as Answer}
use Rattle.std.specs.declared.cmp.Ordering.TheVariants.{Less, Equal, Greater}
use Rattle.std.proofs.lemmas.List.Edits.{sets}

-- the standard's order that an answer stands for
abbrev pub order_of : Answer → Ordering
order_of Less = Ordering.lt
order_of Equal = Ordering.eq
order_of Greater = Ordering.gt

-- the index of the first byte b of s at or after the given index, or the length
unfoldable pub end_of : ℕ → List ℕ → ℕ → ℕ
end_of b [] i = zero
end_of b (x ∷ s) zero = cond (eqb x b) zero (suc (end_of b s zero))
end_of b (x ∷ s) (suc i) = suc (end_of b s i)

-- Writes a text at a place, and gives the next place.
abbrev pub Writes : List ℕ → ℕ → List ℕ → ℕ → List ℕ → Type 0
Writes out at text next out' = (next ≡ at + length text) × (out' ≡ sets out at text)

-- The same, where the next place is at most a bound.
abbrev pub WritesWithin : ℕ → List ℕ → ℕ → List ℕ → ℕ → List ℕ → Type 0
WritesWithin bound out at text next out' = (next ≡ at + length text) × (out' ≡ sets out at text) × (next ≤ bound)
