-- Laws of the numbers' words. Assumes nothing.
use mathlib.Core.Path.{◌≡◌, ap}
use mathlib.Core.List.{List}
use Prim.Native.Nat.{ℕ, ◌+◌, ◌≤◌}
use native.Mathlib.Omega.{arith}
use lib.ListN.{length}
use borrow.Author.Tests.{ne_eqb}
use Rattle.byte_string.specs.Strings.{Writes, WritesWithin}
use Rattle.tsv.specs.Fields.{field}
use Rattle.tsv.proofs.Laws.{field-length}
use Rattle.standard.specs.Tag.{text}
use Rattle.meaning.specs.Meaning.{refusal_of, meaning_of}

module _ (words : ℕ → List ℕ) (n : ℕ) (o o' : List ℕ) (at r mark : ℕ) where
  -- a number's words written
  pub said : (x : List ℕ) → words n ≡ x → length x ≤ 79 → Writes o at (field x mark) r o' → WritesWithin (at + 80) o at (field (words n) mark) r o'
  said x e h w = let l = field-length x mark in rw e (w.0, w.1, omega (arith, w.0))

  pub said_of : (k : ℕ) → n ≡ k → length (words k) ≤ 79 → Writes o at (field (words k) mark) r o' → WritesWithin (at + 80) o at (field (words n) mark) r o'
  said_of k e = said (words k) (ap words e)

-- none of the numbers with which reading refuses
abbrev NoRefusal : ℕ → Type 0
NoRefusal n = ((((((((Unit {0} × (n ≡ 1 → ⊥)) × (n ≡ 2 → ⊥)) × (n ≡ 3 → ⊥)) × (n ≡ 4 → ⊥)) × (n ≡ 5 → ⊥)) × (n ≡ 6 → ⊥)) × (n ≡ 7 → ⊥)) × (n ≡ 15 → ⊥)) × (n ≡ 16 → ⊥)

pub no_such : (n : ℕ) → NoRefusal n → refusal_of n ≡ text "no such number"
unfolding refusal_of
no_such n f = rw (ne_eqb n 1 f.0.0.0.0.0.0.0.0.1, ne_eqb n 2 f.0.0.0.0.0.0.0.1, ne_eqb n 3 f.0.0.0.0.0.0.1, ne_eqb n 4 f.0.0.0.0.0.1, ne_eqb n 5 f.0.0.0.0.1, ne_eqb n 6 f.0.0.0.1, ne_eqb n 7 f.0.0.1, ne_eqb n 15 f.0.1, ne_eqb n 16 f.1)

-- none of the others that have words
abbrev NoOther : ℕ → Type 0
NoOther n = (((((((((Unit {0} × (n ≡ 0 → ⊥)) × (n ≡ 8 → ⊥)) × (n ≡ 9 → ⊥)) × (n ≡ 10 → ⊥)) × (n ≡ 11 → ⊥)) × (n ≡ 12 → ⊥)) × (n ≡ 13 → ⊥)) × (n ≡ 14 → ⊥)) × (n ≡ 17 → ⊥)) × (n ≡ 18 → ⊥)

pub else-refusal : (n : ℕ) → NoOther n → meaning_of n ≡ refusal_of n
unfolding meaning_of
else-refusal n f = rw (ne_eqb n 0 f.0.0.0.0.0.0.0.0.0.1, ne_eqb n 8 f.0.0.0.0.0.0.0.0.1, ne_eqb n 9 f.0.0.0.0.0.0.0.1, ne_eqb n 10 f.0.0.0.0.0.0.1, ne_eqb n 11 f.0.0.0.0.0.1, ne_eqb n 12 f.0.0.0.0.1, ne_eqb n 13 f.0.0.0.1, ne_eqb n 14 f.0.0.1, ne_eqb n 17 f.0.1, ne_eqb n 18 f.1)
