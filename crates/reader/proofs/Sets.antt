-- The number of a list of places, none twice. Assumes nothing.
use mathlib.Core.Path.{◌≡◌, refl, sym, ap, ◌∙◌}
use mathlib.Core.Bool.{Bool, true, false, ◌||◌}
use mathlib.Core.List.{List, [], ◌∷◌}
use Prim.Native.Nat.{ℕ, suc, ◌+◌, ◌^◌, ◌<◌}
use native.Mathlib.Omega.{arith}
use lib.Dec.{eqb}
use lib.ListN.{length}
use lib.Bits.{bit_or}
use lib.Count.{ones}
use borrow.Author.Tests.{eqb-true, eqb-false}
use Rattle.reader.specs.Marks.{bit, has}
use Rattle.reader.proofs.Bits.{ones-mark, ones_none, bit-mark-same, bit-mark-other, mark-lt, or-mark, bit-zero}

abbrev pub flag : Bool → ℕ
flag true = 1
flag false = 0

-- the number n has exactly the places l marked, as many as l has, all below 37
pub record Marks (n : ℕ) (l : List ℕ) : Type 0 where
  pub bits : (p : ℕ) → bit n p ≡ flag (has l p)
  pub count : ones n ≡ length l
  pub small : n < 2 ^ 37

-- no place is marked exactly where the number is 0
pub marks-empty : (n : ℕ) → Marks n [] → n ≡ 0
marks-empty n m = ones_none 37 n m.small m.count

pub marks-some : (n p : ℕ) (l : List ℕ) → Marks n (p ∷ l) → n ≡ 0 → ⊥
unfolding ones
marks-some n p l m e = let c : ones 0 ≡ suc (length l) = rw e at m.count in absurd (omega (arith, c))

pub marks-none : Marks 0 []
unfolding has ones
marks-none = record { bits = bit-zero; count = refl; small = omega arith }

pub marks-more : (n : ℕ) (l : List ℕ) (p : ℕ) → Marks n l → has l p ≡ false → p < 37 → Marks (bit_or n (2 ^ p)) (p ∷ l)
unfolding has
marks-more n l p m h b = rw (or-mark p n free) (record {
  bits = λ q. go q (eqb p q) refl;
  count = ones-mark p n free ∙ ap suc m.count;
  small = mark-lt p 37 n free b m.small;
})
  where
    free : bit n p ≡ 0
    free = m.bits p ∙ ap flag h

    go : (q : ℕ) (t : Bool) → eqb p q ≡ t → bit (2 ^ p + n) q ≡ flag (t || has l q)
    go q true e = ap (λ (x : ℕ). bit (2 ^ p + n) x) (sym (eqb-true p q e)) ∙ bit-mark-same p n free
    go q false e = bit-mark-other p q n free (eqb-false p q e) ∙ m.bits q

flag_one : (t : Bool) → eqb (flag t) 1 ≡ t
flag_one true = refl
flag_one false = refl

-- the code's test of a place
pub seen_test : {n : ℕ} {l : List ℕ} → Marks n l → (p : ℕ) → eqb (bit n p) 1 ≡ has l p
seen_test {n} {l} m p = ap (λ (x : ℕ). eqb x 1) (m.bits p) ∙ flag_one (has l p)
