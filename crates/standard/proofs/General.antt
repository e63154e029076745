-- Laws of truth values, numbers, options and lists that every crate may cite.
-- Assumes nothing.
use mathlib.Core.Path.{◌≡◌, refl, sym, ap, ◌∙◌}
use mathlib.Core.Bool.{Bool, true, false, ◌&&◌, ◌||◌, not}
use Prim.Native.Nat.{ℕ, ◌≤◌, ◌<◌, zero, suc, compare, Ordering}
use native.Mathlib.Omega.{arith}
use lib.Dec.{T, leb, is_le, compare_is_eq}
use mathlib.Core.Logic.{inr, ◌⊎◌, inl}
use mathlib.Core.List.{List, [], ◌∷◌, map}
use lib.ListN.{length}
use Rattle.standard.specs.Tag.{Tag, present, pick}
use borrow.Author.Tests.{leb-true, leb-false, eqb-true, eqb-false}

pub clash : {b : Bool} {P : Type 0} → b ≡ true → b ≡ false → P
clash e f = let z : ◌≡◌ {A = ℕ} 0 1 = cc in absurd (omega arith)

pub true→T : (b : Bool) → b ≡ true → T b
true→T true e = tt
true→T false e = clash {b = true} refl (sym e)

pub T→true : (b : Bool) → T b → b ≡ true
T→true true t = refl
T→true false t = absurd t

pub bool_cases : {P : Type 0} (b : Bool) → (b ≡ true → P) → (b ≡ false → P) → P
bool_cases true f g = f refl
bool_cases false f g = g refl

pub and-true : (a b : Bool) → (a && b) ≡ true → (a ≡ true) × (b ≡ true)
and-true true b e = (refl, e)
and-true false b e = (e, cc)

pub no : {P : Type 0} → false ≡ true → P
no e = clash {b = true} refl (sym e)

-- two tests that pass together are one
pub both_ways : (a b : Bool) → (a ≡ true → b ≡ true) → (b ≡ true → a ≡ true) → a ≡ b
both_ways true b f g = sym (f refl)
both_ways false true f g = g refl
both_ways false false f g = refl

pub none-there : (t : Tag) → not (present t) ≡ true → t ≡ []
unfolding present
none-there [] e = refl
none-there (b ∷ bs) e = clash {b = false} e refl

pub map-length : {A B : Type 0} (f : A → B) (xs : List A) → length (map f xs) ≡ length xs
map-length f [] = refl
map-length f (x ∷ xs) = ap suc (map-length f xs)

pub le-or-lt : (a b : ℕ) → (a ≤ b) ⊎ (b < a)
le-or-lt a b = go (leb a b) refl
  where
    go : (t : Bool) → leb a b ≡ t → (a ≤ b) ⊎ (b < a)
    go true h = inl (leb-true a b h)
    go false h = inr (leb-false a b h)

-- what a comparison of numbers says, and the other way round
pub compare-lt : (m n : ℕ) → compare m n ≡ Ordering.lt → m < n
compare-lt m n e = let h = leb-true m n (ap is_le e) in let k = eqb-false m n (ap compare_is_eq e) in omega arith

pub compare-gt : (m n : ℕ) → compare m n ≡ Ordering.gt → n < m
compare-gt m n e = leb-false m n (ap is_le e)

pub compare_same : (m n : ℕ) → compare m n ≡ Ordering.eq → m ≡ n
compare_same m n e = eqb-true m n (ap compare_is_eq e)

pub compare-less : (m n : ℕ) → m < n → compare m n ≡ Ordering.lt
compare-less m n h = go (compare m n) refl
  where
    go : (o : Ordering) → compare m n ≡ o → o ≡ Ordering.lt
    go Ordering.lt e = refl
    go Ordering.eq e = absurd (omega (arith, compare_same m n e))
    go Ordering.gt e = absurd (omega (arith, compare-gt m n e))

pub compare-more : (m n : ℕ) → n < m → compare m n ≡ Ordering.gt
compare-more m n h = go (compare m n) refl
  where
    go : (o : Ordering) → compare m n ≡ o → o ≡ Ordering.gt
    go Ordering.gt e = refl
    go Ordering.eq e = absurd (omega (arith, compare_same m n e))
    go Ordering.lt e = absurd (omega (arith, compare-lt m n e))

pub compare-equal : (m n : ℕ) → m ≡ n → compare m n ≡ Ordering.eq
compare-equal m n h = go (compare m n) refl
  where
    go : (o : Ordering) → compare m n ≡ o → o ≡ Ordering.eq
    go Ordering.eq e = refl
    go Ordering.lt e = absurd (omega (arith, compare-lt m n e))
    go Ordering.gt e = absurd (omega (arith, compare-gt m n e))

pub or_swap : (a b c : Bool) → (a || (b || c)) ≡ (b || (a || c))
or_swap true true c = refl
or_swap true false c = refl
or_swap false true c = refl
or_swap false false c = refl

pub pick-nil : (t : Tag) → pick t [] ≡ t
unfolding pick
pick-nil [] = refl
pick-nil (b ∷ t) = refl

-- the numbers below n, the highest first
unfoldable pub numbers_below : ℕ → List ℕ
numbers_below zero = []
numbers_below (suc n) = n ∷ numbers_below n

-- two functions that give the same over a range give the same at each number of it
pub at_each : {A : Type 0} (f g : ℕ → A) (n : ℕ) → map f (numbers_below n) ≡ map g (numbers_below n) → (k : ℕ) → k < n → f k ≡ g k
unfolding numbers_below
at_each f g zero e k h = absurd (omega arith)
at_each {A = A} f g (suc n) e k h = go (le-or-lt n k) (at_each f g n (ap others e) k)
  where
    first : List A → A
    first [] = f n
    first (x ∷ xs) = x

    others : List A → List A
    others [] = []
    others (x ∷ xs) = xs

    go : (n ≤ k) ⊎ (k < n) → (k < n → f k ≡ g k) → f k ≡ g k
    go (inl l) below-n = let q : k ≡ n = omega arith in ap f q ∙ ap first e ∙ ap g (sym q)
    go (inr l) below-n = below-n l
