-- The order of two byte strings and their equality, as std's slices have them.
-- Assumes nothing.
use mathlib.Core.Path.{◌≡◌, refl, sym, ap, ap₂, ◌∙◌}
use mathlib.Core.List.{List, [], ◌∷◌}
use Prim.Native.Nat.{ℕ, ◌<◌, compare}
use lib.Dec.{compare_is_eq}
use lib.Pointwise.{pointwise}
use Rattle.std.specs.Prelude.{nat_eq}
use Rattle.std.specs.declared.cmp.Ordering.{Ordering}
use Rattle.std.specs.declared.cmp.Ordering.TheVariants.{Less, Equal, Greater}
use Rattle.std.specs.Ordering.{MatchOrdering, nat_cmp, ordering_then, is_eq}
use Rattle.std.specs.Cmp.Lexicographic.{slice_cmp, texts_ties}
use Rattle.std.proofs.lemmas.Cmp.{ranked}
use Rattle.byte_string.specs.Strings.{order_of}
use Rattle.standard.specs.Tag.{and_then, order, same}
use Rattle.standard.proofs.General.{compare-less, compare-more, compare-equal}

-- of two numbers
of_numbers : (x y : ℕ) → order_of (nat_cmp x y) ≡ compare x y
of_numbers x y = go (nat_cmp x y) (ranked x y (nat_cmp x y) refl)
  where
    go : (o : Ordering) → MatchOrdering o (x < y) (x ≡ y) (y < x) → order_of o ≡ compare x y
    go Less h = sym (compare-less x y h)
    go Equal h = sym (compare-equal x y h)
    go Greater h = sym (compare-more x y h)

of_first : (o p : Ordering) → order_of (ordering_then o p) ≡ and_then (order_of o) (order_of p)
of_first Less p = refl
of_first Equal p = refl
of_first Greater p = refl

pub of-slices : (a b : List ℕ) → order_of (slice_cmp nat_cmp a b) ≡ order a b
unfolding order
of-slices [] [] = refl
of-slices [] (y ∷ b) = refl
of-slices (x ∷ a) [] = refl
of-slices (x ∷ a) (y ∷ b) = of_first (nat_cmp x y) (slice_cmp nat_cmp a b) ∙ ap₂ and_then (of_numbers x y) (of-slices a b)

equal_is : (o : Ordering) → is_eq o ≡ compare_is_eq (order_of o)
equal_is Less = refl
equal_is Equal = refl
equal_is Greater = refl

pub of-equal : (a b : List ℕ) → pointwise nat_eq a b ≡ same a b
unfolding same
of-equal a b = texts_ties a b ∙ equal_is (slice_cmp nat_cmp a b) ∙ ap compare_is_eq (of-slices a b)
