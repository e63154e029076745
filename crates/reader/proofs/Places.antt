-- The places of the singletons' bytes: in range, and different for different bytes in lower case. Assumes nothing.
use mathlib.Core.Path.{◌≡◌, refl, sym, ap, ◌∙◌}
use mathlib.Core.Bool.{true}
use mathlib.Core.Logic.{◌⊎◌, inl, inr}
use Prim.Native.Nat.{ℕ, ◌-◌, ◌≤◌}
use native.Mathlib.Omega.{arith}
use lib.Dec.{eqb}
use borrow.Author.Tests.{eq-eqb, ne_eqb, eqb-true, eqb-false}
use Rattle.standard.proofs.General.{bool_cases, clash}
use Rattle.standard.proofs.Bytes.{word}
use Rattle.subtag.specs.declared.Class.{Class}
use Rattle.subtag.specs.declared.Class.TheVariants.{Small, Capital, Digit, Separator, Other}
use Rattle.subtag.specs.Bytes.{class_of, is_small, is_capital, is_digit}
use Rattle.subtag.proofs.Bytes.{classed, small-in, capital-in, digit-in}
use Rattle.reader.specs.Marks.{place_as, place_of}

module _ (b : ℕ) (k : Class) (e : k ≡ class_of b) where
  pub digit_low : k ≡ Digit → 48 ≤ b
  digit_low f = let h = digit-in b ((classed b).digit ∙ ap is_digit (sym e ∙ f)) in h.low

  pub small_low : k ≡ Small → 97 ≤ b
  small_low f = let h = small-in b ((classed b).small ∙ ap is_small (sym e ∙ f)) in h.low

  pub capital-low : k ≡ Capital → 65 ≤ b
  capital-low f = let h = capital-in b ((classed b).capital ∙ ap is_capital (sym e ∙ f)) in h.low

pub place_in : (b : ℕ) → place_of b ≤ 36
unfolding place_of place_as
place_in b = go (class_of b) refl
  where
    go : (k : Class) → class_of b ≡ k → place_as (class_of b) b ≤ 36
    go Small e = let h = small-in b ((classed b).small ∙ ap is_small e) in rw e (omega arith)
    go Capital e = let h = capital-in b ((classed b).capital ∙ ap is_capital e) in rw e (omega arith)
    go Digit e = let h = digit-in b ((classed b).digit ∙ ap is_digit e) in rw e (omega arith)
    go Separator e = rw e (omega arith)
    go Other e = rw e (omega arith)

-- bytes in lower case
pub record Lower (b : ℕ) : Type 0 where
  pub is : ((97 ≤ b) × (b ≤ 122) × (place_of b ≡ b - 87)) ⊎ ((48 ≤ b) × (b ≤ 57) × (place_of b ≡ b - 48))

lower-byte : (b : ℕ) → word b ≡ true → Lower b
unfolding word place_of place_as
lower-byte b w = go (class_of b) refl
  where
    go : (k : Class) → class_of b ≡ k → Lower b
    go Small e = let h = small-in b ((classed b).small ∙ ap is_small e) in record { is = inl (h.low, h.high, rw e) }
    go Capital e = clash {b = true} refl (sym (rw ((classed b).small, (classed b).digit, e) at w))
    go Digit e = let h = digit-in b ((classed b).digit ∙ ap is_digit e) in record { is = inr (h.low, h.high, rw e) }
    go Separator e = clash {b = true} refl (sym (rw ((classed b).small, (classed b).digit, e) at w))
    go Other e = clash {b = true} refl (sym (rw ((classed b).small, (classed b).digit, e) at w))

place-injective : (a b : ℕ) → Lower a → Lower b → place_of a ≡ place_of b → a ≡ b
place-injective a b h k e = go h.is k.is
  where
    go : ((97 ≤ a) × (a ≤ 122) × (place_of a ≡ a - 87)) ⊎ ((48 ≤ a) × (a ≤ 57) × (place_of a ≡ a - 48)) → ((97 ≤ b) × (b ≤ 122) × (place_of b ≡ b - 87)) ⊎ ((48 ≤ b) × (b ≤ 57) × (place_of b ≡ b - 48)) → a ≡ b
    go (inl x) (inl y) = omega (arith, x.0, x.1, x.2, y.0, y.1, y.2)
    go (inl x) (inr y) = omega (arith, x.0, x.1, x.2, y.0, y.1, y.2)
    go (inr x) (inl y) = omega (arith, x.0, x.1, x.2, y.0, y.1, y.2)
    go (inr x) (inr y) = omega (arith, x.0, x.1, x.2, y.0, y.1, y.2)

pub place_same : (a b : ℕ) → word a ≡ true → word b ≡ true → eqb (place_of a) (place_of b) ≡ eqb a b
place_same a b v w =
    bool_cases (eqb a b) (λ e. eq-eqb (place_of a) (place_of b) (ap place_of (eqb-true a b e)) ∙ sym e)
    (λ e. ne_eqb (place_of a) (place_of b) (λ f. eqb-false a b e (place-injective a b (lower-byte a v) (lower-byte b w) f)) ∙ sym e)
