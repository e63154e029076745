-- The class of a byte decides the standard's tests of it, and its letter case.
-- Assumes nothing.
use mathlib.Core.Path.{◌≡◌, refl, sym, ap, ◌∙◌}
use mathlib.Core.Bool.{Bool, true, false, not, ◌&&◌, ◌||◌}
use Prim.Native.Nat.{ℕ, ◌≤◌, ◌<◌}
use native.Mathlib.Omega.{arith}
use lib.Dec.{leb}
use borrow.Author.Tests.{le-leb, lt-leb, leb-true, ne_eqb}
use Rattle.standard.specs.Grammar.{small, capital, digit, separator, lower_byte}
use Rattle.standard.specs.Reading.{clean}
use Rattle.standard.proofs.General.{bool_cases, and-true}
use Rattle.subtag.specs.declared.Class.{Class}
use Rattle.subtag.specs.declared.Class.TheVariants.{Small, Capital, Digit, Separator, Other}
use Rattle.subtag.specs.contracts.Class.{the_type}
use denote.Enum.Bare.{sameb}
use Rattle.subtag.specs.Bytes.{class_of, is_small, is_capital, is_digit, is_separator, is_other, normal_byte}

-- a range test from the order facts of its byte
pub inside : (lo hi b : ℕ) → lo ≤ b → b ≤ hi → (leb lo b && leb b hi) ≡ true
inside lo hi b h k = simp (le-leb lo b h, le-leb b hi k)

pub under : (lo hi b : ℕ) → b < lo → (leb lo b && leb b hi) ≡ false
under lo hi b h = simp (lt-leb lo b h)

pub over : (lo hi b : ℕ) → lo ≤ b → hi < b → (leb lo b && leb b hi) ≡ false
over lo hi b l h = simp (le-leb lo b l, lt-leb b hi h)

-- and the order facts from a test
pub record Within (lo hi b : ℕ) : Type 0 where
  pub low : lo ≤ b
  pub high : b ≤ hi

range : (lo hi b : ℕ) → (leb lo b && leb b hi) ≡ true → Within lo hi b
range lo hi b e = let h = and-true (leb lo b) (leb b hi) e in record { low = leb-true lo b h.0; high = leb-true b hi h.1 }

pub no-sep : (b : ℕ) → (b ≡ 45 → ⊥) → (b ≡ 95 → ⊥) → separator b ≡ false
unfolding separator
no-sep b f g = simp (ne_eqb b 45 f, ne_eqb b 95 g)

pub digit-in : (b : ℕ) → digit b ≡ true → Within 48 57 b
unfolding digit
digit-in b e = range 48 57 b e

pub capital-in : (b : ℕ) → capital b ≡ true → Within 65 90 b
unfolding capital
capital-in b e = range 65 90 b e

pub small-in : (b : ℕ) → small b ≡ true → Within 97 122 b
unfolding small
small-in b e = range 97 122 b e

-- Every byte has one class, and the standard's tests go by it.
pub record Classed (b : ℕ) : Type 0 where
  pub small : small b ≡ is_small (class_of b)
  pub capital : capital b ≡ is_capital (class_of b)
  pub digit : digit b ≡ is_digit (class_of b)
  pub separator : separator b ≡ is_separator (class_of b)

pub classed : (b : ℕ) → Classed b
unfolding class_of
classed b =
    bool_cases (digit b) (λ d. let h = digit-in b d in as-digit d (not-capital (λ k. omega arith)) (not-small (λ k. omega arith)) (no-sep b (λ e. omega arith) (λ e. omega arith)))
    (λ d. bool_cases (capital b) (λ c. let h = capital-in b c in as-capital d c (not-small (λ k. omega arith)) (no-sep b (λ e. omega arith) (λ e. omega arith)))
    (λ c. bool_cases (small b) (λ s. let h = small-in b s in as-small d c s (no-sep b (λ e. omega arith) (λ e. omega arith)))
    (λ s. bool_cases (separator b) (as-separator d c s) (as-other d c s))))
  where
    not-capital : (Within 65 90 b → ⊥) → capital b ≡ false
    not-capital f = bool_cases (capital b) (λ e. absurd (f (capital-in b e))) (λ e. e)

    not-small : (Within 97 122 b → ⊥) → small b ≡ false
    not-small f = bool_cases (small b) (λ e. absurd (f (small-in b e))) (λ e. e)

    as-digit : digit b ≡ true → capital b ≡ false → small b ≡ false → separator b ≡ false → Classed b
    as-digit d c s p = let k : class_of b ≡ Digit = rw d in record { small = s ∙ rw k; capital = c ∙ rw k; digit = d ∙ rw k; separator = p ∙ rw k }

    as-capital : digit b ≡ false → capital b ≡ true → small b ≡ false → separator b ≡ false → Classed b
    as-capital d c s p = let k : class_of b ≡ Capital = rw (d, c) in record { small = s ∙ rw k; capital = c ∙ rw k; digit = d ∙ rw k; separator = p ∙ rw k }

    as-small : digit b ≡ false → capital b ≡ false → small b ≡ true → separator b ≡ false → Classed b
    as-small d c s p = let k : class_of b ≡ Small = rw (d, c, s) in record { small = s ∙ rw k; capital = c ∙ rw k; digit = d ∙ rw k; separator = p ∙ rw k }

    as-separator : digit b ≡ false → capital b ≡ false → small b ≡ false → separator b ≡ true → Classed b
    as-separator d c s p = let k : class_of b ≡ Separator = rw (d, c, s, p) in record { small = s ∙ rw k; capital = c ∙ rw k; digit = d ∙ rw k; separator = p ∙ rw k }

    as-other : digit b ≡ false → capital b ≡ false → small b ≡ false → separator b ≡ false → Classed b
    as-other d c s p = let k : class_of b ≡ Other = rw (d, c, s, p) in record { small = s ∙ rw k; capital = c ∙ rw k; digit = d ∙ rw k; separator = p ∙ rw k }

-- a byte that no identifier has, by its class
pub foreign-as : (b : ℕ) → not (clean b) ≡ is_other (class_of b)
unfolding clean
foreign-as b = let c = classed b in rw (c.small, c.capital, c.digit, c.separator) (go (class_of b))
  where
    go : (m : Class) → not ((is_small m || is_capital m) || (is_digit m || is_separator m)) ≡ is_other m
    go Small = refl
    go Capital = refl
    go Digit = refl
    go Separator = refl
    go Other = refl

-- what `==` finds of a class
pub small-class : (k : Class) → sameb the_type k Small ≡ is_small k
small-class Small = refl
small-class Capital = refl
small-class Digit = refl
small-class Separator = refl
small-class Other = refl

pub capital-class : (k : Class) → sameb the_type k Capital ≡ is_capital k
capital-class Small = refl
capital-class Capital = refl
capital-class Digit = refl
capital-class Separator = refl
capital-class Other = refl

pub digit-class : (k : Class) → sameb the_type k Digit ≡ is_digit k
digit-class Small = refl
digit-class Capital = refl
digit-class Digit = refl
digit-class Separator = refl
digit-class Other = refl

pub separator-class : (k : Class) → sameb the_type k Separator ≡ is_separator k
separator-class Small = refl
separator-class Capital = refl
separator-class Digit = refl
separator-class Separator = refl
separator-class Other = refl

pub other-class : (k : Class) → sameb the_type k Other ≡ is_other k
other-class Small = refl
other-class Capital = refl
other-class Digit = refl
other-class Separator = refl
other-class Other = refl

-- a test that the class decides, by the code's answer for the class
pub by-class : (b : ℕ) (test : Class → Bool) {k : Class} {r q : Bool} → r ≡ test k → k ≡ class_of b → q ≡ test (class_of b) → r ≡ q
by-class b test e f g = e ∙ ap test f ∙ sym g

pub normalise-sep : (b : ℕ) → separator b ≡ true → normal_byte b ≡ 45
unfolding normal_byte
normalise-sep b e = rw e

pub normalise-other : (b : ℕ) → separator b ≡ false → normal_byte b ≡ lower_byte b
unfolding normal_byte
normalise-other b e = rw e
