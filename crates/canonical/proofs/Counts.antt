-- Laws of counted hyphens. Assumes nothing.
use mathlib.Core.Path.{◌≡◌, refl, sym, ap, ◌∙◌}
use mathlib.Core.Bool.{Bool, true, false, cond, ◌||◌}
use mathlib.Core.List.{List, [], ◌∷◌, ◌++◌}
use Prim.Native.Nat.{ℕ, ◌+◌}
use native.Mathlib.Omega.{arith}
use lib.Dec.{eqb}
use lib.ListN.{length}
use borrow.Author.Tests.{eq-eqb, ne_eqb}
use Rattle.std.specs.List.{filter}
use Rattle.standard.specs.Tag.{Tag}
use Rattle.standard.specs.Grammar.{separator}
use Rattle.standard.proofs.General.{clash}
use Rattle.subtag.specs.Sections.{led}
use Rattle.canonical.specs.Form.{hyphen_of, hyphens}
use Rattle.canonical.proofs.Again.{Low, AllLow}

pub hyphen-yes : (b : ℕ) → b ≡ 45 → 1 ≡ hyphen_of b
unfolding hyphen_of
hyphen-yes b e = rw (eq-eqb b 45 e)

pub hyphen-no : (b : ℕ) → (b ≡ 45 → ⊥) → 0 ≡ hyphen_of b
unfolding hyphen_of
hyphen-no b e = rw (ne_eqb b 45 e)

-- the code's count
pub hyphens-filter : (s : List ℕ) → length (filter (λ b. eqb b 45) s) ≡ hyphens s
unfolding hyphens hyphen_of
hyphens-filter [] = refl
hyphens-filter (b ∷ s) = go (eqb b 45) (hyphens-filter s)
  where
    go : (r : Bool) → length (filter (λ b. eqb b 45) s) ≡ hyphens s → length (cond r (b ∷ filter (λ b. eqb b 45) s) (filter (λ b. eqb b 45) s)) ≡ cond r 1 0 + hyphens s
    go true e = omega arith
    go false e = omega arith

apart : (b : ℕ) → separator b ≡ false → b ≡ 45 → ⊥
unfolding separator
apart b e f = clash {b = true} refl (sym (ap (λ (q : Bool). q || eqb b 95) (eq-eqb b 45 f)) ∙ e)

low-none : (t : Tag) (x : List ℕ) → Low t → hyphens (t ++ x) ≡ hyphens x
unfolding Low hyphens
low-none [] x h = refl
low-none (b ∷ t) x h = omega (arith, hyphen-no b (apart b h.0), low-none t x h.2)

-- each subtag of a section in lower case has one
pub hyphens-led : (ts : List Tag) → AllLow ts → hyphens (led ts) ≡ length ts
unfolding AllLow hyphens led
hyphens-led [] h = refl
hyphens-led (t ∷ ts) h = omega (arith, hyphen-yes 45 refl, low-none t (led ts) h.0, hyphens-led ts h.1)
