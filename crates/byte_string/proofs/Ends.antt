-- Laws of the first place of a byte.
-- Assumes nothing.
use mathlib.Core.Path.{◌≡◌, refl, ap}
use mathlib.Core.Bool.{Bool, true, false, cond}
use mathlib.Core.List.{List, [], ◌∷◌}
use Prim.Native.Nat.{ℕ, zero, suc, ◌+◌, ◌≤◌, ◌<◌, zero-le, suc-le-suc}
use native.Mathlib.Nat.{le_of_suc-le-suc, not-suc-le-zero}
use native.Mathlib.Numerals.{add-one}
use lib.Dec.{eqb}
use lib.ListN.{length, get_or}
use borrow.Author.Tests.{eq-eqb, ne_eqb}
use Rattle.byte_string.specs.Strings.{end_of}

-- the end of a piece: at the byte, at another byte, and past the end
pub end-hit : (b : ℕ) (t : List ℕ) (i : ℕ) → i < length t → get_or t i 0 ≡ b → end_of b t i ≡ i
unfolding end_of
end-hit b [] i h e = absurd (not-suc-le-zero h)
end-hit b (x ∷ t) zero h e = rw (eq-eqb x b e)
end-hit b (x ∷ t) (suc i) h e = ap suc (end-hit b t i (le_of_suc-le-suc h) e)

end-miss' : (b : ℕ) (t : List ℕ) (i : ℕ) → i < length t → (get_or t i 0 ≡ b → ⊥) → end_of b t i ≡ end_of b t (suc i)
unfolding end_of
end-miss' b [] i h e = absurd (not-suc-le-zero h)
end-miss' b (x ∷ t) zero h e = rw (ne_eqb x b e)
end-miss' b (x ∷ t) (suc i) h e = ap suc (end-miss' b t i (le_of_suc-le-suc h) e)

pub end-miss : (b : ℕ) (t : List ℕ) (i : ℕ) → i < length t → (get_or t i 0 ≡ b → ⊥) → end_of b t i ≡ end_of b t (i + 1)
end-miss b t i h e = rw add-one (end-miss' b t i h e)

pub end-past : (b : ℕ) (t : List ℕ) (i : ℕ) → length t ≤ i → end_of b t i ≡ length t
unfolding end_of
end-past b [] i h = refl
end-past b (x ∷ t) zero h = absurd (not-suc-le-zero h)
end-past b (x ∷ t) (suc i) h = ap suc (end-past b t i (le_of_suc-le-suc h))

-- it is within the list, and not before where it was sought
pub end-le : (b : ℕ) (t : List ℕ) (i : ℕ) → end_of b t i ≤ length t
unfolding end_of
end-le b [] i = zero-le
end-le b (x ∷ t) zero = go (eqb x b) (end-le b t zero)
  where
    go : (c : Bool) → end_of b t zero ≤ length t → cond c zero (suc (end_of b t zero)) ≤ suc (length t)
    go true h = zero-le
    go false h = suc-le-suc h
end-le b (x ∷ t) (suc i) = suc-le-suc (end-le b t i)

pub end_ge : (b : ℕ) (t : List ℕ) (i : ℕ) → i ≤ length t → i ≤ end_of b t i
unfolding end_of
end_ge b [] i h = h
end_ge b (x ∷ t) zero h = zero-le
end_ge b (x ∷ t) (suc i) h = suc-le-suc (end_ge b t i (le_of_suc-le-suc h))

pub record Ends (b : ℕ) (t : List ℕ) (i e : ℕ) : Type 0 where
  pub low : i ≤ e
  pub high : e ≤ length t

pub ends : (b : ℕ) (t : List ℕ) (i e : ℕ) → e ≡ end_of b t i → i ≤ length t → Ends b t i e
ends b t i e q h = record { low = rw q (end_ge b t i h); high = rw q (end-le b t i) }
