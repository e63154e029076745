-- Laws of how an input is written. Assumes nothing.
use mathlib.Core.Path.{◌≡◌, refl, sym, ap, ◌∙◌}
use mathlib.Core.Bool.{Bool, true, false, cond}
use mathlib.Core.List.{[], ◌∷◌}
use Prim.Native.Nat.{ℕ, suc, ◌-◌, ◌≤◌, ◌<◌}
use native.Mathlib.Omega.{arith}
use lib.Dec.{eqb, ltb}
use lib.ListN.{length, get_or}
use Rattle.byte_string.specs.Strings.{end_of}
use Rattle.encoding.specs.Encodings.{Bytes, behind_return, ends_in_return, has_return}

-- CR before the first 0A
behind-none : (b : ℕ) (x : Bytes) → length x ≤ end_of 10 x 0 → behind_return b x ≡ false
unfolding behind_return end_of
behind-none b [] h = refl
behind-none b (c ∷ x) h = go (eqb c 10) refl h (behind-none c x)
  where
    go : (t : Bool) → eqb c 10 ≡ t → suc (length x) ≤ cond (eqb c 10) 0 (suc (end_of 10 x 0)) → (length x ≤ end_of 10 x 0 → behind_return c x ≡ false) → cond (eqb c 10) (eqb b 13) (behind_return c x) ≡ false
    go true e h i = absurd (let z = rw e at h in omega arith)
    go false e h i = rw e (i (let z = rw e at h in omega arith))

behind-at : (b : ℕ) (x : Bytes) → end_of 10 x 0 < length x → behind_return b x ≡ eqb (get_or (b ∷ x) (end_of 10 x 0) 0) 13
unfolding behind_return end_of
behind-at b [] h = absurd (omega arith)
behind-at b (c ∷ x) h = go (eqb c 10) refl h (behind-at c x)
  where
    go : (t : Bool) → eqb c 10 ≡ t → cond (eqb c 10) 0 (suc (end_of 10 x 0)) < suc (length x) → (end_of 10 x 0 < length x → behind_return c x ≡ eqb (get_or (c ∷ x) (end_of 10 x 0) 0) 13)
        → cond (eqb c 10) (eqb b 13) (behind_return c x) ≡ eqb (get_or (b ∷ c ∷ x) (cond (eqb c 10) 0 (suc (end_of 10 x 0))) 0) 13
    go true e h i = rw e
    go false e h i = rw e (i (let z = rw e at h in omega arith))

pub return-none : (x : Bytes) (e : ℕ) → e ≡ end_of 10 x 0 → length x ≤ e → ends_in_return x ≡ false
unfolding ends_in_return
return-none x e q h = behind-none 0 x (omega arith)

module _ (x : Bytes) (e : ℕ) (q : e ≡ end_of 10 x 0) (h : e < length x) where
  pub return-first : e ≡ 0 → ends_in_return x ≡ false
  unfolding ends_in_return
  return-first z = behind-at 0 x (omega arith) ∙ ap (λ (k : ℕ). eqb (get_or (0 ∷ x) k 0) 13) (sym q ∙ z)

  pub return-at : (e ≡ 0 → ⊥) → ends_in_return x ≡ eqb (get_or x (e - 1) 0) 13
  unfolding ends_in_return
  return-at f =
      let z : e ≡ suc (e - 1) = omega arith in
      behind-at 0 x (omega arith) ∙ ap (λ (k : ℕ). eqb (get_or (0 ∷ x) k 0) 13) (sym q ∙ z)

-- an empty first line
pub return-none-or-first : (x : Bytes) (e : ℕ) → e ≡ end_of 10 x 0 → e ≡ 0 → ends_in_return x ≡ false
unfolding ends_in_return behind_return end_of
return-none-or-first [] e q z = refl
return-none-or-first (c ∷ x) e q z = go (eqb c 10) refl (sym q ∙ z)
  where
    go : (t : Bool) → eqb c 10 ≡ t → cond (eqb c 10) 0 (suc (end_of 10 x 0)) ≡ 0 → cond (eqb c 10) (eqb 0 13) (behind_return c x) ≡ false
    go true e h = rw e
    go false e h = absurd (let z = rw e at h in omega arith)

pub return-in : (x : Bytes) (a b : ℕ) → a ≡ end_of 13 x 0 → b ≡ end_of 10 x 0 → ltb a b ≡ has_return x
unfolding has_return
return-in x a b e f = rw (e, f)
