-- Laws of the first that is present of two subtags, one of them put in its case. Assumes nothing.
use mathlib.Core.Path.{◌≡◌, refl, ap}
use mathlib.Core.List.{[], ◌∷◌}
use Prim.Native.Nat.{ℕ, ◌≤◌, ◌<◌}
use native.Mathlib.Omega.{arith}
use lib.ListN.{length}
use Rattle.standard.specs.Tag.{Tag, pick}
use Rattle.subtag.specs.Bytes.{cased}
use Rattle.subtag.proofs.Cased.{cased-length, cased-nil}

-- the first that is present, where the first is put in its case
pub pick-none : (n : ℕ) (t y : Tag) → length t ≡ 0 → pick (cased n t) y ≡ y
unfolding pick
pick-none n [] y h = ap (λ (x : Tag). pick x y) (cased-nil n)
pick-none n (b ∷ t) y h = absurd (omega arith)

pub pick_some : (n : ℕ) (t y : Tag) → 0 < length t → pick (cased n t) y ≡ cased n t
unfolding pick
pick_some n t y h = go (cased n t) (omega (arith, cased-length n t))
  where
    go : (x : Tag) → 0 < length x → pick x y ≡ x
    go [] h = absurd (omega arith)
    go (b ∷ bs) h = refl

pub pick_small : (m n : ℕ) (t y : Tag) → length t ≤ m → length y ≤ m → length (pick (cased n t) y) ≤ m
unfolding pick
pick_small m n t y h k = go (cased n t) (omega (arith, cased-length n t))
  where
    go : (x : Tag) → length x ≤ m → length (pick x y) ≤ m
    go [] l = k
    go (b ∷ bs) l = l
