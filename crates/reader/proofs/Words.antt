-- The words of a report. Assumes nothing.
use mathlib.Core.Path.{◌≡◌, refl, ap₂, ◌∙◌}
use mathlib.Core.Bool.{Bool, true, false}
use mathlib.Core.List.{List, [], ◌∷◌, map}
use Prim.Native.Nat.{ℕ, ◌+◌, ◌≤◌}
use native.Mathlib.Omega.{arith}
use lib.ListN.{length, take, drop}
use lib.Seq.{sets, sets-eq, take-append_seam}
use Rattle.standard.specs.Tag.{Tag, head_tag}
use Rattle.standard.specs.Grammar.{separator}
use Rattle.standard.specs.Reading.{split}
use Rattle.subtag.specs.Bytes.{normal_byte, cased}
use Rattle.subtag.proofs.Bytes.{normalise-other}
use Rattle.subtag.proofs.Walk.{label-sep, label-byte}

-- none
pub cased-none : (t : Tag) → cased 0 t ≡ t
unfolding cased
cased-none t = refl

-- the subtag at the front, by the bytes that it was read from
pub front-bytes : (s : List ℕ) → map normal_byte (take (length (head_tag (split s))) s) ≡ head_tag (split s)
unfolding split head_tag
front-bytes [] = refl
front-bytes (b ∷ s) = go (separator b) refl (front-bytes s)
  where
    go : (p : Bool) → separator b ≡ p → map normal_byte (take (length (head_tag (split s))) s) ≡ head_tag (split s)
        → map normal_byte (take (length (head_tag (split (b ∷ s)))) (b ∷ s)) ≡ head_tag (split (b ∷ s))
    go true e h = rw (label-sep b s e)
    go false e h = rw (label-byte b s e) (ap₂ (λ (c : ℕ) (t : Tag). c ∷ t) (normalise-other b e) h)

-- what was written at the front of eight bytes
pub written : (z t : List ℕ) (n : ℕ) → n ≡ length t → length t ≤ length z → take n (sets z 0 t) ≡ t
written z t n e h = ap₂ take e (sets-eq t z 0 (omega arith)) ∙ take-append_seam t (drop (0 + length t) z)
