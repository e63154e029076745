-- Laws of the walk over a section. Assumes nothing.
use mathlib.Core.Path.{◌≡◌, refl, sym, ap, ◌∙◌}
use mathlib.Core.Bool.{Bool, true, false}
use mathlib.Core.List.{List, [], ◌∷◌, ◌++◌, map}
use Prim.Native.Nat.{ℕ, ◌+◌, ◌-◌, ◌≤◌, ◌<◌}
use native.Mathlib.Numerals.{add-one}
use native.Mathlib.Omega.{arith}
use lib.ListN.{length, get_or, drop, drop_of_length-le, length-drop}
use lib.Seq.{drop-cons, drop-drop}
use Rattle.standard.specs.Tag.{Tag, head_tag}
use Rattle.standard.specs.Grammar.{separator, lower_byte}
use Rattle.standard.specs.Reading.{split, after_first}
use Rattle.subtag.specs.Bytes.{normal_byte}
use Rattle.subtag.specs.Sections.{tags_of, led, Led}
use Rattle.subtag.proofs.Walk as walk
use Rattle.subtag.proofs.Walk.{split-cons, label-byte, label-sep, label-fits, after-byte, after-sep}
use Rattle.subtag.proofs.Bytes.{normalise-sep, normalise-other}

pub record Rest (s r : List ℕ) : Type 0 where
  pub begins : Led r
  pub tags : tags_of r ≡ after_first (split s)

pub split_rest : (s : List ℕ) → Rest s (drop (length (head_tag (split s))) s)
unfolding Led tags_of
split_rest s = let r = walk.split_rest s in record { begins = r.begins; tags = r.tags }

-- The walk from one subtag to the next. The section goes on at the place at.
pub record Step (s : List ℕ) (at len : ℕ) : Type 0 where
  pub tags : tags_of (drop at s) ≡ head_tag (split (drop (at + 1) s)) ∷ tags_of (drop (at + 1 + len) s)
  pub begins : Led (drop (at + 1 + len) s)
  pub fits : at + 1 + len ≤ length s

pub led-sep : (b : ℕ) (s : List ℕ) → Led (b ∷ s) → separator b ≡ true
unfolding Led
led-sep b s h = go (separator b) refl
  where
    go : (p : Bool) → separator b ≡ p → separator b ≡ true
    go true e = e
    go false e = cc (label-byte b s e)

pub step : (s : List ℕ) (at len : ℕ) → at < length s → Led (drop at s) → len ≡ length (head_tag (split (drop (at + 1) s))) → Step s at len
unfolding Led tags_of
step s at len h l e =
    let r = drop (at + 1) s in
    let c : drop at s ≡ get_or s at 0 ∷ r = rw (add-one, drop-cons s at 0) in
    let p : separator (get_or s at 0) ≡ true = led-sep (get_or s at 0) r (rw c at l) in
    let d : drop (length (head_tag (split r))) r ≡ drop (at + 1 + len) s = drop-drop (length (head_tag (split r))) (at + 1) s ∙ ap (λ (k : ℕ). drop (at + 1 + k) s) (sym e) in
    let w : Rest r (drop (at + 1 + len) s) = rw d at (split_rest r) in
    let f : length (head_tag (split r)) ≤ length s - (at + 1) = rw length-drop at (label-fits r) in
    record { tags = ap (λ (x : List ℕ). after_first (split x)) c ∙ after-sep (get_or s at 0) r p ∙ split-cons r ∙ ap (◌∷◌ (head_tag (split r))) (sym w.tags); begins = w.begins; fits = omega arith }

pub tags-end : (s : List ℕ) (at : ℕ) → length s ≤ at → tags_of (drop at s) ≡ []
unfolding tags_of split after_first
tags-end s at h = ap (λ (x : List ℕ). after_first (split x)) (drop_of_length-le s h)

-- the bytes of a section
pub tidied : (s : List ℕ) → map normal_byte s ≡ head_tag (split s) ++ led (after_first (split s))
unfolding split head_tag after_first led
tidied [] = refl
tidied (b ∷ s) = go (separator b) refl (tidied s)
  where
    go : (p : Bool) → separator b ≡ p → map normal_byte s ≡ head_tag (split s) ++ led (after_first (split s))
        → map normal_byte (b ∷ s) ≡ head_tag (split (b ∷ s)) ++ led (after_first (split (b ∷ s)))
    go true e h = rw (label-sep b s e, after-sep b s e, normalise-sep b e, split-cons s) (ap (◌∷◌ 45) h)
    go false e h = rw (label-byte b s e, after-byte b s e, normalise-other b e) (ap (◌∷◌ (lower_byte b)) h)

pub section-bytes : (s : List ℕ) → Led s → map normal_byte s ≡ led (tags_of s)
unfolding Led tags_of
section-bytes s l = tidied s ∙ ap (λ (t : Tag). t ++ led (after_first (split s))) l
