-- Laws of `split`: the subtag at the front of what is left, byte by byte, and the walk from one subtag to the next.
-- Assumes nothing.
use mathlib.Core.Path.{◌≡◌, refl, sym, ap, ◌∙◌}
use mathlib.Core.Bool.{Bool, true, false}
use mathlib.Core.List.{List, [], ◌∷◌}
use Prim.Native.Nat.{ℕ, suc, ◌+◌, ◌-◌, ◌≤◌, ◌<◌}
use native.Mathlib.Numerals.{add-one}
use native.Mathlib.Omega.{arith}
use lib.ListN.{length, get_or, take, drop, drop_of_length-le, length-drop}
use lib.Seq.{drop-cons, drop-drop, take_all}
use Rattle.standard.specs.Tag.{Tag, head_tag, onto}
use Rattle.standard.specs.Grammar.{separator, lower_byte}
use Rattle.standard.specs.Reading.{split, after_first}
use Rattle.subtag.specs.declared.Subtag.{Subtag}
use Rattle.subtag.specs.Subtags.{subtag_of}

label-onto : (b : ℕ) (ts : List Tag) → head_tag (onto b ts) ≡ b ∷ head_tag ts
unfolding head_tag onto
label-onto b [] = refl
label-onto b (t ∷ ts) = refl

after-onto : (b : ℕ) (ts : List Tag) → after_first (onto b ts) ≡ after_first ts
unfolding after_first onto
after-onto b [] = refl
after-onto b (t ∷ ts) = refl

-- One byte in front.
module _ (b : ℕ) (s : List ℕ) where
  pub split-sep : separator b ≡ true → split (b ∷ s) ≡ [] ∷ split s
  unfolding split
  split-sep e = rw (e, split)

  pub split-byte : separator b ≡ false → split (b ∷ s) ≡ onto (lower_byte b) (split s)
  unfolding split
  split-byte e = rw (e, split)

  pub label-byte : separator b ≡ false → head_tag (split (b ∷ s)) ≡ lower_byte b ∷ head_tag (split s)
  label-byte e = ap head_tag (split-byte e) ∙ label-onto (lower_byte b) (split s)

  pub after-byte : separator b ≡ false → after_first (split (b ∷ s)) ≡ after_first (split s)
  after-byte e = ap after_first (split-byte e) ∙ after-onto (lower_byte b) (split s)

  pub label-sep : separator b ≡ true → head_tag (split (b ∷ s)) ≡ []
  unfolding head_tag
  label-sep e = ap head_tag (split-sep e)

  pub after-sep : separator b ≡ true → after_first (split (b ∷ s)) ≡ split s
  unfolding after_first
  after-sep e = ap after_first (split-sep e)

-- a subtag and what follows it
pub split-cons : (s : List ℕ) → split s ≡ head_tag (split s) ∷ after_first (split s)
unfolding split head_tag after_first onto
split-cons [] = refl
split-cons (b ∷ s) = go (separator b) refl
  where
    cons : (ts : List Tag) → onto (lower_byte b) ts ≡ head_tag (onto (lower_byte b) ts) ∷ after_first (onto (lower_byte b) ts)
    cons [] = refl
    cons (t ∷ ts) = refl

    go : (p : Bool) → separator b ≡ p → split (b ∷ s) ≡ head_tag (split (b ∷ s)) ∷ after_first (split (b ∷ s))
    go true e = rw (split-sep b s e)
    go false e = rw (split-byte b s e) (cons (split s))

-- what follows the first subtag begins with its separator
pub record Rest (s r : List ℕ) : Type 0 where
  pub begins : head_tag (split r) ≡ []
  pub tags : after_first (split r) ≡ after_first (split s)

pub split_rest : (s : List ℕ) → Rest s (drop (length (head_tag (split s))) s)
unfolding split head_tag after_first
split_rest [] = record { begins = refl; tags = refl }
split_rest (b ∷ s) = go (separator b) refl (split_rest s)
  where
    go : (p : Bool) → separator b ≡ p → Rest s (drop (length (head_tag (split s))) s) → Rest (b ∷ s) (drop (length (head_tag (split (b ∷ s)))) (b ∷ s))
    go true e r = rw (label-sep b s e) (record { begins = label-sep b s e; tags = refl })
    go false e r = rw (label-byte b s e) (record { begins = r.begins; tags = r.tags ∙ sym (after-byte b s e) })

pub label-fits : (s : List ℕ) → length (head_tag (split s)) ≤ length s
unfolding split head_tag
label-fits [] = omega arith
label-fits (b ∷ s) = go (separator b) refl (label-fits s)
  where
    go : (p : Bool) → separator b ≡ p → length (head_tag (split s)) ≤ length s → length (head_tag (split (b ∷ s))) ≤ suc (length s)
    go true e h = rw (label-sep b s e) (omega arith)
    go false e h = rw (label-byte b s e) (omega arith)

-- The byte at an index.
pub at-end : (s : List ℕ) (i : ℕ) → length s ≤ i → head_tag (split (drop i s)) ≡ []
unfolding split head_tag
at-end s i h = ap (λ (x : List ℕ). head_tag (split x)) (drop_of_length-le s h)

pub at-sep : (s : List ℕ) (i : ℕ) → i < length s → separator (get_or s i 0) ≡ true → head_tag (split (drop i s)) ≡ []
at-sep s i h e = rw (drop-cons s i 0 h) (label-sep (get_or s i 0) (drop (suc i) s) e)

pub at_byte : (s : List ℕ) (i : ℕ) → i < length s → separator (get_or s i 0) ≡ false → head_tag (split (drop i s)) ≡ lower_byte (get_or s i 0) ∷ head_tag (split (drop (i + 1) s))
at_byte s i h e = rw (add-one, drop-cons s i 0 h) (label-byte (get_or s i 0) (drop (suc i) s) e)

-- From one subtag to the next.
pub split-end : (s : List ℕ) → length s ≤ length (head_tag (split s)) → split s ≡ head_tag (split s) ∷ []
unfolding split after_first
split-end s h =
    let r = split_rest s in
    split-cons s ∙ ap (◌∷◌ (head_tag (split s))) (sym r.tags ∙ ap (λ (x : List ℕ). after_first (split x)) (drop_of_length-le s h))

led-sep : (b : ℕ) (s : List ℕ) → head_tag (split (b ∷ s)) ≡ [] → separator b ≡ true
led-sep b s h = go (separator b) refl
  where
    go : (p : Bool) → separator b ≡ p → separator b ≡ true
    go true e = e
    go false e = cc (label-byte b s e)

pub split-next : (s : List ℕ) → length (head_tag (split s)) < length s → split s ≡ head_tag (split s) ∷ split (drop (suc (length (head_tag (split s)))) s)
split-next s h =
    let n = length (head_tag (split s)) in
    let r = split_rest s in
    let c = drop-cons s n 0 h in
    let p = led-sep (get_or s n 0) (drop (suc n) s) (rw c at r.begins) in
    split-cons s ∙ ap (◌∷◌ (head_tag (split s))) (sym r.tags ∙ ap (λ (x : List ℕ). after_first (split x)) c ∙ after-sep (get_or s n 0) (drop (suc n) s) p)

-- what the scan says of the part from `at` on
pub judged : (s : List ℕ) (at : ℕ) (r : Subtag) → r ≡ subtag_of (head_tag (split (take (length s - at) (drop at s)))) → r ≡ subtag_of (head_tag (split (drop at s)))
judged s at r e = e ∙ ap (λ (x : List ℕ). subtag_of (head_tag (split x))) (take_all (length s - at) (drop at s) (simp length-drop (omega arith)))

pub scanned-len : (t : Tag) (r : Subtag) → r ≡ subtag_of t → r.len ≡ length t
unfolding subtag_of
scanned-len t r e = ap (λ (x : Subtag). x.len) e

pub scanned-fits : (s : List ℕ) (at : ℕ) (r : Subtag) → r ≡ subtag_of (head_tag (split (take (length s - at) (drop at s)))) → r.len ≤ length s - at
scanned-fits s at r e =
    let n = scanned-len (head_tag (split (drop at s))) r (judged s at r e) in
    let f = rw length-drop at (label-fits (drop at s)) in
    omega arith

module _ (s : List ℕ) (at len : ℕ) (e : len ≡ length (head_tag (split (drop at s)))) where
  pub walk_more : len < length s - at → split (drop at s) ≡ head_tag (split (drop at s)) ∷ split (drop (at + len + 1) s)
  walk_more h =
      let k : at + suc (length (head_tag (split (drop at s)))) ≡ at + len + 1 = omega arith in
      split-next (drop at s) (simp length-drop (omega arith))
      ∙ ap (λ (x : List ℕ). head_tag (split (drop at s)) ∷ split x)
      (drop-drop (suc (length (head_tag (split (drop at s))))) at s ∙ ap (λ (k : ℕ). drop k s) k)

  pub walk_end : length s - at ≤ len → split (drop at s) ≡ head_tag (split (drop at s)) ∷ []
  walk_end h = split-end (drop at s) (simp length-drop (omega arith))
