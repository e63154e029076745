-- Reading a section that was written; and that the subtags of an accepted input are plain. Assumes nothing.
use mathlib.Core.Path.{◌≡◌, refl, ap, ap₂, ◌∙◌}
use mathlib.Core.Bool.{Bool, true, false, cond, ◌&&◌, ◌||◌}
use mathlib.Core.List.{List, [], ◌∷◌, ◌++◌}
use mathlib.Core.Option.{none}
use Prim.Native.Nat.{ℕ, suc, ◌+◌, ◌≤◌, ◌<◌}
use native.Mathlib.Omega.{arith}
use lib.Dec.{leb, eqb}
use lib.ListN.{length}
use borrow.Author.Tests.{leb-true, eqb-true}
use Rattle.standard.specs.Tag.{Tag, onto, head_tag}
use Rattle.standard.specs.Grammar.{separator, small, capital, digit, lower_byte, wrong_length, size_of}
use Rattle.standard.specs.Reading.{split, after_first, clean, unclean, bad_tag, wrong_size}
use Rattle.subtag.specs.Subtags.{PlainBytes, PlainTag}
use Rattle.subtag.specs.Sections.{tags_of, led, Led, Plain}
use Rattle.subtag.proofs.Walk.{split-sep, split-byte, split-cons, label-sep, after-sep}
use Rattle.standard.proofs.General.{and-true as and_cases}

-- in lower case, with no separator
unfoldable pub Low : Tag → Type 0
Low [] = Unit {0}
Low (b ∷ t) = (separator b ≡ false) × (lower_byte b ≡ b) × Low t

unfoldable pub AllLow : List Tag → Type 0
AllLow [] = Unit {0}
AllLow (t ∷ ts) = Low t × AllLow ts

hyphen : separator 45 ≡ true
unfolding separator
hyphen = refl

pub led-begins : (ts : List Tag) → Led (led ts)
unfolding Led led split head_tag
led-begins [] = refl
led-begins (t ∷ ts) = label-sep 45 (t ++ led ts) hyphen

split-low : (t : Tag) (r : List ℕ) → Low t → Led r → split (t ++ r) ≡ t ∷ tags_of r
unfolding Low Led tags_of onto
split-low [] r h l = split-cons r ∙ ap (λ (x : Tag). x ∷ after_first (split r)) l
split-low (b ∷ t) r h l = split-byte b (t ++ r) h.0 ∙ ap₂ onto h.1 (split-low t r h.2 l)

pub tags-led : (ts : List Tag) → AllLow ts → tags_of (led ts) ≡ ts
unfolding AllLow tags_of led split after_first
tags-led [] h = refl
tags-led (t ∷ ts) h = after-sep 45 (t ++ led ts) hyphen ∙ split-low t (led ts) h.0 (led-begins ts) ∙ ap (◌∷◌ t) (tags-led ts h.1)

-- A byte that may stand in an identifier.
or_cases : {P : Type 0} (a b : Bool) → (a || b) ≡ true → (a ≡ true → P) → (b ≡ true → P) → P
or_cases true b e f g = f refl
or_cases false b e f g = g e

within : (lo hi b : ℕ) → (leb lo b && leb b hi) ≡ true → (lo ≤ b) × (b ≤ hi)
within lo hi b e = let h = and_cases (leb lo b) (leb b hi) e in (leb-true lo b h.0, leb-true b hi h.1)

clean-range : (b : ℕ) → clean b ≡ true → (45 ≤ b) × (b ≤ 122)
unfolding clean small capital digit separator
clean-range b e =
    or_cases (small b || capital b) (digit b || separator b) e
    (λ p. or_cases (small b) (capital b) p (λ q. let h = within 97 122 b q in (omega arith, omega arith)) (λ q. let h = within 65 90 b q in (omega arith, omega arith)))
    (λ p. or_cases (digit b) (separator b) p (λ q. let h = within 48 57 b q in (omega arith, omega arith))
    (λ q. or_cases (eqb b 45) (eqb b 95) q (λ r. let h = eqb-true b 45 r in (omega arith, omega arith)) (λ r. let h = eqb-true b 95 r in (omega arith, omega arith))))

lower-range : (b : ℕ) → 45 ≤ b → b ≤ 122 → (0 < lower_byte b) × (lower_byte b < 255)
unfolding lower_byte capital
lower-range b h k = go (leb 65 b && leb b 90) refl
  where
    go : (p : Bool) → (leb 65 b && leb b 90) ≡ p → (0 < cond p (b + 32) b) × (cond p (b + 32) b < 255)
    go true e = (omega arith, omega arith)
    go false e = (omega arith, omega arith)

unfoldable EachBytes : List Tag → Type 0
EachBytes [] = Unit {0}
EachBytes (t ∷ ts) = PlainBytes t × EachBytes ts

bytes_read : (x : List ℕ) (at : ℕ) → unclean at x ≡ none → EachBytes (split x)
unfolding unclean split EachBytes PlainBytes onto
bytes_read [] at e = (tt, tt)
bytes_read (b ∷ x) at e = go (clean b) refl (separator b) refl (bytes_read x (suc at))
  where
    first : (c : ℕ) (ts : List Tag) → 0 < c → c < 255 → EachBytes ts → EachBytes (onto c ts)
    first c [] h k i = ((h, k, tt), tt)
    first c (t ∷ ts) h k i = ((h, k, i.0), i.1)

    go : (p : Bool) → clean b ≡ p → (q : Bool) → separator b ≡ q → (unclean (suc at) x ≡ none → EachBytes (split x)) → EachBytes (split (b ∷ x))
    go false f q g ih = absurd (let z : ◌≡◌ {A = ℕ} 0 1 = cc (rw (f, unclean) at e) in omega arith)
    go true f true g ih = rw (split-sep b x g) (tt, ih (rw (f, unclean) at e))
    go true f false g ih =
        let r = clean-range b f in
        let s = lower-range b r.0 r.1 in
        rw (split-byte b x g) (first (lower_byte b) (split x) s.0 s.1 (ih (rw (f, unclean) at e)))

size-read : (t : Tag) → wrong_size t ≡ false → (0 < length t) × (length t ≤ 8)
unfolding wrong_size wrong_length size_of
size-read [] e = absurd (let z : ◌≡◌ {A = ℕ} 0 1 = cc in omega arith)
size-read (a ∷ []) e = (omega arith, omega arith)
size-read (a ∷ b ∷ []) e = (omega arith, omega arith)
size-read (a ∷ b ∷ c ∷ []) e = (omega arith, omega arith)
size-read (a ∷ b ∷ c ∷ d ∷ []) e = (omega arith, omega arith)
size-read (a ∷ b ∷ c ∷ d ∷ f ∷ []) e = (omega arith, omega arith)
size-read (a ∷ b ∷ c ∷ d ∷ f ∷ g ∷ []) e = (omega arith, omega arith)
size-read (a ∷ b ∷ c ∷ d ∷ f ∷ g ∷ h ∷ []) e = (omega arith, omega arith)
size-read (a ∷ b ∷ c ∷ d ∷ f ∷ g ∷ h ∷ i ∷ []) e = (omega arith, omega arith)
size-read (a ∷ b ∷ c ∷ d ∷ f ∷ g ∷ h ∷ i ∷ j ∷ t) e = absurd (let z : ◌≡◌ {A = ℕ} 0 1 = cc in omega arith)

sizes-read : (n at : ℕ) (ts : List Tag) → bad_tag n wrong_size at ts ≡ none → EachBytes ts → Plain ts
unfolding bad_tag EachBytes Plain PlainTag
sizes-read n at [] e h = tt
sizes-read n at (t ∷ ts) e h = go (wrong_size t) refl (λ q. sizes-read n (at + suc (length t)) ts q h.1)
  where
    go : (p : Bool) → wrong_size t ≡ p → (bad_tag n wrong_size (at + suc (length t)) ts ≡ none → Plain ts) → PlainTag t × Plain ts
    go true f ih = absurd (let z : ◌≡◌ {A = ℕ} 0 1 = cc (rw (f, bad_tag) at e) in omega arith)
    go false f ih = let s = size-read t f in ((s.0, s.1, h.0), ih (rw (f, bad_tag) at e))

-- the subtags of an input in which neither 3 nor 4 is found
pub plain-read : (x : List ℕ) → unclean 0 x ≡ none → bad_tag 4 wrong_size 0 (split x) ≡ none → Plain (split x)
plain-read x e f = sizes-read 4 0 (split x) f (bytes_read x 0 e)
