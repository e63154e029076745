-- The order of subtags is the order of their numbers.
-- Assumes nothing.
use mathlib.Core.Path.{◌≡◌, refl, sym, ap, ◌∙◌}
use mathlib.Core.Bool.{Bool, true, false, ◌&&◌, ◌||◌}
use mathlib.Core.List.{List, [], ◌∷◌}
use mathlib.Core.Option.{none}
use Prim.Native.Nat.compare
use Prim.Native.Nat.{ℕ, zero, suc, ◌+◌, ◌*◌, ◌^◌, ◌≤◌, ◌<◌, compare, Ordering}
use native.Mathlib.Nat.{mul-le-mul_right, suc-mul, one-le-pow}
use native.Mathlib.Omega.{arith}
use lib.Dec.{eqb, compare_is_eq}
use lib.ListN.{length}
use Rattle.standard.specs.Tag.{Tag, and_then, order, same, onto, All}
use Rattle.standard.specs.Grammar.{separator, lower_byte, small, digit, every}
use Rattle.standard.specs.Reading.{clean, unclean, split}
use Rattle.standard.proofs.General.{bool_cases, compare-lt, compare-gt, compare_same, compare-less, compare-more, compare-equal}
use Rattle.standard.proofs.Bytes.{word, lower_word}
use Rattle.standard.proofs.Shapes.{Word}
use Rattle.subtag.specs.Subtags.{packed, key_of, PlainBytes, PlainTag}
use Rattle.subtag.proofs.Bytes.{small-in, digit-in}
use Rattle.subtag.proofs.Walk.{split-sep, split-byte}

-- a number of one digit more, by its highest digit
less-digit : (x y P p q : ℕ) → x < y → p < P → x * P + p < y * P + q
less-digit x y P p q h k = let m = mul-le-mul_right {m = suc x} {n = y} P h in let s = suc-mul x P in omega arith

pub packed_lt : (n : ℕ) (t : Tag) → PlainBytes t → packed n t < 256 ^ n
unfolding packed PlainBytes
packed_lt zero t h = omega arith
packed_lt (suc n) [] h = let p = one-le-pow (suc n) 256 (omega arith) in omega arith
packed_lt (suc n) (b ∷ bs) h = let p = packed_lt n bs h.2 in let m = less-digit b 256 (256 ^ n) (packed n bs) 0 (omega (arith, h.1)) p in omega arith

packed-pos : (n b : ℕ) (t : Tag) → 0 < b → 0 < packed (suc n) (b ∷ t)
unfolding packed
packed-pos n b t h = let m = less-digit 0 b (256 ^ n) 0 (packed n t) h (one-le-pow n 256 (omega arith)) in omega arith

order-packed : (n : ℕ) (x y : Tag) → length x ≤ n → length y ≤ n → PlainBytes x → PlainBytes y → order x y ≡ compare (packed n x) (packed n y)
unfolding order packed PlainBytes
order-packed zero [] [] h k a b = sym compare.zero-zero
order-packed zero [] (y ∷ ys) h k a b = absurd (omega arith)
order-packed zero (x ∷ xs) ys h k a b = absurd (omega arith)
order-packed (suc n) [] [] h k a b = sym compare.zero-zero
order-packed (suc n) [] (y ∷ ys) h k a b = sym (compare-less 0 (packed (suc n) (y ∷ ys)) (packed-pos n y ys b.0))
order-packed (suc n) (x ∷ xs) [] h k a b = sym (compare-more (packed (suc n) (x ∷ xs)) 0 (packed-pos n x xs a.0))
order-packed (suc n) (x ∷ xs) (y ∷ ys) h k a b =
    go (compare x y) refl (compare (packed n xs) (packed n ys)) refl (order-packed n xs ys (omega arith) (omega arith) a.2 b.2) (packed_lt n xs a.2) (packed_lt n ys b.2)
  where
    go : (o : Ordering) → compare x y ≡ o → (w : Ordering) → compare (packed n xs) (packed n ys) ≡ w → order xs ys ≡ compare (packed n xs) (packed n ys)
        → packed n xs < 256 ^ n → packed n ys < 256 ^ n
        → and_then (compare x y) (order xs ys) ≡ compare (x * 256 ^ n + packed n xs) (y * 256 ^ n + packed n ys)
    go Ordering.lt e w f i p q = rw e (sym (compare-less _ _ (less-digit x y (256 ^ n) (packed n xs) (packed n ys) (compare-lt x y e) p)))
    go Ordering.gt e w f i p q = rw e (sym (compare-more _ _ (less-digit y x (256 ^ n) (packed n ys) (packed n xs) (compare-gt x y e) q)))
    go Ordering.eq e Ordering.lt f i p q =
        let s = ap (λ (z : ℕ). z * 256 ^ n) (compare_same x y e) in
        let l = compare-lt (packed n xs) (packed n ys) f in
        rw e (i ∙ f ∙ sym (compare-less _ _ (omega arith)))
    go Ordering.eq e Ordering.eq f i p q =
        let s = ap (λ (z : ℕ). z * 256 ^ n) (compare_same x y e) in
        let l = compare_same (packed n xs) (packed n ys) f in
        rw e (i ∙ f ∙ sym (compare-equal _ _ (omega arith)))
    go Ordering.eq e Ordering.gt f i p q =
        let s = ap (λ (z : ℕ). z * 256 ^ n) (compare_same x y e) in
        let l = compare-gt (packed n xs) (packed n ys) f in
        rw e (i ∙ f ∙ sym (compare-more _ _ (omega arith)))

pub order-key : (x y : Tag) → PlainTag x → PlainTag y → order x y ≡ compare (key_of x) (key_of y)
unfolding key_of PlainTag
order-key x y a b = order-packed 8 x y a.1 b.1 a.2 b.2

pub key_above : (t : Tag) → PlainTag t → 0 < key_of t
unfolding key_of PlainTag PlainBytes
key_above [] h = absurd (omega (arith, h.0))
key_above (b ∷ bs) h = packed-pos 7 b bs h.2.0

pub key_below : (t : Tag) → PlainTag t → key_of t < 18446744073709551615
unfolding key_of PlainTag PlainBytes packed
key_below [] h = omega arith
key_below (b ∷ bs) h = let m = less-digit b 255 (256 ^ 7) (packed 7 bs) 0 h.2.1 (packed_lt 7 bs h.2.2) in omega arith

-- equal numbers are equal subtags
pub same_key : (x y : Tag) → PlainTag x → PlainTag y → same x y ≡ eqb (key_of x) (key_of y)
unfolding same
same_key x y a b = ap compare_is_eq (order-key x y a b)

-- Words, that is small letters and digits, are plain; and so is each subtag of an input of clean bytes.
pub word-plain : (t : Tag) → every word t ≡ true → PlainBytes t
unfolding every word PlainBytes
word-plain [] e = tt
word-plain (b ∷ bs) e = let h = both (small b || digit b) (every word bs) e in
    let k = byte (small b) (digit b) refl refl h.0 in (omega (arith, k.0), omega (arith, k.1), word-plain bs h.1)
  where
    both : (p q : Bool) → (p && q) ≡ true → (p ≡ true) × (q ≡ true)
    both true q e = (refl, e)
    both false q e = let z : ◌≡◌ {A = ℕ} 0 1 = cc in absurd (omega arith)

    byte : (p q : Bool) → small b ≡ p → digit b ≡ q → (p || q) ≡ true → (48 ≤ b) × (b ≤ 122)
    byte true q f g e = let h = small-in b f in (omega (arith, h.low), omega (arith, h.high))
    byte false true f g e = let h = digit-in b g in (omega (arith, h.low), omega (arith, h.high))
    byte false false f g e = let z : ◌≡◌ {A = ℕ} 0 1 = cc in absurd (omega arith)

onto-words : (b : ℕ) (ts : List Tag) → word b ≡ true → All Word ts → All Word (onto b ts)
unfolding onto All every
onto-words b [] e h = (rw e, tt)
onto-words b (t ∷ ts) e h = (rw (e, h.0), h.1)

pub split-words : (s : List ℕ) (at : ℕ) → unclean at s ≡ none → All Word (split s)
unfolding split unclean All every
split-words [] at h = (refl, tt)
split-words (b ∷ s) at h =
    bool_cases (clean b) (λ c. bool_cases (separator b) (λ e. rw (split-sep b s e) (refl, split-words s (suc at) (rw (c, unclean) at h)))
    (λ e. rw (split-byte b s e) (onto-words (lower_byte b) (split s) (lower_word b c e) (split-words s (suc at) (rw (c, unclean) at h)))))
    (λ c. let z : ◌≡◌ {A = ℕ} 0 1 = cc (rw (c, unclean) at h) in absurd (omega arith))
