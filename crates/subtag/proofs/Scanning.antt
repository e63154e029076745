-- The loop of the scan: counts, number and length of the bytes passed, and what is still to come.
-- Assumes nothing.
use mathlib.Core.Path.{◌≡◌, refl, sym, ap, ap₂, ◌∙◌}
use mathlib.Core.Bool.{Bool, true, false, cond}
use mathlib.Core.List.{List, [], ◌∷◌}
use Prim.Native.Nat.{ℕ, zero, suc, ◌+◌, ◌-◌, ◌*◌, ◌/◌, ◌^◌, ◌≤◌, ◌<◌}
use native.Mathlib.Nat.{mul-le-mul_right}
use native.Mathlib.Omega.{arith}
use lib.ListN.{length, get_or, drop}
use Rattle.standard.specs.Tag.{Tag, head_tag}
use Rattle.standard.specs.Grammar.{separator, lower_byte, small, digit, capital}
use Rattle.standard.specs.Reading.{split}
use Rattle.subtag.specs.declared.Class.{Class}
use Rattle.subtag.specs.declared.Class.TheVariants.{Small, Capital, Digit, Separator, Other}
use Rattle.subtag.specs.declared.Subtag.{Subtag}
use Rattle.subtag.specs.Bytes.{class_of, is_small, is_digit, is_capital, is_separator, letter_of, digit_of}
use Rattle.subtag.specs.Subtags.{count, first_byte, packed, key_of, subtag_of}
use Rattle.subtag.proofs.Bytes.{capital-in, inside, over, classed}
use Rattle.subtag.proofs.Walk.{at-end, at-sep, at_byte}

-- a byte in lower case is a letter or a digit by its class
small-lowered : (b : ℕ) → 65 ≤ b → b ≤ 90 → small (b + 32) ≡ true
unfolding small
small-lowered b h k = inside 97 122 (b + 32) (omega arith) (omega arith)

not_digit : (b : ℕ) → 65 ≤ b → digit (b + 32) ≡ false
unfolding digit
not_digit b h = over 48 57 (b + 32) (omega arith) (omega arith)

lowered-class : (p : ℕ → Bool) (f : Class → ℕ) (b : ℕ) → (capital b ≡ true → cond (p (b + 32)) 1 0 ≡ f Capital) → (capital b ≡ false → cond (p b) 1 0 ≡ f (class_of b)) → cond (p (lower_byte b)) 1 0 ≡ f (class_of b)
unfolding lower_byte
lowered-class p f b big plain = go (class_of b) refl (classed b).capital
  where
    go : (k : Class) → class_of b ≡ k → capital b ≡ is_capital (class_of b) → cond (p (cond (capital b) (b + 32) b)) 1 0 ≡ f (class_of b)
    go Small e h = let c : capital b ≡ false = h ∙ ap is_capital e in rw c (plain c)
    go Capital e h = let c : capital b ≡ true = h ∙ ap is_capital e in rw (c, e) (big c)
    go Digit e h = let c : capital b ≡ false = h ∙ ap is_capital e in rw c (plain c)
    go Separator e h = let c : capital b ≡ false = h ∙ ap is_capital e in rw c (plain c)
    go Other e h = let c : capital b ≡ false = h ∙ ap is_capital e in rw c (plain c)

pub lowered-letter : (b : ℕ) → cond (small (lower_byte b)) 1 0 ≡ letter_of (class_of b)
lowered-letter b = lowered-class small letter_of b (λ c. let h = capital-in b c in rw (small-lowered b h.low h.high)) (λ c. rw (classed b).small (go (class_of b) (sym (classed b).capital ∙ c)))
  where
    go : (k : Class) → is_capital k ≡ false → cond (is_small k) 1 0 ≡ letter_of k
    go Small e = refl
    go Capital e = cc
    go Digit e = refl
    go Separator e = refl
    go Other e = refl

pub lowered-digit : (b : ℕ) → cond (digit (lower_byte b)) 1 0 ≡ digit_of (class_of b)
lowered-digit b = lowered-class digit digit_of b (λ c. let h = capital-in b c in rw (not_digit b h.low)) (λ c. rw (classed b).digit (go (class_of b)))
  where
    go : (k : Class) → cond (is_digit k) 1 0 ≡ digit_of k
    go Small = refl
    go Capital = refl
    go Digit = refl
    go Separator = refl
    go Other = refl

-- Numbers.
unfoldable pub weight_of : ℕ → ℕ
weight_of zero = 0
weight_of (suc n) = 256 ^ n

pow-next : (n : ℕ) → 256 ^ suc n / 256 ≡ 256 ^ n
pow-next n = omega arith

weight-next : (n : ℕ) → weight_of n / 256 ≡ weight_of (n - 1)
unfolding weight_of
weight-next zero = refl
weight-next (suc zero) = refl
weight-next (suc (suc n)) = let e : suc (suc n) - 1 ≡ suc n = omega arith in pow-next n ∙ sym (ap weight_of e)

packed-nil : (n : ℕ) → packed n [] ≡ 0
unfolding packed
packed-nil zero = refl
packed-nil (suc n) = refl

packed-cons : (n b : ℕ) (t : Tag) → packed n (b ∷ t) ≡ b * weight_of n + packed (n - 1) t
unfolding packed weight_of
packed-cons zero b t = omega arith
packed-cons (suc n) b t = let e : suc n - 1 ≡ n = omega arith in rw e

pub product-fits : (b w : ℕ) → b < 256 → b * w ≤ 255 * w
product-fits b w h = mul-le-mul_right w (omega arith)

-- The state of the loop.
abbrev pub front_of : List ℕ → Tag
front_of s = head_tag (split s)

pub record Judging (s : List ℕ) (letters digits key weight len : ℕ) : Type 0 where
  pub within : len ≤ length s
  pub few : letters ≤ len
  pub fewer : digits ≤ len
  pub size : len + length (front_of (drop len s)) ≡ length (front_of s)
  pub lets : letters + count small (front_of (drop len s)) ≡ count small (front_of s)
  pub digs : digits + count digit (front_of (drop len s)) ≡ count digit (front_of s)
  pub number : key + packed (8 - len) (front_of (drop len s)) ≡ packed 8 (front_of s)
  pub weighs : weight ≡ weight_of (8 - len)
  pub room : key + 256 * weight ≤ 18446744073709551616
  pub small : key < 18446744073709551616

pub scanning-start : (s : List ℕ) → Judging s 0 0 0 72057594037927936 0
unfolding weight_of
scanning-start s = record { within = omega arith; few = omega arith; fewer = omega arith; size = omega arith; lets = omega arith; digs = omega arith; number = omega arith; weighs = refl; room = omega arith; small = omega arith }

pub letter-le : (k : Class) → letter_of k ≤ 1
letter-le Small = omega arith
letter-le Capital = omega arith
letter-le Digit = omega arith
letter-le Separator = omega arith
letter-le Other = omega arith

pub digit-le : (k : Class) → digit_of k ≤ 1
digit-le Small = omega arith
digit-le Capital = omega arith
digit-le Digit = omega arith
digit-le Separator = omega arith
digit-le Other = omega arith

module _ (s : List ℕ) (letters digits key weight len : ℕ) (r : Judging s letters digits key weight len) where
  pub judging-more : (k : Class) (l d b : ℕ) → len < length s → k ≡ class_of (get_or s len 0) → is_separator k ≡ false → l ≡ letter_of k → d ≡ digit_of k → b ≡ lower_byte (get_or s len 0) → b < 256
      → Judging s (letters + l) (digits + d) (key + b * weight) (weight / 256) (len + 1)
  unfolding count
  judging-more k l d b h ek es el ed eb lt =
      let x = get_or s len 0 in
      let f = at_byte s len h ((classed x).separator ∙ ap is_separator (sym ek) ∙ es) in
      let c : 8 - len - 1 ≡ 8 - (len + 1) = omega arith in
      let p : packed (8 - len) (front_of (drop len s)) ≡ b * weight + packed (8 - (len + 1)) (front_of (drop (len + 1) s)) =
      ap (packed (8 - len)) f ∙ packed-cons (8 - len) (lower_byte x) (front_of (drop (len + 1) s))
      ∙ ap₂ (λ (x : ℕ) (y : ℕ). x + packed y (front_of (drop (len + 1) s))) (ap₂ (λ (x y : ℕ). x * y) (sym eb) (sym r.weighs)) c in
      let n = ap length f in
      let u = ap (count small) f in
      let v = ap (count digit) f in
      let u2 : cond (small (lower_byte x)) 1 0 ≡ l = lowered-letter x ∙ ap letter_of (sym ek) ∙ sym el in
      let v2 : cond (digit (lower_byte x)) 1 0 ≡ d = lowered-digit x ∙ ap digit_of (sym ek) ∙ sym ed in
      let u3 = letter-le k in
      let v3 = digit-le k in
      let q = product-fits b weight lt in
      record { within = omega arith; few = omega arith; fewer = omega arith; size = omega arith; lets = omega arith; digs = omega arith; number = omega arith; weighs = ap (λ (x : ℕ). x / 256) r.weighs ∙ weight-next (8 - len) ∙ ap weight_of c; room = omega arith; small = omega arith }

  judging-done : (first : ℕ) → first ≡ first_byte (front_of s) → front_of (drop len s) ≡ []
      → ◌≡◌ {A = Subtag} (record { len = len; letters = letters; digits = digits; first = first; key = key }) (subtag_of (front_of s))
  unfolding subtag_of key_of count
  judging-done first ef e =
      let l = ap length e in
      let u = ap (count small) e in
      let v = ap (count digit) e in
      let n = ap (packed (8 - len)) e ∙ packed-nil (8 - len) in
      let p : len ≡ length (front_of s) = omega arith in
      let p2 : letters ≡ count small (front_of s) = omega arith in
      let p3 : digits ≡ count digit (front_of s) = omega arith in
      let q : key ≡ packed 8 (front_of s) = omega arith in
      cc

  pub judging-sep : (k : Class) (first : ℕ) → len < length s → k ≡ class_of (get_or s len 0) → is_separator k ≡ true → first ≡ first_byte (front_of s)
      → ◌≡◌ {A = Subtag} (record { len = len; letters = letters; digits = digits; first = first; key = key }) (subtag_of (front_of s))
  judging-sep k first h ek es ef = judging-done first ef (at-sep s len h ((classed (get_or s len 0)).separator ∙ ap is_separator (sym ek) ∙ es))

  pub judging-end : (first : ℕ) → length s ≤ len → first ≡ first_byte (front_of s)
      → ◌≡◌ {A = Subtag} (record { len = len; letters = letters; digits = digits; first = first; key = key }) (subtag_of (front_of s))
  judging-end first h ef = judging-done first ef (at-end s len h)

-- The first byte.
module _ (s : List ℕ) where
  pub first-none : length s ≤ 0 → 0 ≡ first_byte (front_of s)
  unfolding first_byte
  first-none h = sym (ap first_byte (at-end s 0 h))

  pub first-sep : 0 < length s → separator (get_or s 0 0) ≡ true → 0 ≡ first_byte (front_of s)
  unfolding first_byte
  first-sep h e = sym (ap first_byte (at-sep s 0 h e))

  pub first_byte_lem : 0 < length s → separator (get_or s 0 0) ≡ false → lower_byte (get_or s 0 0) ≡ first_byte (front_of s)
  unfolding first_byte
  first_byte_lem h e = sym (ap first_byte (at_byte s 0 h e))
