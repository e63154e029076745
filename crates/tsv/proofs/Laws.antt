-- Laws of fields. Assumes nothing.
use mathlib.Core.Path.{◌≡◌, refl, sym, ◌∙◌}
use mathlib.Core.Bool.{Bool, true, false, cond, ◌||◌}
use mathlib.Core.List.{List, [], ◌∷◌, ◌++◌}
use mathlib.Core.Logic.{⊎_elim}
use Prim.Native.Nat.{ℕ, zero, suc, ◌+◌, ◌-◌, ◌/◌, ◌%◌, ◌≤◌, ◌<◌}
use native.Mathlib.Omega.{arith}
use native.Mathlib.Numerals.{add-one}
use lib.Dec.{eqb}
use lib.ListN.{length, drop, set, length-append, length-set}
use lib.Seq.{sets, drop-cons, drop-set-lt, get_or-set_same}
use borrow.Author.Tests.{eq-eqb, ne_eqb}
use Rattle.byte_string.proofs.Stores.{wrote-two}
use Rattle.standard.proofs.General.{le-or-lt}
use Rattle.tsv.specs.Fields.{Bytes, digits_onto, decimal, field, asked_of, table_text}
use Rattle.standard.specs.Tag.{text}

-- A number that is being written: the digits from `start` on, and what is left of it.
pub record Writing (n rest start : ℕ) (bytes : Bytes) : Type 0 where
  pub sized : length bytes ≡ 20
  pub within : start ≤ 20
  pub digits : decimal n ≡ digits_onto start rest (drop start bytes)

pub writing_start : (n : ℕ) (bytes : Bytes) → length bytes ≡ 20 → drop 20 bytes ≡ [] → Writing n n 20 bytes
unfolding decimal
writing_start n bytes e d = record { sized = e; within = omega arith; digits = rw d }

-- the next digit, from the last one on
module _ (n rest j : ℕ) (bytes : Bytes) (w : Writing n rest (suc j) bytes) where
  digit-stored : drop j (set bytes j (48 + rest % 10)) ≡ (48 + rest % 10) ∷ drop (suc j) bytes
  digit-stored =
      let h : j < length bytes = omega (arith, w.sized, w.within) in
      let k : j < length (set bytes j (48 + rest % 10)) = omega (arith, length-set bytes j (48 + rest % 10)) in
      rw (drop-cons (set bytes j (48 + rest % 10)) j 0 k, get_or-set_same bytes j (48 + rest % 10) 0 h, drop-set-lt (suc j) bytes j (48 + rest % 10) (omega arith))

  more : (rest / 10 ≡ 0 → ⊥) → Writing n (rest / 10) j (set bytes j (48 + rest % 10))
  unfolding digits_onto
  more f = record {
    sized = length-set bytes j (48 + rest % 10) ∙ w.sized;
    within = omega (arith, w.within);
    digits = w.digits ∙ rw (ne_eqb (rest / 10) 0 f, digit-stored);
  }

  last : rest / 10 ≡ 0 → drop j (set bytes j (48 + rest % 10)) ≡ decimal n
  unfolding digits_onto
  last e = digit-stored ∙ sym (w.digits ∙ rw (eq-eqb (rest / 10) 0 e))

-- as the code goes: one place down, then the digit
module _ (n rest start d : ℕ) (bytes : Bytes) (w : Writing n rest start bytes) (h : 0 < start) (e : d ≡ 48 + rest % 10) where
  down : Writing n rest (suc (start - 1)) bytes
  down = let k : suc (start - 1) ≡ start = omega arith in rw k w

  pub writing_more : (rest / 10 ≡ 0 → ⊥) → Writing n (rest / 10) (start - 1) (set bytes (start - 1) d)
  writing_more f = rw e (more n rest (start - 1) bytes down f)

  pub writing-end : rest / 10 ≡ 0 → (drop (start - 1) (set bytes (start - 1) d) ≡ decimal n) × (start - 1 ≤ 20)
  writing-end f = (rw e (last n rest (start - 1) bytes down f), omega (arith, w.within))

pub writing-full : (n rest start : ℕ) (bytes : Bytes) → Writing n rest start bytes → start ≤ 0 → (drop start bytes ≡ decimal n) × (start ≤ 20)
unfolding digits_onto
writing-full n rest start bytes w h = let z : start ≡ 0 = omega arith in (rw z (sym (rw z at w.digits)), omega arith)

pub digits-length : (k n : ℕ) (x : Bytes) → length (digits_onto k n x) ≤ k + length x
unfolding digits_onto
digits-length zero n x = omega arith
digits-length (suc k) n x = go (eqb (n / 10) 0) (digits-length k (n / 10) ((48 + n % 10) ∷ x))
  where
    go : (b : Bool) → length (digits_onto k (n / 10) ((48 + n % 10) ∷ x)) ≤ k + suc (length x) → length {A = ℕ} (cond b ((48 + n % 10) ∷ x) (digits_onto k (n / 10) ((48 + n % 10) ∷ x))) ≤ suc k + length x
    go true h = omega arith
    go false h = omega arith

pub decimal-length : (n : ℕ) → length (decimal n) ≤ 20
unfolding decimal
decimal-length n = digits-length 20 n []

-- a number of one digit
digit-field : (n mark : ℕ) → n < 10 → field (decimal n) mark ≡ (48 + n) ∷ mark ∷ []
unfolding decimal digits_onto field
digit-field n mark h =
    let q : n / 10 ≡ 0 = omega arith in
    let r : n % 10 ≡ n = omega arith in
    rw (eq-eqb (n / 10) 0 q, r)

pub digit-put : (out : Bytes) (at n mark d : ℕ) → n < 10 → d ≡ 48 + n
    → (at + 2 ≡ at + length (field (decimal n) mark)) × (set (set out at d) (at + 1) mark ≡ sets out at (field (decimal n) mark)) × (at + 2 ≤ at + 2)
digit-put out at n mark d h e = rw (digit-field n mark h, e, add-one) (refl, refl, omega arith)

-- the mark behind what was written
pub ended : (o o₁ : List ℕ) (at end : ℕ) (x : List ℕ) (mark : ℕ) → end ≡ at + length x → o₁ ≡ sets o at x
    → (end + 1 ≡ at + length (field x mark)) × (set o₁ end mark ≡ sets o at (field x mark))
unfolding field
ended o o₁ at end x mark e f = wrote-two o o₁ (set o₁ end mark) at end (end + 1) x (mark ∷ []) (x ++ (mark ∷ [])) refl e f refl refl

-- what was asked
module _ (n : ℕ) (x : List ℕ) where
  pub asked-two : n ≡ 2 → asked_of n x ≡ 45 ∷ []
  unfolding asked_of
  asked-two e = rw (eq-eqb n 2 e)

  pub asked-three : (n ≡ 2 → ⊥) → n ≡ 3 → asked_of n x ≡ 45 ∷ []
  unfolding asked_of
  asked-three f e = rw (ne_eqb n 2 f, eq-eqb n 3 e)

  pub asked-line : (n ≡ 2 → ⊥) → (n ≡ 3 → ⊥) → asked_of n x ≡ x
  unfolding asked_of
  asked-line f g = rw (ne_eqb n 2 f, ne_eqb n 3 g)

asked-short : (n : ℕ) (x : List ℕ) → length x ≤ 255 → length (asked_of n x) ≤ 255
unfolding asked_of
asked-short n x h = go (eqb n 2 || eqb n 3)
  where
    go : (b : Bool) → length (cond b (45 ∷ []) x) ≤ 255
    go true = omega arith
    go false = h

-- at most 255 bytes are printed, where longer lines are refused with 2
pub asked-fits : (n : ℕ) (x : List ℕ) → (255 < length x → n ≡ 2) → length (asked_of n x) ≤ 255
asked-fits n x two = ⊎_elim (asked-short n x) (λ h. rw (asked-two n x (two h)) (omega arith)) (le-or-lt (length x) 255)

pub field-length : (x : List ℕ) (mark : ℕ) → length (field x mark) ≡ length x + 1
unfolding field
field-length x mark = length-append x (mark ∷ [])

pub number-length : (n mark : ℕ) → length (field (decimal n) mark) ≤ 21
number-length n mark = omega (arith, field-length (decimal n) mark, decimal-length n)

-- the line of a bad table
pub table-word : length (field (text "table") 9) ≡ 6
unfolding field
table-word = refl

pub table-written : (o o₁ o₂ o₃ o₄ : Bytes) (p q r e number place table : ℕ)
    → (p ≡ 0 + length (field (text "table") 9)) × (o₁ ≡ sets o 0 (field (text "table") 9))
    → (q ≡ p + length (field (decimal number) 9)) × (o₂ ≡ sets o₁ p (field (decimal number) 9))
    → (r ≡ q + length (field (decimal table) 9)) × (o₃ ≡ sets o₂ q (field (decimal table) 9))
    → (e ≡ r + length (field (decimal place) 10)) × (o₄ ≡ sets o₃ r (field (decimal place) 10))
    → (e ≡ 0 + length (table_text number place table)) × (o₄ ≡ sets o 0 (table_text number place table))
unfolding table_text
table-written o o₁ o₂ o₃ o₄ p q r e number place table a b c d =
    let t = field (decimal table) 9 ++ field (decimal place) 10 in
    let w = wrote-two o₂ o₃ o₄ q r e (field (decimal table) 9) (field (decimal place) 10) t refl c.0 c.1 d.0 d.1 in
    let v = wrote-two o₁ o₂ o₄ p q e (field (decimal number) 9) t (field (decimal number) 9 ++ t) refl b.0 b.1 w.0 w.1 in
    wrote-two o o₁ o₄ 0 p e (field (text "table") 9) (field (decimal number) 9 ++ t) _ refl a.0 a.1 v.0 v.1
