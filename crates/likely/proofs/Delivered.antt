-- Laws of a form's length, and of its delivery by parts. Assumes nothing.
use mathlib.Core.Path.{◌≡◌, refl, sym, ap, ap₂, subst, ◌∙◌}
use mathlib.Core.Bool.{Bool, true, false, cond}
use mathlib.Core.List.{[], ◌++◌}
use mathlib.Core.Option.{none, some}
use Prim.Native.Nat.{ℕ, ◌+◌, ◌≤◌, ◌<◌}
use native.Mathlib.Omega.{arith}
use borrow.Author.Tests.{le-leb, lt-leb, leb-true, leb-false}
use lib.Dec.{leb}
use lib.ListN.{length, drop, length-append}
use lib.Seq.{sets, sets-eq}
use Rattle.std.specs.Prelude.{Option, Some, None, Ok, Err}
use Rattle.std.specs.Option.{is_some}
use Rattle.standard.specs.Delivery.{Bytes, Made, Given, given}
use Rattle.byte_string.proofs.Stores.{sets-append}
use Rattle.standard.specs.Tag.{text}
use Rattle.likely.specs.Parts.{Parts, parts3, joined_parts, known_part, known_parts, fits_parts, fill_parts, minimal_parts, HasRoom, Ready}
use Rattle.likely.specs.declared.forms.NoForm.TheVariants.{NoRow, Overlong, Short}
use Rattle.likely.specs.Forms.{given_by, short_length, short_form, bytes_of, made_form, kept_if, made_of, made_filled, made_parts, RoomFor, ReadyFor}

-- the length of a form, by its parts
pub form-length : (l s r x : Bytes) → length (bytes_of (parts3 l s r) x) ≡ length l + length s + length r + length x
unfolding bytes_of joined_parts
form-length l s r x =
    let a = length-append (l ++ (s ++ r)) x in
    let b = length-append l (s ++ r) in
    let c = length-append s r in
    omega arith

-- a length of at most 255, and one over 255
pub short-some : (m n : ℕ) → Some n ≡ short_length m → (n ≡ m) × (m ≤ 255)
unfolding short_length
short-some m n e = go (leb m 255) refl e
  where
    go : (b : Bool) → leb m 255 ≡ b → Some n ≡ cond b (Some m) None → (n ≡ m) × (m ≤ 255)
    go true f k = (cc, leb-true m 255 f)
    go false f k = absurd (cc)

pub short-none : (m : ℕ) → None ≡ short_length m → 255 < m
unfolding short_length
short-none m e = go (leb m 255) refl e
  where
    go : (b : Bool) → leb m 255 ≡ b → ◌≡◌ {A = Option ℕ} None (cond b (Some m) None) → 255 < m
    go true f k = absurd (cc)
    go false f k = leb-false m 255 f

pub is-short : (m n : ℕ) → n ≡ m → m ≤ 255 → Some n ≡ short_length m
unfolding short_length
is-short m n e h = rw (le-leb m 255 h, e)

pub is-long : (m : ℕ) → 255 < m → None ≡ short_length m
unfolding short_length
is-long m h = rw (lt-leb m 255 h)

-- four parts put one behind the other
pub put_four : (z k₁ k₂ k₃ k₄ l s r x : Bytes) (a b c d : ℕ) → k₁ ≡ sets z 0 l → a ≡ 0 + length l → k₂ ≡ sets k₁ a s → b ≡ a + length s → k₃ ≡ sets k₂ b r → c ≡ b + length r → k₄ ≡ sets k₃ c x → d ≡ c + length x
    → (d ≡ length (bytes_of (parts3 l s r) x)) × (k₄ ≡ sets z 0 (bytes_of (parts3 l s r) x))
unfolding bytes_of joined_parts
put_four z k₁ k₂ k₃ k₄ l s r x a b c d e₁ ea e₂ eb e₃ ec e₄ ed =
    let n = form-length l s r x in
    let y = l ++ (s ++ r) in
    let m : length y ≡ length l + (length s + length r) = length-append l (s ++ r) ∙ ap (λ (j : ℕ). length l + j) (length-append s r) in
    let w : k₃ ≡ sets z 0 y = e₃ ∙ (ap₂ (λ (q : Bytes) (j : ℕ). sets q j r) (e₂ ∙ ap₂ (λ (q : Bytes) (j : ℕ). sets q j s) e₁ ea) (eb ∙ ap (λ (j : ℕ). j + length s) ea)
    ∙ (sym (sets-append (sets z 0 l) (0 + length l) s r) ∙ sym (sets-append z 0 l (s ++ r)))) in
    let k : c ≡ 0 + length y = omega arith in
    (omega arith, e₄ ∙ (ap₂ (λ (q : Bytes) (j : ℕ). sets q j x) w k ∙ sym (sets-append z 0 y x)))

-- delivery
module _ (x out : Bytes) where
  pub given-long : None ≡ short_length (length x) → given_by (Err Overlong) out ≡ given (made_form x) out
  unfolding given_by given made_form short_form
  given-long h = rw (lt-leb (length x) 255 (short-none _ h))

  module _ (n : ℕ) (h : Some n ≡ short_length (length x)) where
    pub given-short : length out < n → given_by (Err Short) out ≡ given (made_form x) out
    unfolding given_by given made_form short_form
    given-short k = let s = short-some _ _ h in rw (le-leb (length x) 255 s.1, lt-leb (length x) (length out) (omega arith))

    pub given-done : (m : ℕ) (out' : Bytes) → n ≤ length out → m ≡ length x → out' ≡ sets out 0 x → given_by (Ok m) out' ≡ given (made_form x) out
    unfolding given_by given made_form short_form
    given-done m out' k e w =
        let s = short-some _ _ h in
        let z : 0 + length x ≡ length x = omega arith in
        let q : out' ≡ x ++ drop (length x) out = w ∙ (sets-eq x out 0 (omega arith) ∙ ap (λ (m : ℕ). x ++ drop m out) z) in
        rw (le-leb (length x) 255 s.1, le-leb (length x) (length out) (omega arith), e, q)

-- room for the parts, by the length that was found
pub room-four : (l s r x out : Bytes) (n : ℕ) → Some n ≡ short_length (length (bytes_of (parts3 l s r) x)) → n ≤ length out → length l + length s + length r + length x ≤ length out
room-four l s r x out n h k = let e = short-some _ _ h in let m = form-length l s r x in omega arith

-- the maximised form itself
pub made-whole : (b : Bool) (L x : Bytes) (q : Parts) → b ≡ false → made_form (bytes_of q x) ≡ made_of b L x q
unfolding made_form made_of kept_if
made-whole b L x q e = rw e

pub made-long : (b : Bool) (L x : Bytes) (q : Parts) (out : Bytes) → None ≡ short_length (length (bytes_of q x)) → given_by (Err Overlong) out ≡ given (made_of b L x q) out
unfolding made_of short_form given_by given
made-long b L x q out h = rw (lt-leb (length (bytes_of q x)) 255 (short-none _ h))

-- the minimised form is no longer
minimal-shorter : (L : Bytes) (q : Parts) (x : Bytes) → length (bytes_of (minimal_parts L q) x) ≤ length (bytes_of q x)
unfolding minimal_parts
minimal-shorter L q x =
    go (fits_parts L q (parts3 q.language [] [])) (fits_parts L q (parts3 q.language [] q.region)) (fits_parts L q (parts3 q.language q.script []))
  where
    go : (a b c : Bool) → length (bytes_of (cond a (parts3 q.language [] []) (cond b (parts3 q.language [] q.region) (cond c (parts3 q.language q.script []) q))) x) ≤ length (bytes_of q x)
    go true b c = let m = form-length q.language [] [] x in let n = form-length q.language q.script q.region x in omega arith
    go false true c = let m = form-length q.language [] q.region x in let n = form-length q.language q.script q.region x in omega arith
    go false false true = let m = form-length q.language q.script [] x in let n = form-length q.language q.script q.region x in omega arith
    go false false false = omega arith

pub made-minimal : (b : Bool) (L x : Bytes) (q k : Parts) → b ≡ true → length (bytes_of q x) ≤ 255 → k ≡ minimal_parts L q → made_form (bytes_of k x) ≡ made_of b L x q
unfolding made_form made_of kept_if short_form
made-minimal b L x q k t h e =
    let m = minimal-shorter L q x in
    rw (e, t, le-leb (length (bytes_of q x)) 255 h, le-leb (length (bytes_of (minimal_parts L q) x)) 255 (omega arith))

pub then-given : (r : Given) (m n : Made) (out : Bytes) → r ≡ given m out → m ≡ n → r ≡ given n out
then-given r m n out e f = e ∙ ap (λ (x : Made). given x out) f

-- Canonical parts: the unknown ones removed, a row or none.
pub known-are : (l s r s' r' : Bytes) → s' ≡ known_part (text "-Zzzz") s → r' ≡ known_part (text "-ZZ") r → parts3 l s' r' ≡ known_parts (parts3 l s r)
unfolding known_parts
known-are l s r s' r' e f = rw (e, f)

pub room-known : (L : Bytes) (p p' : Parts) → p' ≡ known_parts p → RoomFor L p → HasRoom p'
room-known L p p' k q = subst HasRoom (sym k) q.first

pub room-again : (L : Bytes) (p p' q : Parts) → p' ≡ known_parts p → RoomFor L p → (HasRoom p' → some q ≡ fill_parts L p') → HasRoom q
room-again L p p' q k r f = r.again q (ap (fill_parts L) (sym k) ∙ sym (f (room-known L p p' k r)))

module _ (L hints : Bytes) (p p' : Parts) (k : p' ≡ known_parts p) (r : ReadyFor L hints p) where
  pub ready-known : Ready L hints p'
  ready-known = record { indexed = r.indexed; short = room-known L p p' k r.room }

  pub ready-again : (q : Parts) → (Ready L hints p' → some q ≡ fill_parts L p') → Ready L hints q
  ready-again q f = record { indexed = r.indexed; short = room-again L p p' q k r.room (λ s. f ready-known) }

-- the length that was asked for, by whether there is one
pub none-of : (o : Option ℕ) (m : ℕ) → o ≡ short_length m → is_some o ≡ false → None ≡ short_length m
none-of None m e f = e
none-of (Some n) m e f = absurd (cc)

pub some-of : (o : Option ℕ) (m : ℕ) → o ≡ short_length m → is_some o ≡ true → m ≤ 255
some-of None m e f = absurd (cc)
some-of (Some n) m e f = (short-some m n e).1

pub made_none : (b : Bool) (L x : Bytes) (p p' : Parts) (out : Bytes) → p' ≡ known_parts p → none ≡ fill_parts L p' → given_by (Err NoRow) out ≡ given (made_parts b L x p) out
unfolding made_parts made_filled given_by given
made_none b L x p p' out k e = rw (← k) (rw (← e))

pub made_some : (b : Bool) (L x : Bytes) (p p' q : Parts) → p' ≡ known_parts p → some q ≡ fill_parts L p' → made_of b L x q ≡ made_parts b L x p
unfolding made_parts made_filled
made_some b L x p p' q k e = rw (← k) (rw (← e))
