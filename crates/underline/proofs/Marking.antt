-- Laws of the marks below spans. Assumes nothing.
use mathlib.Core.Path.{◌≡◌, refl, sym, ap, ◌∙◌}
use mathlib.Core.List.{List, [], ◌∷◌, map}
use Prim.Native.Nat.{ℕ, zero, suc, ◌+◌, ◌-◌, ◌≤◌, ◌<◌}
use native.Mathlib.Omega.{arith}
use native.Mathlib.Numerals.{add-one}
use lib.ListN.{length, get_or, take, drop, set, replicate, length-append, length-replicate, replicate-append-replicate}
use lib.Seq.{sets}
use Rattle.byte_string.specs.Strings.{Writes}
use Rattle.byte_string.proofs.Stores.{sets-append, wrote-two}
use Rattle.standard.specs.Tag.{All}
use Rattle.standard.specs.Places as standard
use Rattle.standard.specs.Places.{Apart, Inside}
use Rattle.reader.specs.declared.spans.Span.{Span}
use Rattle.reader.specs.Spans.{span_is}
use Rattle.tsv.specs.Fields.{Bytes}
use Rattle.underline.specs.Underline.{span_marks, marks_text, Drawable}
use Rattle.underline.proofs.Drawing.{apart-earlier}

-- a byte once more
pub times_more : (o o₁ : Bytes) (at i b : ℕ) → o₁ ≡ sets o at (replicate i b) → set o₁ (at + i) b ≡ sets o at (replicate (i + 1) b)
times_more o o₁ at i b e =
    let l = length-replicate i b in
    let k : at + i ≡ at + length (replicate i b) = omega arith in
    (wrote-two o o₁ (set o₁ (at + i) b) at (at + i) (at + i + 1) (replicate i b) (b ∷ []) (replicate (i + 1) b) (sym (replicate-append-replicate i 1 b)) k e refl refl).1

pub times-all : (o o₁ : Bytes) (at i n b : ℕ) → o₁ ≡ sets o at (replicate i b) → i ≡ n → Writes o at (replicate n b) (at + i) o₁
times-all o o₁ at i n b e f = rw (← f) (ap (◌+◌ at) (sym (length-replicate i b)), e)

-- the marks below one span
marks-length : (column : ℕ) (s : standard.Span) → length (span_marks column s) ≡ (s.start - column) + s.len
unfolding span_marks
marks-length column s =
    let spaces : List ℕ = replicate (s.start - column) 32 in
    let marks : List ℕ = replicate s.len 94 in
    let l = length-append spaces marks in
    let m = length-replicate {A = ℕ} (s.start - column) 32 in
    let n = length-replicate {A = ℕ} s.len 94 in
    omega arith

-- as the code has the span
module _ (column : ℕ) (s : Span) where
  pub marks-size : length (span_marks column (span_is s)) ≡ (s.start - column) + s.len
  unfolding span_is
  marks-size = marks-length column (span_is s)

  pub marks-written : (o o₁ o₂ : Bytes) (at p q : ℕ) → Writes o at (replicate (s.start - column) 32) p o₁ → Writes o₁ p (replicate s.len 94) q o₂
      → Writes o at (span_marks column (span_is s)) q o₂
  unfolding span_marks span_is
  marks-written o o₁ o₂ at p q a b = wrote-two o o₁ o₂ at p q (replicate (s.start - column) 32) (replicate s.len 94) _ refl a.0 a.1 b.0 b.1

-- the first so many spans, from the index i on
unfoldable pub left : List Span → ℕ → ℕ → List standard.Span
left spans count i = drop i (take count (map span_is spans))

left-next : (spans : List Span) (count i : ℕ) (d : Span) → i < count → count ≤ length spans → left spans count i ≡ span_is (get_or spans i d) ∷ left spans count (suc i)
unfolding left
left-next spans zero i d h k = absurd (omega arith)
left-next [] (suc n) i d h k = absurd (omega arith)
left-next (s ∷ spans) (suc n) zero d h k = refl
left-next (s ∷ spans) (suc n) (suc i) d h k = left-next spans n i d (omega arith) (omega arith)

left-none : (spans : List Span) (count i : ℕ) → count ≤ i → left spans count i ≡ []
unfolding left
left-none spans zero zero h = refl
left-none spans zero (suc i) h = refl
left-none spans (suc n) zero h = absurd (omega arith)
left-none [] (suc n) (suc i) h = refl
left-none (s ∷ spans) (suc n) (suc i) h = left-none spans n i (omega arith)

-- Spans that are being marked at the place at: of all of them ss are left, at the place p and from a column on.
pub record Marking (o : Bytes) (at : ℕ) (all : List standard.Span) (o₁ : Bytes) (p column : ℕ) (ss : List standard.Span) : Type 0 where
  pub apart : Apart column ss
  pub next : p + length (marks_text column ss) ≡ at + length (marks_text 0 all)
  pub put : sets o₁ p (marks_text column ss) ≡ sets o at (marks_text 0 all)

pub marking-start : (o : Bytes) (at : ℕ) (spans : List Span) (count : ℕ) → Apart 0 (take count (map span_is spans))
    → Marking o at (take count (map span_is spans)) o at 0 (left spans count 0)
unfolding left
marking-start o at spans count h = record { apart = h; next = refl; put = refl }

module _ (o : Bytes) (at : ℕ) (all : List standard.Span) (o₁ : Bytes) (p column : ℕ) (s : standard.Span) (ss : List standard.Span) (m : Marking o at all o₁ p column (s ∷ ss)) where
  one-before : column ≤ s.start
  unfolding Apart
  one-before = m.apart.0

  one-room : p + length (span_marks column s) ≤ at + length (marks_text 0 all)
  unfolding marks_text
  one-room = let n = m.next in let l = length-append (span_marks column s) (marks_text (s.start + s.len) ss) in omega arith

  one-marked : (o₂ : Bytes) (q : ℕ) → Writes o₁ p (span_marks column s) q o₂ → Marking o at all o₂ q (s.start + s.len) ss
  unfolding marks_text Apart
  one-marked o₂ q w =
      let n = m.next in
      let l = length-append (span_marks column s) (marks_text (s.start + s.len) ss) in
      let e = w.0 in
      record {
        apart = apart-earlier (s.start + s.len) (s.start + suc s.len) ss (omega arith) m.apart.1;
        next = omega arith;
        put = rw (w.0, w.1) (sym (sets-append o₁ p (span_marks column s) (marks_text (s.start + s.len) ss)) ∙ m.put);
      }

-- the same of the spans from the index i on
module _ (o : Bytes) (at : ℕ) (all : List standard.Span) (o₁ : Bytes) (p column : ℕ) (spans : List Span) (count i : ℕ) (d : Span)
    (m : Marking o at all o₁ p column (left spans count i)) (h : i < count) (k : count ≤ length spans) where
  opened : Marking o at all o₁ p column (span_is (get_or spans i d) ∷ left spans count (suc i))
  opened = rw (← (left-next spans count i d h k)) m

  pub marking-before : column ≤ (get_or spans i d).start
  unfolding span_is
  marking-before = one-before o at all o₁ p column _ _ opened

  pub marking-room : p + length (span_marks column (span_is (get_or spans i d))) ≤ at + length (marks_text 0 all)
  marking-room = one-room o at all o₁ p column _ _ opened

  pub marking-more : (o₂ : Bytes) (q : ℕ) → Writes o₁ p (span_marks column (span_is (get_or spans i d))) q o₂
      → Marking o at all o₂ q ((get_or spans i d).start + (get_or spans i d).len) (left spans count (i + 1))
  unfolding span_is
  marking-more o₂ q w = rw add-one (one-marked o at all o₁ p column _ _ opened o₂ q w)

pub marking-done : (o : Bytes) (at : ℕ) (all : List standard.Span) (o₁ : Bytes) (p column : ℕ) (spans : List Span) (count i : ℕ)
    → Marking o at all o₁ p column (left spans count i) → count ≤ i → Writes o at (marks_text 0 all) p o₁
unfolding marks_text
marking-done o at all o₁ p column spans count i m h =
    let e = left-none spans count i h in
    let f : Marking o at all o₁ p column [] = rw (← e) m in
    let n = f.next in
    (omega arith, f.put)

-- the marks end where the last span does
marks-within : (n column : ℕ) (ss : List standard.Span) → column ≤ n → Apart column ss → Inside n ss → column + length (marks_text column ss) ≤ n
unfolding marks_text Apart Inside All
marks-within n column [] h a i = omega arith
marks-within n column (s ∷ ss) h a i =
    let b = a.0 in
    let e = i.0 in
    let l = length-append (span_marks column s) (marks_text (s.start + s.len) ss) in
    let t = marks-length column s in
    let r = marks-within n (s.start + s.len) ss e (apart-earlier (s.start + s.len) (s.start + suc s.len) ss (omega arith) a.1) i.1 in
    omega arith

pub marks-short : (n : ℕ) (ss : List standard.Span) → Drawable n ss → length (marks_text 0 ss) ≤ n
marks-short n ss d = let w = marks-within n 0 ss (omega arith) d.apart d.inside in omega arith
