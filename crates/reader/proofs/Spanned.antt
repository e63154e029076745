-- Where subtags stand, as the code finds them. Assumes nothing.
use mathlib.Core.Path.{◌≡◌, refl, sym, ap, ◌∙◌}
use mathlib.Core.List.{List, [], ◌∷◌, ◌++◌, map}
use Prim.Native.Nat.{ℕ, zero, suc, ◌+◌, ◌-◌, ◌≤◌, ◌<◌}
use native.Mathlib.Omega.{arith}
use lib.ListN.{length, take, drop, set}
use borrow.Author.Tests.{le-ltb}
use Rattle.standard.specs.Tag.{Tag, head_tag}
use Rattle.standard.specs.Reading.{split}
use Rattle.standard.specs.Places as standard
use Rattle.standard.specs.Places.{span, nowhere}
use Rattle.reader.specs.declared.spans.Span.{Span}
use Rattle.reader.specs.Spans.{span_is, part_span, spans_at, Begin, in_room, padded}

-- The subtag of a part.
module _ (from to : ℕ) where
  pub span-absent : to ≤ from → nowhere ≡ part_span from to
  unfolding part_span
  span-absent h = rw (le-ltb from to h, part_span)

abbrev front : List ℕ → Tag
front s = head_tag (split s)

-- The array.
pub length-room : (n : ℕ) (ss : List standard.Span) → length (in_room n ss) ≡ n
unfolding in_room
length-room zero ss = refl
length-room (suc n) [] = ap suc (length-room n [])
length-room (suc n) (s ∷ ss) = ap suc (length-room n ss)

-- one more
set_room : (n : ℕ) (ss : List standard.Span) (s : standard.Span) → length ss < n → set (in_room n ss) (length ss) s ≡ in_room n (ss ++ (s ∷ []))
unfolding in_room
set_room zero ss s h = absurd (omega arith)
set_room (suc n) [] s h = refl
set_room (suc n) (t ∷ ss) s h = ap (◌∷◌ t) (set_room n ss s (omega arith))

-- those that it holds
pub take-room : (n : ℕ) (ss : List standard.Span) → length ss ≤ n → take (length ss) (in_room n ss) ≡ ss
unfolding in_room
take-room zero [] h = refl
take-room zero (s ∷ ss) h = absurd (omega arith)
take-room (suc n) [] h = refl
take-room (suc n) (s ∷ ss) h = ap (◌∷◌ s) (take-room n ss (omega arith))

map-set : (l : List Span) (i : ℕ) (v : Span) → map span_is (set l i v) ≡ set (map span_is l) i (span_is v)
map-set [] i v = refl
map-set (s ∷ l) zero v = refl
map-set (s ∷ l) (suc i) v = ap (◌∷◌ (span_is s)) (map-set l i v)

-- The variants so far, and those to come.
pub length-spans : (n at : ℕ) (x : List ℕ) → length (spans_at n at x) ≡ n
unfolding spans_at
length-spans zero at x = refl
length-spans (suc n) at x = ap suc (length-spans n (at + suc (length (front (drop at x)))) x)

-- the place behind n subtags
unfoldable pub behind : ℕ → ℕ → List ℕ → ℕ
behind zero at x = at
behind (suc n) at x = behind n (at + suc (length (front (drop at x)))) x

spans-more : (n at : ℕ) (x : List ℕ) → spans_at (suc n) at x ≡ spans_at n at x ++ (span (behind n at x) (length (front (drop (behind n at x) x))) ∷ [])
unfolding spans_at behind
spans-more zero at x = refl
spans-more (suc n) at x = ap (◌∷◌ (span at (length (front (drop at x))))) (spans-more n (at + suc (length (front (drop at x)))) x)

behind_more : (n at : ℕ) (x : List ℕ) → behind (suc n) at x ≡ behind n at x + suc (length (front (drop (behind n at x) x)))
unfolding behind
behind_more zero at x = refl
behind_more (suc n) at x = behind_more n (at + suc (length (front (drop at x)))) x

begin-behind : (n k m at : ℕ) (x : List ℕ) → m ≡ n + suc k → Begin m at x → behind n at x ≤ length x
unfolding Begin behind
begin-behind n k zero at x e b = absurd (omega arith)
begin-behind zero k (suc m) at x e b = b.0
begin-behind (suc n) k (suc m) at x e b = begin-behind n k m (at + suc (length (front (drop at x)))) x (omega arith) b.1

pub record Listing (x : List ℕ) (from count : ℕ) (spans : List Span) (end n : ℕ) : Type 0 where
  pub short : length x ≤ 255
  pub few : count ≤ 50
  pub begin : Begin count (from + 1) x
  pub within : n ≤ count
  pub next : end + 1 ≡ behind n (from + 1) x
  pub held : map span_is spans ≡ padded (spans_at n (from + 1) x)

pub listing_start : (x : List ℕ) (from count : ℕ) (spans : List Span) → length x ≤ 255 → count ≤ 50 → Begin count (from + 1) x → map span_is spans ≡ padded [] → Listing x from count spans from 0
unfolding behind spans_at
listing_start x from count spans h k b e = record { short = h; few = k; begin = b; within = omega arith; next = refl; held = e }

module _ (x : List ℕ) (from count : ℕ) (spans : List Span) (end n : ℕ) (l : Listing x from count spans end n) where
  pub listing-inside : n < count → end + 1 ≤ length x
  listing-inside h =
      rw l.next (begin-behind n (count - (n + 1)) count (from + 1) x (omega arith) l.begin)

  pub listing-more : n < count → (to : ℕ) (v : Span) → to ≡ end + 1 + length (front (drop (end + 1) x)) → span_is v ≡ span (end + 1) (to - (end + 1)) → Listing x from count (set spans n v) to (n + 1)
  listing-more h to v e f =
      let p = l.next in
      let few = l.few in
      let len = length-spans n (from + 1) x in
      let q : to - (end + 1) ≡ length (front (drop (end + 1) x)) = omega arith in
      let s : span_is v ≡ span (behind n (from + 1) x) (length (front (drop (behind n (from + 1) x) x))) =
      f ∙ ap (span (end + 1)) q ∙ ap (λ (k : ℕ). span k (length (front (drop k x)))) p in
      let one : n + 1 ≡ suc n = omega arith in
      let w : to + 1 ≡ end + 1 + suc (length (front (drop (end + 1) x))) = omega arith in
      let here = span (behind n (from + 1) x) (length (front (drop (behind n (from + 1) x) x))) in
      let full : spans_at (n + 1) (from + 1) x ≡ spans_at n (from + 1) x ++ (here ∷ []) = ap (λ (k : ℕ). spans_at k (from + 1) x) one ∙ spans-more n (from + 1) x in
      let put : set (padded (spans_at n (from + 1) x)) n here ≡ padded (spans_at n (from + 1) x ++ (here ∷ [])) =
      ap (λ (k : ℕ). set (padded (spans_at n (from + 1) x)) k here) (sym len) ∙ set_room 50 (spans_at n (from + 1) x) here (omega arith) in
      record {
        short = l.short;
        few = l.few;
        begin = l.begin;
        within = omega arith;
        next = w ∙ ap (λ (k : ℕ). k + suc (length (front (drop k x)))) p ∙ sym (behind_more n (from + 1) x) ∙ ap (λ (k : ℕ). behind k (from + 1) x) (sym one);
        held = map-set spans n v ∙ ap (λ (ss : List standard.Span). set ss n (span_is v)) l.held ∙ ap (set (padded (spans_at n (from + 1) x)) n) s ∙ put ∙ ap (λ (ss : List standard.Span). padded ss) (sym full);
      }

  pub listing-done : count ≤ n → map span_is spans ≡ padded (spans_at count (from + 1) x)
  listing-done h = let w = l.within in let q : n ≡ count = omega arith in rw (← q) l.held
