-- The text of places, as the code writes it. Assumes nothing.
use mathlib.Core.Path.{◌≡◌, refl, sym, ap, ap₂, ◌∙◌}
use mathlib.Core.List.{List, [], ◌∷◌, ◌++◌, map, append_assoc, append-nil}
use Prim.Native.Nat.{ℕ, suc, ◌+◌, ◌-◌, ◌*◌, ◌≤◌, ◌<◌}
use native.Mathlib.Omega.{arith}
use lib.ListN.{length, get_or, take, drop, length-map, length-append, length-drop, drop_of_length-le, get_or-map}
use lib.Seq.{sets, drop-cons, length-take-le, get_or-take}
use borrow.Author.Tests.{eq-eqb, ne_eqb}
use Rattle.standard.specs.Places as standard
use Rattle.byte_string.specs.Strings.{WritesWithin}
use Rattle.byte_string.proofs.Stores.{sets-append, wrote-two}
use Rattle.reader.specs.declared.spans.Span.{Span}
use Rattle.reader.specs.declared.spans.Places.{Places}
use Rattle.reader.specs.Spans.{span_is, up_to_count, places_is, Counted}
use Rattle.reader.proofs.Spanned.{length-room}
use Rattle.tsv.specs.Fields.{Bytes, decimal, field}
use Rattle.place_column.specs.Column.{span_text, mark_behind, spans_text, places_text}

-- One place.
pub span_none : (s : Span) → s.len ≡ 0 → 45 ∷ [] ≡ span_text (span_is s)
unfolding span_text span_is
span_none s e = rw (eq-eqb s.len 0 e)

pub span-some : (s : Span) (mark : ℕ) → (s.len ≡ 0 → ⊥) → field (span_text (span_is s)) mark ≡ field (decimal s.start) 43 ++ field (decimal s.len) mark
unfolding span_text span_is field
span-some s mark f = rw (ne_eqb s.len 0 f) (simp append_assoc)

pub mark-last : (left : ℕ) → left ≡ 1 → 10 ≡ mark_behind left
unfolding mark_behind
mark-last left e = rw (eq-eqb left 1 e)

pub mark-more : (left : ℕ) → (left ≡ 1 → ⊥) → 32 ≡ mark_behind left
unfolding mark_behind
mark-more left f = rw (ne_eqb left 1 f)

-- The first of several, and the others.
one_more_lem : (s : standard.Span) (ss : List standard.Span) → spans_text (s ∷ ss) ≡ field (span_text s) (mark_behind (length (s ∷ ss))) ++ spans_text ss
unfolding spans_text
one_more_lem s [] = rw (← (mark-last 1 refl)) (sym (append-nil (field (span_text s) 10)))
one_more_lem s (t ∷ ss) = rw (← (mark-more (length (s ∷ t ∷ ss)) (λ e. absurd (omega arith))))

-- those from an index on
module _ (l : List Span) (d : Span) (count i : ℕ) (h : i < count) (k : count ≤ length l) where
  abbrev all : List standard.Span
  all = take count (map span_is l)

  counted : length all ≡ count
  counted = length-take-le count (map span_is l) (rw length-map k)

  from-index : spans_text (drop i all) ≡ field (span_text (span_is (get_or l i d))) (mark_behind (count - i)) ++ spans_text (drop (i + 1) all)
  from-index =
      let n = counted in
      let c = drop-cons all i (span_is d) (omega arith) in
      let g : get_or all i (span_is d) ≡ span_is (get_or l i d) = get_or-take count (map span_is l) i (span_is d) h ∙ get_or-map span_is l i d in
      let one : suc i ≡ i + 1 = omega arith in
      let f : drop i all ≡ span_is (get_or l i d) ∷ drop (i + 1) all = c ∙ ap₂ (λ (s : standard.Span) (j : ℕ). s ∷ drop j all) g one in
      let m : length (span_is (get_or l i d) ∷ drop (i + 1) all) ≡ count - i = omega (arith, length-drop (i + 1) all) in
      ap spans_text f ∙ one_more_lem (span_is (get_or l i d)) (drop (i + 1) all) ∙ ap (λ (j : ℕ). field (span_text (span_is (get_or l i d))) (mark_behind j) ++ spans_text (drop (i + 1) all)) m

-- The places so far, and those to come.
pub record Listing (l : List Span) (count : ℕ) (o : Bytes) (at : ℕ) (out : Bytes) (end i : ℕ) : Type 0 where
  pub few : count ≤ length l
  pub most : count ≤ 50
  pub within : i ≤ count
  pub room : length out ≡ length o
  pub bound : end ≤ at + 42 * i
  pub place : end + length (spans_text (drop i (take count (map span_is l)))) ≡ at + length (spans_text (take count (map span_is l)))
  pub holds : sets out end (spans_text (drop i (take count (map span_is l)))) ≡ sets o at (spans_text (take count (map span_is l)))

pub listing_start : (n : ℕ) (p : Places) (o : Bytes) (at : ℕ) → Counted n p → Listing p.variants n o at o at 0
listing_start n p o at c =
    let f = c.few in
    let k : length p.variants ≡ 50 = sym (length-map p.variants span_is) ∙ ap length c.behind ∙ length-room 50 _ in
    record { few = omega arith; most = f; within = omega arith; room = refl; bound = omega arith; place = refl; holds = refl }

module _ (l : List Span) (count : ℕ) (o : Bytes) (at : ℕ) (out : Bytes) (end i : ℕ) (w : Listing l count o at out end i) where
  pub listing-more : (d : Span) (mark : ℕ) (r : ℕ) (out' : Bytes) → i < count → mark ≡ mark_behind (count - i)
      → WritesWithin (end + 42) out end (field (span_text (span_is (get_or l i d))) mark) r out' → length out' ≡ length out → Listing l count o at out' r (i + 1)
  listing-more d mark r out' h m e q =
      let t = from-index l d count i h w.few in
      let g = field (span_text (span_is (get_or l i d))) mark in
      let u : spans_text (drop i (take count (map span_is l))) ≡ g ++ spans_text (drop (i + 1) (take count (map span_is l))) = t ∙ ap (λ (j : ℕ). field (span_text (span_is (get_or l i d))) j ++ spans_text (drop (i + 1) (take count (map span_is l)))) (sym m) in
      let n = ap length u ∙ length-append g (spans_text (drop (i + 1) (take count (map span_is l)))) in
      let a = w.place in
      let b = w.bound in
      let e₀ = e.0 in
      let e₂ = e.2 in
      record {
        few = w.few;
        most = w.most;
        within = omega arith;
        room = q ∙ w.room;
        bound = omega arith;
        place = omega arith;
        holds = ap₂ (λ (x : Bytes) (j : ℕ). sets x j (spans_text (drop (i + 1) (take count (map span_is l))))) e.1 e.0
            ∙ sym (sets-append out end g (spans_text (drop (i + 1) (take count (map span_is l))))) ∙ ap (sets out end) (sym u) ∙ w.holds;
      }

  pub listing-done : count ≤ i → WritesWithin (at + 2100) o at (spans_text (take count (map span_is l))) end out
  unfolding spans_text
  listing-done h =
      let n = length-take-le count (map span_is l) (rw length-map w.few) in
      let k : length (take count (map span_is l)) ≤ i = omega arith in
      let z : drop i (take count (map span_is l)) ≡ [] = drop_of_length-le (take count (map span_is l)) k in
      let b = w.bound in
      let v = w.within in
      let m = w.most in
      (let p = rw (z, spans_text) at w.place in omega (arith, p), rw (z, spans_text) at w.holds, omega arith)

-- All parts.
places-text : (ps : standard.Places) (count : ℕ) → length ps.variants ≡ count
    → places_text ps ≡ field (span_text ps.language) 32 ++ (field (span_text ps.script) 32 ++ (field (span_text ps.region) (mark_behind (count + 1)) ++ spans_text ps.variants))
unfolding places_text spans_text
places-text ps count e =
    let k : length (ps.region ∷ ps.variants) ≡ count + 1 = omega arith in
    ap (λ (t : Bytes). field (span_text ps.language) 32 ++ (field (span_text ps.script) 32 ++ t))
    (one_more_lem ps.region ps.variants ∙ ap (λ (j : ℕ). field (span_text ps.region) (mark_behind j) ++ spans_text ps.variants) k)

pub places-written : (o o₁ o₂ o₃ o₄ : Bytes) (at p q r e : ℕ) (ps : Places) (count mark : ℕ) → Counted count ps → mark ≡ mark_behind (count + 1)
    → WritesWithin (at + 42) o at (field (span_text (span_is ps.language)) 32) p o₁ → WritesWithin (p + 42) o₁ p (field (span_text (span_is ps.script)) 32) q o₂
    → WritesWithin (q + 42) o₂ q (field (span_text (span_is ps.region)) mark) r o₃ → WritesWithin (r + 2100) o₃ r (spans_text (up_to_count count ps)) e o₄
    → WritesWithin (at + 2226) o at (places_text (places_is count ps)) e o₄
unfolding places_is up_to_count
places-written o o₁ o₂ o₃ o₄ at p q r e ps count mark n m a b c d =
    let few = n.few in
    let len : length ps.variants ≡ 50 = sym (length-map ps.variants span_is) ∙ ap length n.behind ∙ length-room 50 _ in
    let k : length (up_to_count count ps) ≡ count = length-take-le count (map span_is ps.variants) (rw length-map (omega arith)) in
    let x = spans_text (up_to_count count ps) in
    let y = field (span_text (span_is ps.region)) mark ++ x in
    let z = field (span_text (span_is ps.script)) 32 ++ y in
    let t : places_text (places_is count ps) ≡ field (span_text (span_is ps.language)) 32 ++ z =
    places-text (places_is count ps) count k ∙ ap (λ (j : ℕ). field (span_text (span_is ps.language)) 32 ++ (field (span_text (span_is ps.script)) 32 ++ (field (span_text (span_is ps.region)) j ++ x))) (sym m) in
    let u = wrote-two o₂ o₃ o₄ q r e (field (span_text (span_is ps.region)) mark) x y refl c.0 c.1 d.0 d.1 in
    let v = wrote-two o₁ o₂ o₄ p q e (field (span_text (span_is ps.script)) 32) y z refl b.0 b.1 u.0 u.1 in
    let w = wrote-two o o₁ o₄ at p e (field (span_text (span_is ps.language)) 32) z (places_text (places_is count ps)) t a.0 a.1 v.0 v.1 in
    (w.0, w.1, omega (arith, a.2, b.2, c.2, d.2))
