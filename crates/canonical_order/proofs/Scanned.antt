-- Scanning the subtags of a section once, and choosing among their heads. Assumes nothing.
use mathlib.Core.Path.{◌≡◌, refl, sym, ap, ap₂, subst, ◌∙◌}
use mathlib.Core.Bool.{Bool, true, false, cond}
use mathlib.Core.List.{List, [], ◌∷◌, ◌++◌, append_assoc, append-nil}
use Prim.Native.Nat.{ℕ, ◌+◌, ◌≤◌, ◌<◌}
use native.Mathlib.Numerals.{add-one}
use native.Mathlib.Omega.{arith}
use lib.Dec.{leb, ltb}
use lib.ListN.{length, take, drop, set, length-set, drop_of_length-le}
use lib.Seq.{take-suc-set}
use borrow.Author.Tests.{le-ltb}
use Rattle.standard.specs.Tag.{Tag, head_tag}
use Rattle.standard.specs.Reading.{split}
use Rattle.subtag.specs.declared.Subtag.{Subtag}
use Rattle.subtag.specs.Subtags.{subtag_of, PlainTag}
use Rattle.canonical_order.specs.declared.choice.Head.{Head}
use Rattle.subtag.specs.Sections.{tags_of, Led, Plain}
use Rattle.canonical_order.specs.Section.{better_of, no_head, pick_from}
use Rattle.canonical_order.specs.Heads.{head_of, heads_from, better_by, pick_by}
use Rattle.canonical_order.proofs.Walk.{tags-end}
use Rattle.canonical_order.proofs.Picks.{Stepped}

-- The place behind a head.
pub ends-behind : (width at : ℕ) (t : Subtag) (head : Head) → head ≡ head_of width at t → head.next ≡ at + 1 + t.len
unfolding head_of
ends-behind width at t head e = ap (λ (h : Head). h.next) e

-- the heads of the first `count` subtags are kept; the next one has its separator at the place at
pub record Scanned (width : ℕ) (s : List ℕ) (heads : List Head) (at count : ℕ) : Type 0 where
  pub fits : at ≤ length s
  pub begins : Led (drop at s)
  pub plain : Plain (tags_of (drop at s))
  pub few : count + count ≤ at
  pub room : length heads ≡ 128
  pub heads-are : take count heads ++ heads_from width at (tags_of (drop at s)) ≡ heads_from width 0 (tags_of s)

pub scanning-start : (width : ℕ) (s : List ℕ) (heads : List Head) → Led s → Plain (tags_of s) → length heads ≡ 128 → Scanned width s heads 0 0
scanning-start width s heads l h m = record {
  fits = omega arith;
  begins = l;
  plain = h;
  few = omega arith;
  room = m;
  heads-are = refl;
}

module _ (width : ℕ) (s : List ℕ) (heads : List Head) (at count : ℕ) (j : Scanned width s heads at count) where
  plain_here : (t : Tag) (ts : List Tag) → tags_of (drop at s) ≡ t ∷ ts → (0 < length t) × Plain ts
  unfolding Plain PlainTag
  plain_here t ts e = let p = rw e at j.plain in (p.0.0, p.1)

  scanning-on : (r : Subtag) (head : Head) → Stepped s at r → length s ≤ 256 → head ≡ head_of width at r → Scanned width s (set heads count head) (at + 1 + r.len) (count + 1)
  unfolding heads_from
  scanning-on r head w z e =
      let t = head_tag (split (drop (at + 1) s)) in
      let p = plain_here t _ w.on.tags in
      let n = w.size in
      let f = w.on.fits in
      let g = j.few in
      let u = j.room in
      let rest = tags_of (drop (at + 1 + r.len) s) in
      let q : length t ≡ r.len = sym w.size in
      record {
        fits = f;
        begins = w.on.begins;
        plain = p.1;
        few = omega (arith, p.0);
        room = length-set heads count head ∙ u;
        heads-are = rw (add-one, take-suc-set heads count head (omega (arith, p.0))) (append_assoc (take count heads) (head ∷ []) (heads_from width (at + 1 + r.len) rest))
            ∙ ap (◌++◌ (take count heads)) (ap₂ (λ (h : Head) (k : ℕ). h ∷ heads_from width (at + 1 + k) rest) (e ∙ ap (head_of width at) w.is) n ∙ sym (ap (heads_from width at) w.on.tags))
            ∙ j.heads-are;
      }

  pub scanning-next : (r : Subtag) (head : Head) → Stepped s at r → length s ≤ 256 → head ≡ head_of width at r → Scanned width s (set heads count head) head.next (count + 1)
  scanning-next r head w z e = subst (λ (n : ℕ). Scanned width s (set heads count head) n (count + 1)) (sym (ends-behind width at r head e)) (scanning-on r head w z e)

  pub scanned-heads : length s ≤ at → take count heads ≡ heads_from width 0 (tags_of s)
  unfolding heads_from
  scanned-heads h = sym (append-nil (take count heads)) ∙ ap (λ (ts : List Tag). take count heads ++ heads_from width at ts) (sym (tags-end s at h)) ∙ j.heads-are

-- One turn of the choice among them, and its end.
pub pick-more : (last : ℕ) (best next : Head) (heads : List Head) (i : ℕ) (head : Head) → drop i heads ≡ head ∷ drop (i + 1) heads → next ≡ better_by last head best
    → pick_by last best (drop i heads) ≡ pick_by last next (drop (i + 1) heads)
unfolding pick_by
pick-more last best next heads i head d e = ap (pick_by last best) d ∙ ap (λ (x : Head). pick_by last x (drop (i + 1) heads)) (sym e)

pub pick-over : (last : ℕ) (best : Head) (heads : List Head) (i : ℕ) → length heads ≤ i → pick_by last best (drop i heads) ≡ best
unfolding pick_by
pick-over last best heads i h = ap (pick_by last best) (drop_of_length-le heads h)

-- The choice among them is that of the section.
pub better-same : (width last at : ℕ) (t : Subtag) (best : Head) → better_of width last at t best ≡ better_by last (head_of width at t) best
unfolding better_of better_by head_of
better-same width last at t best = go (leb t.len width) refl
  where
    go : (b : Bool) → leb t.len width ≡ b
        → cond b (cond (ltb last t.key) (cond (ltb t.key best.key) (record { at = at; next = at + 1 + t.len; key = t.key }) best) best) best
        ≡ better_by last (record { at = at; next = at + 1 + t.len; key = cond b t.key 0 }) best
    go true e = refl
    go false e = sym (simp (le-ltb last 0 (omega arith)))

pub pick-same : (width last at : ℕ) (best : Head) (ts : List Tag) → pick_from width last at best ts ≡ pick_by last best (heads_from width at ts)
unfolding pick_from pick_by heads_from
pick-same width last at best [] = refl
pick-same width last at best (t ∷ ts) =
    ap (λ (b : Head). pick_from width last (at + 1 + length t) b ts) (better-same width last at (subtag_of t) best)
    ∙ pick-same width last (at + 1 + length t) (better_by last (head_of width at (subtag_of t)) best) ts

pub picked : (width last n : ℕ) (ts : List Tag) (heads : List Head) (r : Head) → heads ≡ heads_from width 0 ts → r ≡ pick_by last (no_head n) heads → r ≡ pick_from width last 0 (no_head n) ts
picked width last n ts heads r a e = e ∙ ap (pick_by last (no_head n)) a ∙ sym (pick-same width last 0 (no_head n) ts)
