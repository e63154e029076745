-- Laws of one step of the search for a head and for the end of a group. Assumes nothing.
use mathlib.Core.Path.{◌≡◌, sym, ap, ap₂, ◌∙◌}
use mathlib.Core.List.{List}
use Prim.Native.Nat.{ℕ, ◌+◌, ◌-◌, ◌≤◌, ◌<◌}
use native.Mathlib.Omega.{arith}
use lib.ListN.{length, take, drop}
use borrow.Author.Tests.{le-leb, lt-leb}
use Rattle.standard.specs.Tag.{head_tag}
use Rattle.standard.specs.Reading.{split}
use Rattle.subtag.specs.declared.Subtag.{Subtag}
use Rattle.canonical_order.specs.declared.choice.Head.{Head}
use Rattle.subtag.specs.Subtags.{subtag_of}
use Rattle.subtag.specs.Sections.{tags_of, Led}
use Rattle.canonical_order.specs.Section.{is_head, better_of, pick_from, end_from}
use Rattle.subtag.proofs.Walk.{judged, scanned-len}
use Rattle.canonical_order.proofs.Walk.{Step, step, tags-end}

-- what the subtag's answer for the part behind the separator says
pub record Stepped (s : List ℕ) (at : ℕ) (r : Subtag) : Type 0 where
  pub is : r ≡ subtag_of (head_tag (split (drop (at + 1) s)))
  pub size : r.len ≡ length (head_tag (split (drop (at + 1) s)))
  pub on : Step s at r.len

pub stepped : (s : List ℕ) (at : ℕ) (r : Subtag) → at < length s → Led (drop at s) → r ≡ subtag_of (head_tag (split (take (length s - (at + 1)) (drop (at + 1) s)))) → Stepped s at r
stepped s at r h l e =
    let i = judged s (at + 1) r e in
    let n = scanned-len (head_tag (split (drop (at + 1) s))) r i in
    record { is = i; size = n; on = step s at r.len h l n }

module _ (s : List ℕ) (at : ℕ) (r : Subtag) (w : Stepped s at r) where
  pub pick_next : (width last : ℕ) (best next : Head) → next ≡ better_of width last at r best
      → pick_from width last at best (tags_of (drop at s)) ≡ pick_from width last (at + 1 + r.len) next (tags_of (drop (at + 1 + r.len) s))
  unfolding pick_from
  pick_next width last best next e =
      ap (pick_from width last at best) w.on.tags
      ∙ ap₂ (λ (n : ℕ) (b : Head). pick_from width last n b (tags_of (drop (at + 1 + r.len) s))) (ap (λ (k : ℕ). at + 1 + k) (sym w.size))
      (ap (λ (t : Subtag). better_of width last at t best) (sym w.is) ∙ sym e)

  pub end-here : (width : ℕ) → r.len ≤ width → end_from width at (tags_of (drop at s)) ≡ at
  unfolding end_from is_head
  end-here width h = ap (end_from width at) w.on.tags ∙ simp (le-leb (length (head_tag (split (drop (at + 1) s)))) width (omega (arith, w.size)))

  pub end-next : (width : ℕ) → width < r.len → end_from width at (tags_of (drop at s)) ≡ end_from width (at + 1 + r.len) (tags_of (drop (at + 1 + r.len) s))
  unfolding end_from is_head
  end-next width h =
      ap (end_from width at) w.on.tags ∙ simp (lt-leb (length (head_tag (split (drop (at + 1) s)))) width (omega (arith, w.size)))
      (ap (λ (k : ℕ). end_from width (at + 1 + k) (tags_of (drop (at + 1 + r.len) s))) (sym w.size))

pub pick-done : (s : List ℕ) (width last at : ℕ) (best : Head) → length s ≤ at → pick_from width last at best (tags_of (drop at s)) ≡ best
unfolding pick_from
pick-done s width last at best h = ap (pick_from width last at best) (tags-end s at h)

pub end-done : (s : List ℕ) (width at : ℕ) → length s ≤ at → end_from width at (tags_of (drop at s)) ≡ at
unfolding end_from
end-done s width at h = ap (end_from width at) (tags-end s at h)
