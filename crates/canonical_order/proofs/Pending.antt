-- A section's groups, by the suffixes of its subtags that begin with a head; the least head above the last gives the next
-- group to be written. Assumes nothing.
use mathlib.Core.Path.{◌≡◌, refl, sym, ap, ap₂, subst, ◌∙◌}
use mathlib.Core.Bool.{Bool, true, false, cond}
use mathlib.Core.List.{List, [], ◌∷◌, ◌++◌, map, append_assoc}
use mathlib.Core.Option.{Option, none, some}
use Prim.Native.Nat.{ℕ, zero, suc, ◌+◌, ◌-◌, ◌≤◌, ◌<◌}
use native.Mathlib.Omega.{arith}
use lib.Dec.{leb, ltb}
use lib.ListN.{length, take, drop, length-append, length-drop, length-map}
use lib.Seq.{take_at}
use borrow.Author.Tests.{lt-ltb}
use Rattle.standard.specs.Tag.{Tag, sort_by, head_tag, All}
use Rattle.standard.specs.Grammar.{with_tag, grouped, flat}
use Rattle.standard.specs.Reading.{split}
use Rattle.canonical_order.specs.declared.choice.Head.{Head}
use Rattle.subtag.specs.Bytes.{normal_byte}
use Rattle.subtag.specs.Subtags.{key_of, subtag_of, PlainTag}
use Rattle.subtag.specs.Sections.{tags_of, led, Led, Plain}
use Rattle.canonical_order.specs.Section.{Each, is_head, better_of, no_head, pick_from, end_from}
use Rattle.canonical_order.proofs.Walk.{Step, step, section-bytes}
use Rattle.canonical_order.proofs.Selection.{sort_n, above, above-all, lesser, least, lesser-assoc, Over, sort-over, chosen, chosen_none}
use Rattle.canonical_order.proofs.Keys.{number, Labelled, sort-number, sort-map}
use Rattle.subtag.proofs.Keys.{key_above, key_below}

pub led-append : (x y : List Tag) → led (x ++ y) ≡ led x ++ led y
unfolding led
led-append [] y = refl
led-append (t ∷ x) y = ap (λ (l : List ℕ). 45 ∷ (t ++ l)) (led-append x y) ∙ ap (◌∷◌ 45) (sym (append_assoc t (led x) (led y)))

pub length-led : (t : Tag) (ts : List Tag) → length (led (t ∷ ts)) ≡ 1 + length t + length (led ts)
unfolding led
length-led t ts = let e = length-append t (led ts) in omega arith

-- the suffixes that begin with a head, and the group of each
unfoldable pub tails : (Tag → Bool) → List Tag → List (List Tag)
tails p [] = []
tails p (t ∷ ts) = cond (p t) ((t ∷ ts) ∷ tails p ts) (tails p ts)

unfoldable pub cut : (Tag → Bool) → List Tag → List Tag
cut p [] = []
cut p (t ∷ ts) = t ∷ (grouped p ts).before

pub cut-label : (p : Tag → Bool) (u : List Tag) → head_tag (cut p u) ≡ head_tag u
unfolding cut head_tag
cut-label p [] = refl
cut-label p (t ∷ ts) = refl

pub groups-tails : (p : Tag → Bool) (ts : List Tag) → (grouped p ts).groups ≡ map (cut p) (tails p ts)
unfolding grouped with_tag tails cut
groups-tails p [] = refl
groups-tails p (t ∷ ts) = go (p t) (groups-tails p ts)
  where
    go : (b : Bool) → (grouped p ts).groups ≡ map (cut p) (tails p ts)
        → (with_tag b t (grouped p ts)).groups ≡ map (cut p) (cond b ((t ∷ ts) ∷ tails p ts) (tails p ts))
    go true i = ap (◌∷◌ (t ∷ (grouped p ts).before)) i
    go false i = i

-- what stands before the first head, and all the groups, are the subtags
pub grouped-all : (p : Tag → Bool) (ts : List Tag) → ts ≡ (grouped p ts).before ++ flat (grouped p ts).groups
unfolding grouped with_tag flat
grouped-all p [] = refl
grouped-all p (t ∷ ts) = go (p t) (grouped-all p ts)
  where
    go : (b : Bool) → ts ≡ (grouped p ts).before ++ flat (grouped p ts).groups
        → t ∷ ts ≡ (with_tag b t (grouped p ts)).before ++ flat (with_tag b t (grouped p ts)).groups
    go true i = ap (◌∷◌ t) i
    go false i = ap (◌∷◌ t) i

pub end_before : (width at : ℕ) (ts : List Tag) → end_from width at ts ≡ at + length (led (grouped (is_head width) ts).before)
unfolding end_from grouped with_tag led
end_before width at [] = omega arith
end_before width at (t ∷ ts) = go (is_head width t) (end_before width (at + 1 + length t) ts)
  where
    go : (b : Bool) → end_from width (at + 1 + length t) ts ≡ at + 1 + length t + length (led (grouped (is_head width) ts).before)
        → cond b at (end_from width (at + 1 + length t) ts) ≡ at + length (led (with_tag b t (grouped (is_head width) ts)).before)
    go true i = omega arith
    go false i = let e = length-append t (led (grouped (is_head width) ts).before) in omega arith

-- The place of a suffix in a section.
pub section-size : (s : List ℕ) (at : ℕ) → Led (drop at s) → length (led (tags_of (drop at s))) ≡ length s - at
section-size s at l = ap length (sym (section-bytes (drop at s) l)) ∙ length-map (drop at s) normal_byte ∙ length-drop at s

pub record Place (s : List ℕ) (u : List Tag) : Type 0 where
  pub place : ℕ
  pub is : place ≡ length s - length (led u)
  pub inside : place < length s
  pub begins : Led (drop place s)
  pub tags : tags_of (drop place s) ≡ u
  pub plain : Plain u

places : (s : List ℕ) (p : Tag → Bool) (ts : List Tag) (at : ℕ) → at ≤ length s → Led (drop at s) → tags_of (drop at s) ≡ ts → Plain ts → All (Place s) (tails p ts)
unfolding All tails Plain
places s p [] at h l e k = tt
places s p (t ∷ ts) at h l e k = go (p t) (places s p ts (at + 1 + len) w.fits w.begins more k.1)
  where
    size : length (led (t ∷ ts)) ≡ length s - at
    size = ap (λ (x : List Tag). length (led x)) (sym e) ∙ section-size s at l

    inside : at < length s
    inside = let n = length-led t ts in let z = size in omega arith

    len : ℕ
    len = length (head_tag (split (drop (at + 1) s)))

    w : Step s at len
    w = step s at len inside l refl

    more : tags_of (drop (at + 1 + len) s) ≡ ts
    more = cc w.tags

    go : (b : Bool) → All (Place s) (tails p ts) → All (Place s) (cond b ((t ∷ ts) ∷ tails p ts) (tails p ts))
    go true i = (record { place = at; is = (let z = size in let y = inside in omega arith); inside = inside; begins = l; tags = e; plain = k }, i)
    go false i = i

labelled : (p : Tag → Bool) (ts : List Tag) → Plain ts → All Labelled (tails p ts)
unfolding Plain tails All head_tag
labelled p [] h = tt
labelled p (t ∷ ts) h = go (p t) (labelled p ts h.1)
  where
    go : (b : Bool) → All Labelled (tails p ts) → All Labelled (cond b ((t ∷ ts) ∷ tails p ts) (tails p ts))
    go true i = (h.0, i)
    go false i = i

each-tails : (P : List Tag → Type 0) (p : Tag → Bool) (us : List (List Tag)) → Each P (map (cut p) us) → All (λ (u : List Tag). P (cut p u)) us
unfolding Each All
each-tails P p [] a = tt
each-tails P p (u ∷ us) a = (a.0, each-tails P p us a.1)

-- The search gives the least suffix.
unfoldable pub head_at : ℕ → Option (List Tag) → Head
head_at n none = no_head n
head_at n (some u) = record { at = n - length (led u); next = n - length (led u) + 1 + length (head_tag u); key = key_of (head_tag u) }

better-head : (width last n at : ℕ) (B : Option (List Tag)) (t : Tag) (ts : List Tag) → n ≡ at + length (led (t ∷ ts)) → PlainTag t
    → is_head width t ≡ true → ltb last (key_of t) ≡ true
    → better_of width last at (subtag_of t) (head_at n B) ≡ head_at n (lesser number B (some (t ∷ ts)))
unfolding better_of subtag_of head_at no_head is_head lesser head_tag
better-head width last n at none t ts e h a b =
    let p : n - length (led (t ∷ ts)) ≡ at = omega arith in
    simp (a, b, lt-ltb (key_of t) 18446744073709551615 (key_below t h), p)
better-head width last n at (some u) t ts e h a b =
    let p : n - length (led (t ∷ ts)) ≡ at = omega arith in
    simp (a, b) (go (ltb (key_of t) (key_of (head_tag u))) p)
  where
    go : (q : Bool) → n - length (led (t ∷ ts)) ≡ at
        → cond q (record { at = at; next = at + 1 + length t; key = key_of t }) (head_at n (some u)) ≡ head_at n (cond q (some (t ∷ ts)) (some u))
    go true p = rw p
    go false p = refl

better-low : (width last at : ℕ) (best : Head) (t : Tag) → ltb last (key_of t) ≡ false → better_of width last at (subtag_of t) best ≡ best
unfolding better_of subtag_of
better-low width last at best t b = simp b (same (leb (length t) width) best)
  where
    same : (q : Bool) (x : Head) → cond q x x ≡ x
    same true x = refl
    same false x = refl

better-long : (width last at : ℕ) (best : Head) (t : Tag) → is_head width t ≡ false → better_of width last at (subtag_of t) best ≡ best
unfolding better_of subtag_of is_head
better-long width last at best t a = simp a

pick-least : (width last n at : ℕ) (B : Option (List Tag)) (ts : List Tag) → n ≡ at + length (led ts) → Plain ts
    → pick_from width last at (head_at n B) ts ≡ head_at n (lesser number B (least number last (tails (is_head width) ts)))
unfolding pick_from Plain tails least lesser head_tag
pick-least width last n at none [] e h = refl
pick-least width last n at (some u) [] e h = refl
pick-least width last n at B (t ∷ ts) e h =
    go (is_head width t) refl (ltb last (key_of t)) refl (λ C. pick-least width last n (at + 1 + length t) C ts (omega (arith, length-led t ts)) h.1)
  where
    go : (a : Bool) → is_head width t ≡ a → (b : Bool) → ltb last (key_of t) ≡ b
        → ((C : Option (List Tag)) → pick_from width last (at + 1 + length t) (head_at n C) ts ≡ head_at n (lesser number C (least number last (tails (is_head width) ts))))
        → pick_from width last (at + 1 + length t) (better_of width last at (subtag_of t) (head_at n B)) ts
        ≡ head_at n (lesser number B (least number last (cond (is_head width t) ((t ∷ ts) ∷ tails (is_head width) ts) (tails (is_head width) ts))))
    go true a true b ih =
        ap (λ (x : Head). pick_from width last (at + 1 + length t) x ts) (better-head width last n at B t ts e h.0 a b)
        ∙ ih (lesser number B (some (t ∷ ts)))
        ∙ ap (head_at n) (lesser-assoc number B (some (t ∷ ts)) (least number last (tails (is_head width) ts)))
        ∙ sym (simp (a, b))
    go true a false b ih =
        ap (λ (x : Head). pick_from width last (at + 1 + length t) x ts) (better-low width last at (head_at n B) t b) ∙ ih B ∙ sym (simp (a, b))
    go false a b f ih =
        ap (λ (x : Head). pick_from width last (at + 1 + length t) x ts) (better-long width last at (head_at n B) t a) ∙ ih B ∙ sym (simp a)

-- What is still to be written after the head `last`, each group in the form f.
unfoldable pub pending : (List Tag → List Tag) → ℕ → List ℕ → ℕ → List Tag
pending f width s last = flat (map f (map (cut (is_head width)) (above number last (sort_n number (tails (is_head width) (tags_of s))))))

over_zero : (us : List (List Tag)) → All Labelled us → Over number 0 us
unfolding All Over
over_zero [] a = tt
over_zero (u ∷ us) a = (key_above (head_tag u) a.0, over_zero us a.1)

unfoldable IfSome : (List Tag → Type 0) → Option (List Tag) → Type 0
IfSome P none = Unit {0}
IfSome P (some u) = P u

least-all : (P : List Tag → Type 0) (k : ℕ) (us : List (List Tag)) → All P us → IfSome P (least number k us)
unfolding All least IfSome lesser
least-all P k [] a = tt
least-all P k (u ∷ us) a = go (ltb k (number u)) (least number k us) (least-all P k us a.1)
  where
    less : (b : Bool) (v : List Tag) → P v → IfSome P (cond b (some v) (some u))
    less true v i = i
    less false v i = a.0

    go : (b : Bool) (o : Option (List Tag)) → IfSome P o → IfSome P (cond b (lesser number (some u) o) o)
    go false o i = i
    go true none i = a.0
    go true (some v) i = less (ltb (number v) (number u)) v i

pub map-take : (g : ℕ → ℕ) (n : ℕ) (x : List ℕ) → map g (take n x) ≡ take n (map g x)
map-take g zero x = refl
map-take g (suc n) [] = refl
map-take g (suc n) (a ∷ x) = ap (◌∷◌ (g a)) (map-take g n x)

-- A group of a section, by the place of its head.
pub record GroupAt (width : ℕ) (s : List ℕ) (at next end : ℕ) : Type 0 where
  pub after : at < next
  pub within : next ≤ end
  pub fits : end ≤ length s
  pub bytes : map normal_byte (take (end - at) (drop at s)) ≡ led (cut (is_head width) (tags_of (drop at s)))

pub record Ahead (s : List ℕ) (next : ℕ) : Type 0 where
  pub fits : next ≤ length s
  pub begins : Led (drop next s)

module _ (width : ℕ) (s : List ℕ) (at next : ℕ) (h : at < length s) (l : Led (drop at s)) (e : next ≡ at + 1 + length (head_tag (tags_of (drop at s)))) where
  head_step : Step s at (length (head_tag (split (drop (at + 1) s))))
  head_step = step s at (length (head_tag (split (drop (at + 1) s)))) h l refl

  pub next-is : next ≡ at + 1 + length (head_tag (split (drop (at + 1) s)))
  unfolding head_tag
  next-is = e ∙ ap (λ (u : List Tag). at + 1 + length (head_tag u)) head_step.tags

  pub ahead : Ahead s next
  ahead = rw next-is (record { fits = head_step.fits; begins = head_step.begins })

  pub head-tags : tags_of (drop at s) ≡ head_tag (split (drop (at + 1) s)) ∷ tags_of (drop next s)
  head-tags = rw next-is head_step.tags

  pub group_at : (end : ℕ) → end ≡ end_from width next (tags_of (drop next s)) → GroupAt width s at next end
  unfolding cut
  group_at end k =
      let t = head_tag (split (drop (at + 1) s)) in
      let ts = tags_of (drop next s) in
      let g = grouped (is_head width) ts in
      let c : cut (is_head width) (tags_of (drop at s)) ≡ t ∷ g.before = ap (cut (is_head width)) head-tags in
      let n = end_before width next ts in
      let m = length-led t g.before in
      let i = next-is in
      let z : length (led (t ∷ g.before)) ≡ end - at = omega arith in
      let d : led (tags_of (drop at s)) ≡ led (t ∷ g.before) ++ led (flat g.groups) =
      ap led (head-tags ∙ ap (◌∷◌ t) (grouped-all (is_head width) ts)) ∙ led-append (t ∷ g.before) (flat g.groups) in
      let y = ap length d ∙ length-append (led (t ∷ g.before)) (led (flat g.groups)) in
      let x = section-size s at l in
      record {
        after = omega arith;
        within = omega arith;
        fits = omega arith;
        bytes = map-take normal_byte (end - at) (drop at s) ∙ ap (take (end - at)) (section-bytes (drop at s) l ∙ d)
            ∙ take_at (led (t ∷ g.before)) (led (flat g.groups)) (end - at) z ∙ ap led (sym c);
      }

-- The next group to be written.
pub record Found (f : List Tag → List Tag) (width : ℕ) (s : List ℕ) (last : ℕ) (r : Head) : Type 0 where
  pub rises : last < r.key
  pub inside : r.at < length s
  pub begins : Led (drop r.at s)
  pub plain : Plain (tags_of (drop r.at s))
  pub next-is : r.next ≡ r.at + 1 + length (head_tag (tags_of (drop r.at s)))
  pub more : pending f width s last ≡ f (cut (is_head width) (tags_of (drop r.at s))) ++ pending f width s r.key

module _ (f : List Tag → List Tag) (keeps : (u : List Tag) → head_tag (f u) ≡ head_tag u) (width : ℕ) (s : List ℕ) (l : Led s) (h : Plain (tags_of s)) where
  pub pending-start : flat (sort_by head_tag (map f (grouped (is_head width) (tags_of s)).groups)) ≡ pending f width s 0
  unfolding pending
  pending-start =
      let p = is_head width in
      let us = tails p (tags_of s) in
      let a = labelled p (tags_of s) h in
      let c : above number 0 (sort_n number us) ≡ sort_n number us = above-all number 0 (sort_n number us) (sort-over number 0 us (over_zero us a)) in
      ap (λ (gs : List (List Tag)). flat (sort_by head_tag (map f gs))) (groups-tails p (tags_of s))
      ∙ ap flat (sort-map f keeps (map (cut p) us) ∙ ap (map f) (sort-map (cut p) (cut-label p) us ∙ ap (map (cut p)) (sort-number us a ∙ sym c)))

  module _ (last : ℕ) (r : Head) (e : r ≡ pick_from width last 0 (no_head (length s)) (tags_of s)) where
    found-head : r ≡ head_at (length s) (least number last (tails (is_head width) (tags_of s)))
    unfolding head_at lesser
    found-head =
        let z = section-size s 0 l in
        e ∙ pick-least width last (length s) 0 none (tags_of s) (omega arith) h

    at_none : least number last (tails (is_head width) (tags_of s)) ≡ none → r.at ≡ length s
    unfolding head_at no_head
    at_none o = ap (λ (x : Head). x.at) (found-head ∙ ap (head_at (length s)) o)

    found_some : (u : List Tag) → Place s u → least number last (tails (is_head width) (tags_of s)) ≡ some u → Found f width s last r
    unfolding head_at pending flat
    found_some u pl o =
        let c = chosen number last (tails (is_head width) (tags_of s)) u o in
        let q = found-head ∙ ap (head_at (length s)) o in
        let a : r.at ≡ pl.place = ap (λ (x : Head). x.at) q ∙ sym pl.is in
        let k : r.key ≡ key_of (head_tag u) = ap (λ (x : Head). x.key) q in
        let t : tags_of (drop r.at s) ≡ u = ap (λ (n : ℕ). tags_of (drop n s)) a ∙ pl.tags in
        let n : r.next ≡ length s - length (led u) + 1 + length (head_tag u) = ap (λ (x : Head). x.next) q in
        record {
          rises = omega (arith, c.0);
          inside = omega (arith, pl.inside);
          begins = rw a pl.begins;
          plain = rw t pl.plain;
          next-is = n ∙ ap₂ (λ (x : ℕ) (v : List Tag). x + 1 + length (head_tag v)) (sym pl.is ∙ sym a) (sym t);
          more = ap (λ (x : List (List Tag)). flat (map f (map (cut (is_head width)) x))) c.1
              ∙ ap₂ (λ (v : List Tag) (n : ℕ). f (cut (is_head width) v) ++ flat (map f (map (cut (is_head width)) (above number n (sort_n number (tails (is_head width) (tags_of s))))))) (sym t) (sym k);
        }

    tags-is : (u : List Tag) → Place s u → least number last (tails (is_head width) (tags_of s)) ≡ some u → tags_of (drop r.at s) ≡ u
    unfolding head_at
    tags-is u pl o = ap (λ (n : ℕ). tags_of (drop n s)) (ap (λ (x : Head). x.at) (found-head ∙ ap (head_at (length s)) o) ∙ sym pl.is) ∙ pl.tags

    place_of : IfSome (Place s) (least number last (tails (is_head width) (tags_of s)))
    place_of = least-all (Place s) last (tails (is_head width) (tags_of s)) (places s (is_head width) (tags_of s) 0 (omega arith) l refl h)

    pub pending_next : r.at < length s → Found f width s last r
    unfolding IfSome
    pending_next b = go (least number last (tails (is_head width) (tags_of s))) refl
      where
        go : (o : Option (List Tag)) → least number last (tails (is_head width) (tags_of s)) ≡ o → Found f width s last r
        go none q = absurd (omega (arith, at_none q))
        go (some u) q = found_some u (rw q at place_of) q

    pub pending-none : length s ≤ r.at → pending f width s last ≡ []
    unfolding IfSome pending flat
    pending-none b = go (least number last (tails (is_head width) (tags_of s))) refl
      where
        go : (o : Option (List Tag)) → least number last (tails (is_head width) (tags_of s)) ≡ o → pending f width s last ≡ []
        go none q = ap (λ (x : List (List Tag)). flat (map f (map (cut (is_head width)) x))) (chosen_none number last (tails (is_head width) (tags_of s)) q)
        go (some u) q = absurd (omega (arith, (found_some u (rw q at place_of) q).inside))

    -- what holds of each group
    pub found-holds : (P : List Tag → Type 0) → Each P (grouped (is_head width) (tags_of s)).groups → r.at < length s → P (cut (is_head width) (tags_of (drop r.at s)))
    unfolding IfSome
    found-holds P a b = go (least number last (tails (is_head width) (tags_of s))) refl
      where
        each : IfSome (λ (u : List Tag). P (cut (is_head width) u)) (least number last (tails (is_head width) (tags_of s)))
        each =
            least-all (λ (u : List Tag). P (cut (is_head width) u)) last (tails (is_head width) (tags_of s))
            (each-tails P (is_head width) (tails (is_head width) (tags_of s)) (subst (λ (gs : List (List Tag)). Each P gs) (groups-tails (is_head width) (tags_of s)) a))

        go : (o : Option (List Tag)) → least number last (tails (is_head width) (tags_of s)) ≡ o → P (cut (is_head width) (tags_of (drop r.at s)))
        go none q = absurd (omega (arith, at_none q))
        go (some u) q = rw (tags-is u (rw q at place_of) q) (rw q at each)
