-- The language part and the fields of `t`. Assumes nothing.
use mathlib.Core.Path.{◌≡◌, refl, sym, ap, ap₂, subst, ◌∙◌}
use mathlib.Core.Bool.{Bool, true, false}
use mathlib.Core.List.{List, [], ◌∷◌, ◌++◌, map}
use Prim.Native.Nat.{ℕ, ◌+◌, ◌-◌, ◌≤◌, ◌<◌}
use native.Mathlib.Omega.{arith}
use lib.ListN.{length, take, drop, length-append, length-map, length-drop}
use lib.Seq.{take_all, length-take-le}
use borrow.Author.Tests.{lt-leb}
use Rattle.standard.specs.Tag.{Tag, sort_by, itself, head_tag}
use Rattle.standard.specs.Grammar.{Groups, with_tag, grouped, flat, only, others, is_variant, is_field_key, arrange_part, arrange_fields}
use Rattle.standard.specs.Reading.{split, after_first}
use Rattle.subtag.specs.declared.Subtag.{Subtag}
use Rattle.subtag.specs.Bytes.{normal_byte}
use Rattle.subtag.specs.Subtags.{subtag_of}
use Rattle.subtag.specs.Kinds.{field_from}
use Rattle.subtag.specs.Sections.{tags_of, led, Led, Plain}
use Rattle.canonical_order.specs.Section.{is_head, sorted_tags, sorted_bytes, of_variant, place_of, every_tag, PartOk, key_or_value, FieldsOk}
use Rattle.canonical_order.proofs.Picks.{Stepped, stepped}
use Rattle.canonical_order.proofs.Walk.{tags-end, section-bytes}
use Rattle.canonical_order.proofs.Pending.{led-append, length-led, grouped-all}
use Rattle.canonical_order.proofs.Boundary.{parted, plain-parts, sorted-ones, regrouped, map_same}
use Rattle.canonical_order.proofs.Tests.{tells-field, tells-variant, place-before, parted-at}
use Rattle.canonical_order.proofs.Writes.{sorted-fits}
use Rattle.standard.proofs.General.{and-true as and_both}

module _ (p : Tag → Bool) where
  every-only : (ts : List Tag) → every_tag p ts ≡ true → (only p ts ≡ ts) × (others p ts ≡ [])
  unfolding every_tag only others
  every-only [] e = (refl, refl)
  every-only (t ∷ ts) e =
      let h = and_both (p t) (every_tag p ts) e in
      let i = every-only ts h.1 in
      (rw (h.0, only) (ap (◌∷◌ t) i.0), rw (h.0, others) i.1)

  -- where those of the kind come last
  last-ones : (ts : List Tag) → every_tag p (flat (grouped p ts).groups) ≡ true → (only p ts ≡ flat (grouped p ts).groups) × (others p ts ≡ (grouped p ts).before)
  unfolding every_tag only others grouped with_tag flat
  last-ones [] e = (refl, refl)
  last-ones (t ∷ ts) e = go (p t) refl e (last-ones ts)
    where
      go : (b : Bool) → p t ≡ b → every_tag p (flat (with_tag b t (grouped p ts)).groups) ≡ true
          → (every_tag p (flat (grouped p ts).groups) ≡ true → (only p ts ≡ flat (grouped p ts).groups) × (others p ts ≡ (grouped p ts).before))
          → (only p (t ∷ ts) ≡ flat (with_tag b t (grouped p ts)).groups) × (others p (t ∷ ts) ≡ (with_tag b t (grouped p ts)).before)
      go false q f ih = let i = ih f in (rw (q, only) i.0, rw (q, others) (ap (◌∷◌ t) i.1))
      go true q f ih =
          let h = and_both (p t) (every_tag p ((grouped p ts).before ++ flat (grouped p ts).groups)) f in
          let i = every-only ts (rw (grouped-all p ts) h.1) in
          (rw (q, only) (ap (◌∷◌ t) (i.0 ∙ grouped-all p ts)), rw (q, others) i.1)

-- The language part: a and b are its parts before and from the first variant.
pub record PartAt (s : List ℕ) (v : ℕ) (a b : List ℕ) : Type 0 where
  pub fits : v ≤ length s
  pub first-size : length a ≡ v
  pub rest-size : length b ≡ length s - v
  pub rest-begins : Led b
  pub rest_plain : Plain (tags_of b)
  pub bytes : led (arrange_part (tags_of s)) ≡ map normal_byte a ++ sorted_bytes 8 false b

part-tags : (l : Tag) (ts : List Tag) → PartOk (l ∷ ts) → arrange_part (l ∷ ts) ≡ (l ∷ (grouped is_variant ts).before) ++ sort_by itself (flat (grouped is_variant ts).groups)
unfolding PartOk arrange_part after_first
part-tags l ts h = let i = last-ones is_variant ts h in ap₂ (λ (x y : List Tag). l ∷ (x ++ sort_by itself y)) i.1 i.0

part_at : (s : List ℕ) (v len : ℕ) (t : Subtag) → 0 < length s → Led s → Plain (tags_of s) → PartOk (tags_of s) → Stepped s 0 t → v ≡ place_of of_variant (1 + t.len) (tags_of (drop (1 + t.len) s))
    → PartAt s v (take v s) (drop v s)
unfolding sorted_bytes
part_at s v len t n l h k w e =
    let q : 0 + 1 + t.len ≡ 1 + t.len = omega arith in
    let x = head_tag (split (drop 1 s)) in
    let ts = tags_of (drop (1 + t.len) s) in
    let d : tags_of s ≡ x ∷ ts = w.on.tags ∙ ap (λ (i : ℕ). x ∷ tags_of (drop i s)) q in
    let g = grouped is_variant ts in
    let p : Plain (x ∷ ts) = rw d at h in
    let m = place-before of_variant is_variant tells-variant (1 + t.len) ts (plain-tail x ts p) in
    let c : tags_of s ≡ (x ∷ g.before) ++ flat g.groups = d ∙ ap (◌∷◌ x) (grouped-all is_variant ts) in
    let z : length (led (x ∷ g.before)) ≡ v = length-led x g.before ∙ omega (arith, w.size) in
    let r = parted (x ∷ g.before) (flat g.groups) s v l c z in
    let u : Plain (tags_of (drop v s)) = rw r.rest (plain-parts (x ∷ g.before) (flat g.groups) (rw c at h)).1 in
    record {
      fits = r.fits;
      first-size = length-take-le v s r.fits;
      rest-size = length-drop v s;
      rest-begins = r.rest-begins;
      rest_plain = u;
      bytes = ap led (ap arrange_part d ∙ part-tags x ts (rw d at k)) ∙ led-append (x ∷ g.before) (sort_by itself (flat g.groups))
          ∙ ap₂ (λ (y z : List ℕ). y ++ z) (sym (section-bytes (take v s) r.first-begins ∙ ap led r.first))
          (ap (λ (y : List Tag). led (sort_by itself y)) (sym r.rest) ∙ ap led (sym (sorted-ones (drop v s) u)));
    }
  where
    plain-tail : (t : Tag) (ts : List Tag) → Plain (t ∷ ts) → Plain ts
    plain-tail t ts p = (plain-parts (t ∷ []) ts p).1

pub part : (s : List ℕ) (v : ℕ) (t : Subtag) → 0 < length s → Led s → Plain (tags_of s) → PartOk (tags_of s) → t ≡ subtag_of (head_tag (split (take (length s - 1) (drop 1 s))))
    → v ≡ place_of of_variant (1 + t.len) (tags_of (drop (1 + t.len) s)) → PartAt s v (take v s) (take (length s - v) (drop v s))
part s v t n l h k d e =
    let z : take (length s - v) (drop v s) ≡ drop v s = take_all (length s - v) (drop v s) (simp length-drop (omega arith)) in
    rw z (part_at s v t.len t n l h k (stepped s 0 t n l d) e)

pub part_none : (s : List ℕ) → length s ≡ 0 → led (arrange_part (tags_of s)) ≡ []
unfolding arrange_part led
part_none s e = ap (λ (x : List Tag). led (arrange_part x)) (tags-end s 0 (omega arith))

-- the first subtag, as the code needs it
pub part-first : (s : List ℕ) (t : Subtag) → 0 < length s → Led s → t ≡ subtag_of (head_tag (split (take (length s - 1) (drop 1 s)))) → (1 + t.len ≤ length s) × Led (drop (1 + t.len) s)
part-first s t n l d =
    let w = stepped s 0 t n l d in
    let q : 0 + 1 + t.len ≡ 1 + t.len = omega arith in
    (omega (arith, w.on.fits), rw (← q) w.on.begins)

-- The fields.
agree : (t : Tag) → key_or_value t ≡ true → is_field_key t ≡ is_head 2 t
unfolding key_or_value is_field_key is_head
agree [] h = h
agree (a ∷ []) h = h
agree (a ∷ b ∷ []) h = h
agree (a ∷ b ∷ c ∷ t) h = sym (lt-leb (length (a ∷ b ∷ c ∷ t)) 2 (omega arith))

grouped-agree : (ts : List Tag) → every_tag key_or_value ts ≡ true → grouped is_field_key ts ≡ grouped (is_head 2) ts
unfolding grouped every_tag
grouped-agree [] e = refl
grouped-agree (t ∷ ts) e =
    let h = and_both (key_or_value t) (every_tag key_or_value ts) e in
    ap₂ (λ (b : Bool) (g : Groups). with_tag b t g) (agree t h.0) (grouped-agree ts h.1)

pub record FieldsAt (s : List ℕ) (k : ℕ) (a b : List ℕ) : Type 0 where
  pub fits : k ≤ length s
  pub first-size : length a ≡ k
  pub first-begins : Led a
  pub first_plain : Plain (tags_of a)
  pub first-ok : PartOk (tags_of a)
  pub rest-size : length b ≡ length s - k
  pub rest-begins : Led b
  pub rest_plain : Plain (tags_of b)
  pub bytes : led (arrange_fields (tags_of s)) ≡ led (arrange_part (tags_of a)) ++ sorted_bytes 2 false b

fields_at : (s : List ℕ) (k : ℕ) → Led s → Plain (tags_of s) → FieldsOk (tags_of s) → k ≡ place_of field_from 0 (tags_of s) → FieldsAt s k (take k s) (drop k s)
unfolding FieldsOk arrange_fields sorted_bytes sorted_tags
fields_at s k l h o e =
    let ts = tags_of s in
    let g = grouped is_field_key ts in
    let w = parted-at field_from is_field_key tells-field s k l h e in
    let p = plain-parts g.before (flat g.groups) (subst (λ (x : List Tag). Plain x) (grouped-all is_field_key ts) h) in
    let c : (grouped (is_head 2) (tags_of (drop k s))).groups ≡ g.groups =
    ap (λ (x : List Tag). (grouped (is_head 2) x).groups) w.rest ∙ ap (λ (x : Groups). x.groups) (sym (grouped-agree (flat g.groups) o.1)) ∙ regrouped is_field_key ts in
    record {
      fits = w.fits;
      first-size = length-take-le k s w.fits;
      first-begins = w.first-begins;
      first_plain = rw w.first p.0;
      first-ok = rw w.first o.0;
      rest-size = length-drop k s;
      rest-begins = w.rest-begins;
      rest_plain = rw w.rest p.1;
      bytes = led-append (arrange_part g.before) (flat (sort_by head_tag g.groups))
          ∙ ap₂ (λ (x : List Tag) (y : List (List Tag)). led (arrange_part x) ++ led (flat (sort_by head_tag y))) (sym w.first) (sym (map_same (grouped (is_head 2) (tags_of (drop k s))).groups ∙ c));
    }

pub fields : (s : List ℕ) (k : ℕ) → Led s → Plain (tags_of s) → FieldsOk (tags_of s) → k ≡ place_of field_from 0 (tags_of s) → FieldsAt s k (take k s) (take (length s - k) (drop k s))
fields s k l h o e =
    let z : take (length s - k) (drop k s) ≡ drop k s = take_all (length s - k) (drop k s) (simp length-drop (omega arith)) in
    rw z (fields_at s k l h o e)

-- neither grows
pub part-size : (s : List ℕ) → Led s → Plain (tags_of s) → PartOk (tags_of s) → length (led (arrange_part (tags_of s))) ≤ length s
part-size [] l h k = omega (arith, ap length (part_none [] refl))
part-size (b ∷ r) l h k =
    let s = b ∷ r in
    let t = subtag_of (head_tag (split (take (length s - 1) (drop 1 s)))) in
    let v = place_of of_variant (1 + t.len) (tags_of (drop (1 + t.len) s)) in
    let w = part s v t (omega arith) l h k refl refl in
    let y = take (length s - v) (drop v s) in
    let n = ap length w.bytes ∙ length-append (map normal_byte (take v s)) (sorted_bytes 8 false y) in
    let m = length-map (take v s) normal_byte in
    omega (arith, sorted-fits 8 false y w.rest-begins, w.first-size, w.rest-size, w.fits)

pub fields-size : (s : List ℕ) → Led s → Plain (tags_of s) → FieldsOk (tags_of s) → length (led (arrange_fields (tags_of s))) ≤ length s
fields-size s l h o =
    let k = place_of field_from 0 (tags_of s) in
    let w = fields s k l h o refl in
    let a = take k s in
    let b = take (length s - k) (drop k s) in
    let n = ap length w.bytes ∙ length-append (led (arrange_part (tags_of a))) (sorted_bytes 2 false b) in
    omega (arith, sorted-fits 2 false b w.rest-begins, part-size a w.first-begins w.first_plain w.first-ok, w.first-size, w.rest-size, w.fits)
