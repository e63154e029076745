-- One extension, and the extensions in the order of their singletons. Assumes nothing.
use mathlib.Core.Path.{◌≡◌, refl, sym, ap, ap₂, ◌∙◌}
use mathlib.Core.Bool.{Bool, true, false}
use mathlib.Core.List.{List, [], ◌∷◌, ◌++◌, map}
use Prim.Native.Nat.{ℕ, ◌+◌, ◌-◌, ◌≤◌, ◌<◌}
use native.Mathlib.Omega.{arith}
use lib.ListN.{length, get_or, take, drop, length-append, length-map, length-drop}
use lib.Seq.{sets, length-sets, take_all, length-take-le}
use Rattle.standard.specs.Tag.{Tag, same, head_tag}
use Rattle.standard.specs.Grammar.{separator, lower_byte, grouped, flat, u_tag, t_tag, arrange_keywords, arrange_fields, arrange_one, arrange}
use Rattle.standard.specs.Reading.{split}
use Rattle.canonical_order.specs.declared.choice.Head.{Head}
use Rattle.subtag.specs.Bytes.{normal_byte}
use Rattle.subtag.specs.Sections.{tags_of, led, Led, Plain}
use Rattle.canonical_order.specs.Section.{Longer, Each, Arrangeable, FieldsOk, is_head, no_head, pick_from, end_from, trimmed, sorted_tags, sorted_bytes, arranged_tags}
use Rattle.standard.proofs.Tags.{same-eq, same_refl}
use Rattle.subtag.proofs.Walk.{at-sep, at_byte}
use Rattle.canonical_order.proofs.Walk.{step, section-bytes}
use Rattle.byte_string.proofs.Stores.{sets-append}
use Rattle.canonical_order.proofs.Boundary.{parted, keywords, plain-parts}
use Rattle.canonical_order.proofs.Pending.{led-append, length-led, cut, grouped-all, pending, pending-start, pending_next, pending-none, found-holds, Found, Ahead, ahead, head-tags, GroupAt, group_at}
use lib.Dec.{eqb}
use borrow.Author.Tests.{eqb-true, eqb-false}
use Rattle.canonical_order.proofs.Writes.{sorted-fits, trimmed-label}
use Rattle.canonical_order.proofs.Fields.{fields-size}

-- One extension by its first byte.
pub record One (g a b : List ℕ) (c : ℕ) : Type 0 where
  pub long : 1 < length g
  pub first-size : 2 ≡ length a
  pub rest-size : length b ≡ length g - 2
  pub rest-begins : Led b
  pub rest_plain : Plain (tags_of b)
  pub rest-longer : Longer (tags_of b)
  pub as-u : c ≡ 117 → led (arrange_one (tags_of g)) ≡ map normal_byte a ++ led (arrange_keywords (tags_of b))
  pub rest-fields : c ≡ 116 → FieldsOk (tags_of b)
  pub as-t : c ≡ 116 → led (arrange_one (tags_of g)) ≡ map normal_byte a ++ led (arrange_fields (tags_of b))
  pub as-other : (c ≡ 117 → ⊥) → (c ≡ 116 → ⊥) → led (arrange_one (tags_of g)) ≡ map normal_byte a ++ map normal_byte b

one-u : (h : Tag) (ts : List Tag) → same h u_tag ≡ true → arrange_one (h ∷ ts) ≡ h ∷ arrange_keywords ts
unfolding arrange_one
one-u h ts e = rw (e, arrange_one)

one-other : (h : Tag) (ts : List Tag) → same h u_tag ≡ false → same h t_tag ≡ false → arrange_one (h ∷ ts) ≡ h ∷ ts
unfolding arrange_one
one-other h ts e f = ap (◌∷◌ h) (pick (same h u_tag) e (same h t_tag) f)
  where
    pick : (a : Bool) → a ≡ false → (b : Bool) → b ≡ false
        → elim a [ true ↦ arrange_keywords ts | false ↦ elim b [ true ↦ arrange_fields ts | false ↦ ts ] ] ≡ ts
    pick false e false f = refl
    pick true e b f = absurd (let z : ◌≡◌ {A = ℕ} 0 1 = cc in omega arith)
    pick false e true f = absurd (let z : ◌≡◌ {A = ℕ} 0 1 = cc in omega arith)

one-t : (h : Tag) (ts : List Tag) → same h u_tag ≡ false → same h t_tag ≡ true → arrange_one (h ∷ ts) ≡ h ∷ arrange_fields ts
unfolding arrange_one
one-t h ts e f = ap (◌∷◌ h) (pick (same h u_tag) e (same h t_tag) f)
  where
    pick : (a : Bool) → a ≡ false → (b : Bool) → b ≡ true
        → elim a [ true ↦ arrange_keywords ts | false ↦ elim b [ true ↦ arrange_fields ts | false ↦ ts ] ] ≡ arrange_fields ts
    pick false e true f = refl
    pick true e b f = absurd (let z : ◌≡◌ {A = ℕ} 0 1 = cc in omega arith)
    pick false e false f = absurd (let z : ◌≡◌ {A = ℕ} 0 1 = cc in omega arith)

is-not : (c d : ℕ) → (c ≡ d → ⊥) → same (c ∷ []) (d ∷ []) ≡ false
is-not c d n = go (same (c ∷ []) (d ∷ [])) refl
  where
    go : (b : Bool) → same (c ∷ []) (d ∷ []) ≡ b → b ≡ false
    go false e = refl
    go true e = absurd (n (let q : c ∷ [] ≡ d ∷ [] = same-eq (c ∷ []) (d ∷ []) e in cc))

led-cons : (h : Tag) (ts : List Tag) → led (h ∷ ts) ≡ led (h ∷ []) ++ led ts
led-cons h ts = led-append (h ∷ []) ts

one_byte : (t : Tag) (b : ℕ) (r : Tag) → t ≡ b ∷ r → length t ≡ 1 → t ≡ b ∷ []
one_byte t b [] e z = e
one_byte t b (c ∷ r) e z = absurd (omega (arith, ap length e))

led-empty : led [] ≡ []
unfolding led
led-empty = refl

one_at : (g : List ℕ) (c : ℕ) (h : Tag) (ts : List Tag) → Led g → tags_of g ≡ h ∷ ts → Plain (tags_of g) → length h ≡ 1 → Longer ts → (same h t_tag ≡ true → FieldsOk ts)
    → c ≡ lower_byte (get_or g 1 0) → One g (take 2 g) (drop 2 g) c
unfolding Plain
one_at g c h ts l e p z o n d =
    let s2 : length (led (h ∷ [])) ≡ 2 = length-led h [] ∙ omega (arith, ap length led-none) in
    let w = parted (h ∷ []) ts g 2 l e s2 in
    let k : 1 < length g = omega (arith, w.fits) in
    let st = step g 0 (length (head_tag (split (drop 1 g)))) (omega arith) l refl in
    let hd : head_tag (split (drop 1 g)) ≡ h = cc st.tags in
    let hc : h ≡ c ∷ [] = first_byte_lem (separator (get_or g 1 0)) refl k hd in
    let a : map normal_byte (take 2 g) ≡ led (h ∷ []) = section-bytes (take 2 g) w.first-begins ∙ ap led w.first in
    let b : map normal_byte (drop 2 g) ≡ led ts = section-bytes (drop 2 g) w.rest-begins ∙ ap led w.rest in
    record {
      long = k;
      first-size = sym (length-take-le 2 g w.fits);
      rest-size = length-drop 2 g;
      rest-begins = w.rest-begins;
      rest_plain = rw w.rest (rw e at p).1;
      rest-longer = rw w.rest o;
      as-u = λ i. ap (λ (x : List Tag). led (arrange_one x)) e ∙ ap led (one-u h ts (ap (λ (x : Tag). same x u_tag) (hc ∙ ap (λ (y : ℕ). y ∷ []) i) ∙ same_refl u_tag))
          ∙ led-cons h (arrange_keywords ts) ∙ ap₂ (λ (x : List ℕ) (y : List Tag). x ++ led (arrange_keywords y)) (sym a) (sym w.rest);
      rest-fields = λ i. rw w.rest (n (ap (λ (x : Tag). same x t_tag) (hc ∙ ap (λ (y : ℕ). y ∷ []) i) ∙ same_refl t_tag));
      as-t = λ i. ap (λ (x : List Tag). led (arrange_one x)) e
          ∙ ap led (one-t h ts (ap (λ (x : Tag). same x u_tag) hc ∙ is-not c 117 (λ j. omega arith)) (ap (λ (x : Tag). same x t_tag) (hc ∙ ap (λ (y : ℕ). y ∷ []) i) ∙ same_refl t_tag))
          ∙ led-cons h (arrange_fields ts) ∙ ap₂ (λ (x : List ℕ) (y : List Tag). x ++ led (arrange_fields y)) (sym a) (sym w.rest);
      as-other = λ i j. ap (λ (x : List Tag). led (arrange_one x)) e
          ∙ ap led (one-other h ts (ap (λ (x : Tag). same x u_tag) hc ∙ is-not c 117 i) (ap (λ (x : Tag). same x t_tag) hc ∙ is-not c 116 j))
          ∙ led-cons h ts ∙ ap₂ (λ (x y : List ℕ). x ++ y) (sym a) (sym b);
    }
  where
    led-none : led [] ≡ []
    led-none = led-empty

    first_byte_lem : (b : Bool) → separator (get_or g 1 0) ≡ b → 1 < length g → head_tag (split (drop 1 g)) ≡ h → h ≡ c ∷ []
    first_byte_lem true i k q = absurd (omega (arith, ap length (sym (at-sep g 1 k i) ∙ q)))
    first_byte_lem false i k q = one_byte h c (head_tag (split (drop 2 g))) (sym q ∙ at_byte g 1 k i ∙ ap (λ (x : ℕ). x ∷ head_tag (split (drop 2 g))) (sym d)) z

pub one : (g : List ℕ) (c : ℕ) → Led g → Plain (tags_of g) → Arrangeable (tags_of g) → c ≡ lower_byte (get_or g 1 0) → One g (take 2 g) (take (length g - 2) (drop 2 g)) c
unfolding Arrangeable
one g c l p a d =
    let z : take (length g - 2) (drop 2 g) ≡ drop 2 g = take_all (length g - 2) (drop 2 g) (simp length-drop (omega arith)) in
    rw z (go (tags_of g) refl a)
  where
    go : (x : List Tag) → tags_of g ≡ x → Arrangeable x → One g (take 2 g) (drop 2 g) c
    go [] e k = absurd k
    go (h ∷ ts) e k = one_at g c h ts l e p k.0 k.1 k.2 d

-- an extension does not grow
keywords-size : (s : List ℕ) → Led s → Plain (tags_of s) → Longer (tags_of s) → length (led (arrange_keywords (tags_of s))) ≤ length s
keywords-size s l p o =
    let w = keywords s (end_from 2 0 (tags_of s)) l p o refl in
    let a = sorted-fits 8 false _ w.first-begins in
    let b = sorted-fits 2 true _ w.rest-begins in
    let c = ap length w.bytes ∙ length-append (sorted_bytes 8 false (take (end_from 2 0 (tags_of s)) s)) (sorted_bytes 2 true (take (length s - end_from 2 0 (tags_of s)) (drop (end_from 2 0 (tags_of s)) s))) in
    omega (arith, w.first-size, w.rest-size, w.fits)

extension-size : (g : List ℕ) → Led g → Plain (tags_of g) → Arrangeable (tags_of g) → length (led (arrange_one (tags_of g))) ≤ length g
extension-size g l p a = go (eqb (lower_byte (get_or g 1 0)) 117) refl (eqb (lower_byte (get_or g 1 0)) 116) refl (one g (lower_byte (get_or g 1 0)) l p a refl)
  where
    go : (b : Bool) → eqb (lower_byte (get_or g 1 0)) 117 ≡ b → (c : Bool) → eqb (lower_byte (get_or g 1 0)) 116 ≡ c → One g (take 2 g) (take (length g - 2) (drop 2 g)) (lower_byte (get_or g 1 0))
        → length (led (arrange_one (tags_of g))) ≤ length g
    go true e c f w =
        let y = take (length g - 2) (drop 2 g) in
        let n = ap length (w.as-u (eqb-true (lower_byte (get_or g 1 0)) 117 e)) ∙ length-append (map normal_byte (take 2 g)) (led (arrange_keywords (tags_of y))) in
        let m = length-map (take 2 g) normal_byte in
        let k = keywords-size y w.rest-begins w.rest_plain w.rest-longer in
        omega (arith, w.long, w.first-size, w.rest-size)
    go false e true f w =
        let y = take (length g - 2) (drop 2 g) in
        let n = ap length (w.as-t (eqb-true (lower_byte (get_or g 1 0)) 116 f)) ∙ length-append (map normal_byte (take 2 g)) (led (arrange_fields (tags_of y))) in
        let m = length-map (take 2 g) normal_byte in
        let k = fields-size y w.rest-begins w.rest_plain (w.rest-fields (eqb-true (lower_byte (get_or g 1 0)) 116 f)) in
        omega (arith, w.long, w.first-size, w.rest-size)
    go false e false f w =
        let y = take (length g - 2) (drop 2 g) in
        let n = ap length (w.as-other (eqb-false (lower_byte (get_or g 1 0)) 117 e) (eqb-false (lower_byte (get_or g 1 0)) 116 f)) ∙ length-append (map normal_byte (take 2 g)) (map normal_byte y) in
        let m = length-map (take 2 g) normal_byte in
        let k = length-map y normal_byte in
        omega (arith, w.long, w.first-size, w.rest-size)

one_label : (u : List Tag) → head_tag (arrange_one u) ≡ head_tag u
unfolding arrange_one head_tag
one_label [] = refl
one_label (h ∷ ts) = refl

same-label : (u : List Tag) → head_tag (trimmed false u) ≡ head_tag u
same-label u = trimmed-label false u

-- The group's part of the section.
pub record Part (s : List ℕ) (at end : ℕ) (g : List ℕ) : Type 0 where
  pub size : length g ≡ end - at
  pub begins : Led g
  pub plain : Plain (tags_of g)
  pub tags : tags_of g ≡ cut (is_head 1) (tags_of (drop at s))

part_at : (s : List ℕ) (at next end : ℕ) → at < length s → Led (drop at s) → Plain (tags_of (drop at s)) → next ≡ at + 1 + length (head_tag (tags_of (drop at s))) → end ≡ end_from 1 next (tags_of (drop next s))
    → Part s at end (take (end - at) (drop at s))
unfolding cut
part_at s at next end h l p e k =
    let w = group_at 1 s at next h l e end k in
    let t = head_tag (split (drop (at + 1) s)) in
    let ts = tags_of (drop next s) in
    let g = grouped (is_head 1) ts in
    let d : tags_of (drop at s) ≡ (t ∷ g.before) ++ flat g.groups = head-tags 1 s at next h l e ∙ ap (◌∷◌ t) (grouped-all (is_head 1) ts) in
    let c : cut (is_head 1) (tags_of (drop at s)) ≡ t ∷ g.before = ap (cut (is_head 1)) (head-tags 1 s at next h l e) in
    let z : length (take (end - at) (drop at s)) ≡ end - at = length-take-le (end - at) (drop at s) (simp length-drop (omega (arith, w.fits, w.within, w.after))) in
    let n : length (led (t ∷ g.before)) ≡ end - at = ap (λ (x : List Tag). length (led x)) (sym c) ∙ sym (ap length w.bytes) ∙ length-map (take (end - at) (drop at s)) normal_byte ∙ z in
    let q = parted (t ∷ g.before) (flat g.groups) (drop at s) (end - at) l d n in
    record { size = z; begins = q.first-begins; plain = rw q.first (plain-parts (t ∷ g.before) (flat g.groups) (rw d at p)).0; tags = q.first ∙ sym c }

pub record Going (s out₀ : List ℕ) (at : ℕ) (out : List ℕ) (put last : ℕ) : Type 0 where
  pub same_size : length out ≡ length out₀
  pub ends : put + length (led (pending arrange_one 1 s last)) ≡ at + length (led (arranged_tags s))
  pub holds : sets out put (led (pending arrange_one 1 s last)) ≡ sets out₀ at (led (arranged_tags s))
  pub room : put + length (led (pending (trimmed false) 1 s last)) ≤ at + length s

module _ (s out₀ : List ℕ) (at : ℕ) (l : Led s) (h : Plain (tags_of s)) (each : Each Arrangeable (grouped (is_head 1) (tags_of s)).groups) where
  pub going_start : Going s out₀ at out₀ at 0
  unfolding arranged_tags arrange sorted_bytes sorted_tags
  going_start =
      let e = pending-start arrange_one one_label 1 s l h in
      let d = ap (λ (ts : List Tag). length (led ts)) (pending-start (trimmed false) same-label 1 s l h) in
      let f = sorted-fits 1 false s l in
      record { same_size = refl; ends = ap (λ (ts : List Tag). at + length (led ts)) (sym e); holds = ap (λ (ts : List Tag). sets out₀ at (led ts)) (sym e); room = omega arith }

  module _ (out : List ℕ) (put last : ℕ) (r : Head) (e : r ≡ pick_from 1 last 0 (no_head (length s)) (tags_of s)) (w : Going s out₀ at out put last) where
    pub going_done : length s ≤ r.at → (put ≡ at + length (led (arranged_tags s))) × (out ≡ sets out₀ at (led (arranged_tags s)))
    unfolding led
    going_done b =
        let n = pending-none arrange_one one_label 1 s l h last r e b in
        let z = ap (λ (ts : List Tag). length (led ts)) n in
        (omega (arith, w.ends), ap (λ (ts : List Tag). sets out put (led ts)) (sym n) ∙ w.holds)

    module _ (b : r.at < length s) where
      found : Found arrange_one 1 s last r
      found = pending_next arrange_one one_label 1 s l h last r e b

      found-same : Found (trimmed false) 1 s last r
      found-same = pending_next (trimmed false) same-label 1 s l h last r e b

      pub rises : last < r.key
      rises = found.rises

      pub next_one : Ahead s r.next
      next_one = let f = found in ahead 1 s r.at r.next f.inside f.begins f.next-is

      module _ (end : ℕ) (k : end ≡ end_from 1 r.next (tags_of (drop r.next s))) where
        pub its-group : GroupAt 1 s r.at r.next end
        its-group = let f = found in group_at 1 s r.at r.next f.inside f.begins f.next-is end k

        pub its-part : Part s r.at end (take (end - r.at) (drop r.at s))
        its-part = let f = found in part_at s r.at r.next end f.inside f.begins f.plain f.next-is k

        pub arrangeable : Arrangeable (tags_of (take (end - r.at) (drop r.at s)))
        arrangeable = rw its-part.tags (found-holds arrange_one one_label 1 s l h last r e Arrangeable each b)

        room-more : put + length (take (end - r.at) (drop r.at s)) + length (led (pending (trimmed false) 1 s r.key)) ≤ at + length s
        unfolding trimmed
        room-more =
            let g = cut (is_head 1) (tags_of (drop r.at s)) in
            let m = ap (λ (x : List Tag). length (led x)) found-same.more ∙ ap length (led-append g (pending (trimmed false) 1 s r.key)) ∙ length-append (led g) (led (pending (trimmed false) 1 s r.key)) in
            let n = ap length its-group.bytes in
            let q = length-map (take (end - r.at) (drop r.at s)) normal_byte in
            omega (arith, w.room)

        pub part-fits : at + length s ≤ length out₀ → put + length (take (end - r.at) (drop r.at s)) ≤ length out
        part-fits c = omega (arith, room-more, w.same_size)

        pub going_next : (out' : List ℕ) (put' : ℕ) → put' ≡ put + length (led (arrange_one (tags_of (take (end - r.at) (drop r.at s)))))
            → out' ≡ sets out put (led (arrange_one (tags_of (take (end - r.at) (drop r.at s))))) → Going s out₀ at out' put' r.key
        going_next out' put' c d =
            let x = take (end - r.at) (drop r.at s) in
            let g = led (arrange_one (tags_of x)) in
            let p = led (pending arrange_one 1 s r.key) in
            let m : led (pending arrange_one 1 s last) ≡ g ++ p = ap led (found.more ∙ ap (λ (y : List Tag). arrange_one y ++ pending arrange_one 1 s r.key) (sym its-part.tags))
            ∙ led-append (arrange_one (tags_of x)) (pending arrange_one 1 s r.key) in
            let z = ap length m ∙ length-append g p in
            let f = extension-size x its-part.begins its-part.plain arrangeable in
            record {
              same_size = ap length d ∙ length-sets out put g ∙ w.same_size;
              ends = omega (arith, w.ends);
              holds = ap₂ (λ (o : List ℕ) (n : ℕ). sets o n p) d c ∙ sym (sets-append out put g p) ∙ ap (sets out put) (sym m) ∙ w.holds;
              room = omega (arith, room-more);
            }
