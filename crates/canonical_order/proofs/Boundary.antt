-- A section parted at a subtag's separator; groups of one; heads of two bytes. Assumes nothing.
use mathlib.Core.Path.{◌≡◌, refl, sym, ap, ap₂, subst, ◌∙◌}
use mathlib.Core.Bool.{Bool, true, false}
use mathlib.Core.List.{List, [], ◌∷◌, ◌++◌, map}
use Prim.Native.Nat.{ℕ, suc, ◌+◌, ◌-◌, ◌≤◌, ◌<◌, Ordering}
use native.Mathlib.Omega.{arith}
use lib.ListN.{length, take, drop, length-drop}
use lib.Seq.{take-add, take_all, length-take-le, drop-drop}
use borrow.Author.Tests.{lt-leb, le-leb}
use Rattle.standard.specs.Tag.{Tag, onto, order, insert_by, sort_by, itself, head_tag}
use Rattle.standard.specs.Grammar.{separator, lower_byte, Groups, with_tag, grouped, flat, is_two, two_size, size_of, drop_true, arrange_keywords}
use Rattle.standard.specs.Reading.{split, after_first}
use Rattle.subtag.specs.Subtags.{PlainTag}
use Rattle.subtag.specs.Sections.{tags_of, led, Led, Plain}
use Rattle.canonical_order.specs.Section.{is_head, end_from, trimmed, sorted_tags, sorted_bytes, Longer}
use Rattle.subtag.proofs.Walk.{split-byte, split-cons, label-sep, label-byte, after-sep, label-fits}
use Rattle.canonical_order.proofs.Walk.{led-sep, split_rest}
use Rattle.canonical_order.proofs.Pending.{led-append, length-led, grouped-all, end_before}

-- a subtag in front of a section
split-front : (s v : List ℕ) → Led v → split (take (length (head_tag (split s))) s ++ v) ≡ head_tag (split s) ∷ tags_of v
unfolding split head_tag Led tags_of onto
split-front [] v l = split-cons v ∙ ap (λ (t : Tag). t ∷ after_first (split v)) l
split-front (b ∷ s) v l = go (separator b) refl (split-front s v l)
  where
    go : (p : Bool) → separator b ≡ p → split (take (length (head_tag (split s))) s ++ v) ≡ head_tag (split s) ∷ tags_of v
        → split (take (length (head_tag (split (b ∷ s)))) (b ∷ s) ++ v) ≡ head_tag (split (b ∷ s)) ∷ tags_of v
    go true e i = rw (label-sep b s e) (split-cons v ∙ ap (λ (t : Tag). t ∷ after_first (split v)) l)
    go false e i = rw (label-byte b s e) (split-byte b (take (length (head_tag (split s))) s ++ v) e ∙ ap (onto (lower_byte b)) i)

pub record Parted (s : List ℕ) (n : ℕ) (x y : List Tag) : Type 0 where
  pub first : tags_of (take n s) ≡ x
  pub first-begins : Led (take n s)
  pub rest : tags_of (drop n s) ≡ y
  pub rest-begins : Led (drop n s)
  pub fits : n ≤ length s

nil-tags : tags_of [] ≡ []
unfolding tags_of split after_first
nil-tags = refl

nil-led : Led []
unfolding Led split head_tag
nil-led = refl

sep-begins : (b : ℕ) (s : List ℕ) → separator b ≡ true → Led (b ∷ s)
unfolding Led
sep-begins b s e = label-sep b s e

sep-tags : (b : ℕ) (s : List ℕ) → separator b ≡ true → tags_of (b ∷ s) ≡ split s
unfolding tags_of
sep-tags b s e = after-sep b s e

led-nil : length (led []) ≡ 0
unfolding led
led-nil = refl

pub parted : (x y : List Tag) (s : List ℕ) (n : ℕ) → Led s → tags_of s ≡ x ++ y → length (led x) ≡ n → Parted s n x y
parted [] y s n l e z =
    let q : n ≡ 0 = sym z ∙ led-nil in
    rw q (record { first = nil-tags; first-begins = nil-led; rest = e; rest-begins = l; fits = omega arith })
parted (t ∷ x) y [] n l e z = absurd (let w : ◌≡◌ {A = ℕ} 0 1 = cc nil-tags in omega arith)
parted (t ∷ x) y (b ∷ s) n l e z = go (parted x y (drop (length (head_tag (split s))) s) (length (led x)) (split_rest s).begins tail-is refl)
  where
    p : separator b ≡ true
    p = led-sep b s l

    all : head_tag (split s) ∷ tags_of (drop (length (head_tag (split s))) s) ≡ t ∷ (x ++ y)
    all = ap (◌∷◌ (head_tag (split s))) (split_rest s).tags ∙ sym (split-cons s) ∙ sym (sep-tags b s p) ∙ e

    head-is : head_tag (split s) ≡ t
    head-is = cc all

    tail-is : tags_of (drop (length (head_tag (split s))) s) ≡ x ++ y
    tail-is = cc all

    go : Parted (drop (length (head_tag (split s))) s) (length (led x)) x y → Parted (b ∷ s) n (t ∷ x) y
    go i =
        let m = length (head_tag (split s)) in
        let k = length (led x) in
        let h : n ≡ suc (m + k) = let f = length-led t x in let g = ap length head-is in omega arith in
        let f = i.fits in
        let j = length-drop m s in
        let u = label-fits s in
        rw h (record {
          first = ap (λ (r : List ℕ). tags_of (b ∷ r)) (take-add m k s) ∙ sep-tags b (take m s ++ take k (drop m s)) p ∙ split-front s (take k (drop m s)) i.first-begins
              ∙ ap₂ ◌∷◌ head-is i.first;
          first-begins = sep-begins b (take (m + k) s) p;
          rest = ap tags_of (sym (drop-drop k m s)) ∙ i.rest;
          rest-begins = rw (← drop-drop k m s) i.rest-begins;
          fits = omega arith;
        })

-- Groups of one.
abbrev one : Tag → List Tag
one t = t ∷ []

insert-ones : (t : Tag) (us : List Tag) → insert_by head_tag (one t) (map one us) ≡ map one (insert_by itself t us)
unfolding insert_by head_tag
insert-ones t [] = refl
insert-ones t (u ∷ us) = go (order t u) refl (insert-ones t us)
  where
    go : (o : Ordering) → order t u ≡ o → insert_by head_tag (one t) (map one us) ≡ map one (insert_by itself t us)
        → insert_by head_tag (one t) (map one (u ∷ us)) ≡ map one (insert_by itself t (u ∷ us))
    go Ordering.lt e i = rw (e, insert_by)
    go Ordering.eq e i = rw (e, insert_by)
    go Ordering.gt e i = rw (e, insert_by) (ap (◌∷◌ (one u)) i)

sort-ones : (ts : List Tag) → sort_by head_tag (map one ts) ≡ map one (sort_by itself ts)
unfolding sort_by
sort-ones [] = refl
sort-ones (t ∷ ts) = ap (insert_by head_tag (one t)) (sort-ones ts) ∙ insert-ones t (sort_by itself ts)

flat-ones : (ts : List Tag) → flat (map one ts) ≡ ts
unfolding flat
flat-ones [] = refl
flat-ones (t ∷ ts) = ap (◌∷◌ t) (flat-ones ts)

grouped-ones : (ts : List Tag) → Plain ts → ((grouped (is_head 8) ts).before ≡ []) × ((grouped (is_head 8) ts).groups ≡ map one ts)
unfolding grouped with_tag is_head Plain PlainTag
grouped-ones [] h = (refl, refl)
grouped-ones (t ∷ ts) h =
    let i = grouped-ones ts h.1 in
    let e : is_head 8 t ≡ true = le-leb (length t) 8 h.0.1 in
    rw e (refl, ap₂ (λ (x : List Tag) (y : List (List Tag)). (t ∷ x) ∷ y) i.0 i.1)

pub map_same : (gs : List (List Tag)) → map (trimmed false) gs ≡ gs
unfolding trimmed
map_same [] = refl
map_same (g ∷ gs) = ap (◌∷◌ g) (map_same gs)

-- variants and attributes
pub sorted-ones : (s : List ℕ) → Plain (tags_of s) → sorted_tags 8 false s ≡ sort_by itself (tags_of s)
unfolding sorted_tags
sorted-ones s h =
    ap (λ (gs : List (List Tag)). flat (sort_by head_tag gs)) (map_same (grouped (is_head 8) (tags_of s)).groups ∙ (grouped-ones (tags_of s) h).1)
    ∙ ap flat (sort-ones (tags_of s)) ∙ flat-ones (sort_by itself (tags_of s))

-- Heads of two bytes, where no subtag is shorter.
pub two_size_lem : (t : Tag) → 1 < length t → is_two t ≡ is_head 2 t
unfolding is_two two_size size_of is_head
two_size_lem [] h = absurd (omega arith)
two_size_lem (a ∷ []) h = absurd (omega arith)
two_size_lem (a ∷ b ∷ []) h = refl
two_size_lem (a ∷ b ∷ c ∷ t) h = long t ∙ sym (lt-leb (length (a ∷ b ∷ c ∷ t)) 2 (omega arith))
  where
    long : (r : Tag) → two_size (size_of (a ∷ b ∷ c ∷ r)) ≡ false
    long [] = refl
    long (d ∷ []) = refl
    long (d ∷ e ∷ []) = refl
    long (d ∷ e ∷ f ∷ []) = refl
    long (d ∷ e ∷ f ∷ g ∷ []) = refl
    long (d ∷ e ∷ f ∷ g ∷ i ∷ []) = refl
    long (d ∷ e ∷ f ∷ g ∷ i ∷ j ∷ r) = refl

grouped-two : (ts : List Tag) → Longer ts → grouped is_two ts ≡ grouped (is_head 2) ts
unfolding grouped Longer
grouped-two [] h = refl
grouped-two (t ∷ ts) h = ap₂ (λ (b : Bool) (g : Groups). with_tag b t g) (two_size_lem t h.0) (grouped-two ts h.1)

-- the groups by themselves
pub regrouped : (p : Tag → Bool) (ts : List Tag) → (grouped p (flat (grouped p ts).groups)).groups ≡ (grouped p ts).groups
unfolding grouped with_tag flat
regrouped p [] = refl
regrouped p (t ∷ ts) = go (p t) refl (regrouped p ts)
  where
    go : (b : Bool) → p t ≡ b → (grouped p (flat (grouped p ts).groups)).groups ≡ (grouped p ts).groups
        → (grouped p (flat (with_tag b t (grouped p ts)).groups)).groups ≡ (with_tag b t (grouped p ts)).groups
    go false e i = i
    go true e i = ap (λ (x : List Tag). (grouped p (t ∷ x)).groups) (sym (grouped-all p ts)) ∙ ap (λ (b : Bool). (with_tag b t (grouped p ts)).groups) e

pub plain-parts : (x y : List Tag) → Plain (x ++ y) → Plain x × Plain y
unfolding Plain
plain-parts [] y h = (tt, h)
plain-parts (t ∷ x) y h = let i = plain-parts x y h.1 in ((h.0, i.0), i.1)

-- The attributes and the keywords of `u`: a and b are the section's parts before and from the first key.
pub record Keywords (s : List ℕ) (k : ℕ) (a b : List ℕ) : Type 0 where
  pub fits : k ≤ length s
  pub first-begins : Led a
  pub first_plain : Plain (tags_of a)
  pub rest-begins : Led b
  pub rest_plain : Plain (tags_of b)
  pub first-size : length a ≡ k
  pub rest-size : length b ≡ length s - k
  pub bytes : led (arrange_keywords (tags_of s)) ≡ sorted_bytes 8 false a ++ sorted_bytes 2 true b

keywords-at : (s : List ℕ) (k : ℕ) → Led s → Plain (tags_of s) → Longer (tags_of s) → k ≡ end_from 2 0 (tags_of s) → Keywords s k (take k s) (drop k s)
unfolding sorted_bytes sorted_tags trimmed arrange_keywords
keywords-at s k l h o e =
    let ts = tags_of s in
    let g = grouped (is_head 2) ts in
    let n = end_before 2 0 ts in
    let w = parted g.before (flat g.groups) s k l (grouped-all (is_head 2) ts) (omega arith) in
    let p = plain-parts g.before (flat g.groups) (subst (λ (x : List Tag). Plain x) (grouped-all (is_head 2) ts) h) in
    let f : Plain (tags_of (take k s)) = rw w.first p.0 in
    record {
      fits = w.fits;
      first-begins = w.first-begins;
      first_plain = f;
      rest-begins = w.rest-begins;
      rest_plain = rw w.rest p.1;
      first-size = length-take-le k s w.fits;
      rest-size = length-drop k s;
      bytes = ap (λ (q : Groups). led (sort_by itself q.before ++ flat (sort_by head_tag (map drop_true q.groups)))) (grouped-two ts o)
          ∙ led-append (sort_by itself g.before) (flat (sort_by head_tag (map drop_true g.groups)))
          ∙ ap₂ (λ (x y : List Tag). led x ++ led y) (ap (sort_by itself) (sym w.first) ∙ sym (sorted-ones (take k s) f)) (sym (rest-tags (drop k s) ts w.rest));
    }
  where
    rest-tags : (r : List ℕ) (ts : List Tag) → tags_of r ≡ flat (grouped (is_head 2) ts).groups
        → sorted_tags 2 true r ≡ flat (sort_by head_tag (map drop_true (grouped (is_head 2) ts).groups))
    rest-tags r ts c =
        ap (λ (x : List Tag). flat (sort_by head_tag (map drop_true (grouped (is_head 2) x).groups))) c
        ∙ ap (λ (gs : List (List Tag)). flat (sort_by head_tag (map drop_true gs))) (regrouped (is_head 2) ts)

-- as the code lends the parts
pub keywords : (s : List ℕ) (k : ℕ) → Led s → Plain (tags_of s) → Longer (tags_of s) → k ≡ end_from 2 0 (tags_of s) → Keywords s k (take k s) (take (length s - k) (drop k s))
keywords s k l h o e = let z : take (length s - k) (drop k s) ≡ drop k s = take_all (length s - k) (drop k s) (simp length-drop (omega arith)) in rw z (keywords-at s k l h o e)
