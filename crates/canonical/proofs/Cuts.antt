-- The parts of an accepted identifier, by the places where they end. Assumes nothing.
use mathlib.Core.Path.{◌≡◌, refl, sym, ap, ap₂, ◌∙◌, subst}
use mathlib.Core.List.{List, [], ◌∷◌, ◌++◌, map, append_assoc, append-nil, tail-eq_of_cons-eq}
use mathlib.Core.Option.{none, some-ne-none}
use Prim.Native.Nat.{ℕ, suc, ◌+◌, ◌-◌, ◌≤◌, ◌<◌}
use native.Mathlib.Numerals.{add-one}
use native.Mathlib.Omega.{arith}
use lib.Dec.{leb}
use lib.ListN.{length, get_or, take, drop, length-append, length-drop}
use lib.Seq.{drop-drop, take_at, length-take-le, drop-cons}
use borrow.Author.Tests.{leb-true}
use Rattle.standard.specs.Tag.{Tag, head_tag}
use Rattle.standard.specs.Grammar.{a_script, a_region, is_variant, is_singleton, Groups, grouped, flat, only}
use Rattle.standard.specs.Identifier.{Identifier, part, parts}
use Rattle.standard.specs.Reading.{optional, split, no_bytes, too_long, unclean, bad_tag, wrong_size, start, by_part, part_fault, is_x, up_to, from, no_language, grammar_fault, fault_by, fault_of, find, after_first, identifier_of}
use Rattle.standard.proofs.General.{bool_cases}
use Rattle.standard.proofs.Arranged.{first_of-none}
use Rattle.reader.specs.Cuts.{Cuts, cuts_after, cuts_of}
use Rattle.subtag.specs.Bytes.{normal_byte}
use Rattle.subtag.specs.Sections.{tags_of, led, Led, Plain}
use Rattle.subtag.proofs.Walk.{label-fits}
use Rattle.canonical_order.proofs.Walk.{tidied, section-bytes, Rest, split_rest}
use Rattle.canonical_order.proofs.Pending.{map-take}
use Rattle.canonical_order.proofs.Boundary.{parted, plain-parts}
use Rattle.canonical.proofs.Again.{plain-read}
use Rattle.reader.proofs.Bodies.{body, heads}
use Rattle.reader.proofs.Accepted.{Core, core-of, all-tags, has_first, others-of}

-- The length of a section.
pub parts-led : (ts : List Tag) → parts ts ≡ length (led ts)
unfolding parts led
parts-led [] = refl
parts-led (t ∷ ts) = omega (arith, parts-led ts, length-append t (led ts))

pub part-led : (t : Tag) → part t ≡ length (led (optional t))
unfolding part led optional
part-led [] = refl
part-led (b ∷ bs) = omega (arith, length-append bs [])

-- The bytes from at to to are the section of u; v stands behind it.
pub record Cut (x : List ℕ) (at to : ℕ) (u v : List Tag) : Type 0 where
  pub within : at ≤ to
  pub fits : to ≤ length x
  pub size : to ≡ at + length (led u)
  pub begins : Led (take (to - at) (drop at x))
  pub tags : tags_of (take (to - at) (drop at x)) ≡ u
  pub plain : Plain u
  pub rest-begins : Led (drop to x)
  pub rest-tags : tags_of (drop to x) ≡ v
  pub rest_plain : Plain v

pub cut : (x : List ℕ) (at to : ℕ) (u v : List Tag) → at ≤ length x → Led (drop at x) → tags_of (drop at x) ≡ u ++ v → Plain (u ++ v) → to ≡ at + length (led u) → Cut x at to u v
cut x at to u v h l e q z =
    let n : length (led u) ≡ to - at = omega arith in
    let p = parted u v (drop at x) (to - at) l e n in
    let d : drop (to - at) (drop at x) ≡ drop to x = drop-drop (to - at) at x ∙ ap (λ (k : ℕ). drop k x) (let k : at + (to - at) ≡ to = omega arith in k) in
    let f : to - at ≤ length x - at = rw length-drop at p.fits in
    record {
      within = omega arith;
      fits = omega arith;
      size = z;
      begins = p.first-begins;
      tags = p.first;
      plain = (plain-parts u v q).0;
      rest-begins = rw (← d) p.rest-begins;
      rest-tags = rw (← d) p.rest;
      rest_plain = (plain-parts u v q).1;
    }

module _ {x : List ℕ} {at to : ℕ} {u v : List Tag} (c : Cut x at to u v) where
  pub cut-size : length (take (to - at) (drop at x)) ≡ to - at
  cut-size = length-take-le (to - at) (drop at x) (simp length-drop (omega (arith, c.within, c.fits)))

  pub cut-bytes : map normal_byte (take (to - at) (drop at x)) ≡ led u
  cut-bytes = section-bytes (take (to - at) (drop at x)) c.begins ∙ ap led c.tags

  -- the next cut
  pub cut-next : (end : ℕ) (w y : List Tag) → v ≡ w ++ y → end ≡ to + length (led w) → Cut x to end w y
  cut-next end w y e z = cut x to end w y c.fits c.rest-begins (c.rest-tags ∙ e) (subst (λ (ts : List Tag). Plain ts) e c.rest_plain) z

-- a section of one subtag, without its separator
pub cut-one : (x : List ℕ) (at to : ℕ) (t : Tag) (v : List Tag) → Cut x at to (optional t) v → at < to → map normal_byte (take (to - (at + 1)) (drop (at + 1) x)) ≡ t
unfolding optional led
cut-one x at to [] v c h = absurd (omega (arith, c.size))
cut-one x at to (b ∷ bs) v c h =
    let n : to - at ≡ suc (to - (at + 1)) = omega arith in
    let d : drop at x ≡ get_or x at 0 ∷ drop (at + 1) x = rw (add-one, drop-cons x at 0 (omega (arith, c.fits))) in
    let e : normal_byte (get_or x at 0) ∷ map normal_byte (take (to - (at + 1)) (drop (at + 1) x)) ≡ 45 ∷ ((b ∷ bs) ++ []) =
    sym (ap₂ (λ (k : ℕ) (y : List ℕ). map normal_byte (take k y)) n d) ∙ cut-bytes c in
    tail-eq_of_cons-eq e ∙ append-nil (b ∷ bs)

-- What an identifier without a fault is.
pub record Accepted (x : List ℕ) : Type 0 where
  pub short : length x ≤ 255
  pub plain : Plain (split x)
  pub language : no_language by_part.first (grouped is_singleton (up_to is_x (split x))).before ≡ none
  pub core : part_fault by_part.first by_part.later start 0 (grouped is_singleton (up_to is_x (split x))).before ≡ none

short-read : (x : List ℕ) → too_long x ≡ none → length x ≤ 255
unfolding too_long
short-read x e = bool_cases (leb (length x) 255) (λ f. leb-true (length x) 255 f) (λ f. absurd (some-ne-none _ (rw (f, too_long) at e)))

pub accepted : (x : List ℕ) → fault_of x ≡ none → Accepted x
unfolding fault_of fault_by grammar_fault
accepted x e =
    let f₁ = first_of-none (no_bytes x) _ e in
    let f₂ = first_of-none (too_long x) _ f₁.1 in
    let f₃ = first_of-none (unclean 0 x) _ f₂.1 in
    let f₄ = first_of-none (bad_tag 4 wrong_size 0 (split x)) _ f₃.1 in
    let f₅ = first_of-none _ _ f₄.1 in
    let f₆ = first_of-none _ _ f₅.1 in
    record { short = short-read x f₂.0; plain = plain-read x f₃.0 f₄.0; language = f₅.0; core = f₆.0 }

-- the first subtag, and the others of the language part
abbrev pub first_tag : List ℕ → Tag
first_tag x = head_tag (grouped is_singleton (up_to is_x (split x))).before

abbrev pub other_tags : List ℕ → List Tag
other_tags x = after_first (grouped is_singleton (up_to is_x (split x))).before

-- Where the parts stand.
pub record Parts (x : List ℕ) (c : Cuts) (i : Identifier) : Type 0 where
  pub first_fits : length (first_tag x) ≤ length x
  pub first-bytes : map normal_byte (take (length (first_tag x)) x) ≡ first_tag x
  pub core : Core (first_tag x) (other_tags x)
  pub script : Cut x (length (first_tag x)) c.script (optional (find a_script (other_tags x))) (optional (find a_region (other_tags x)) ++ (i.variants ++ (flat i.extensions ++ i.private)))
  pub region : Cut x c.script c.region (optional (find a_region (other_tags x))) (i.variants ++ (flat i.extensions ++ i.private))
  pub variants : Cut x c.region c.variants i.variants (flat i.extensions ++ i.private)
  pub extensions : Cut x c.variants c.extensions (flat i.extensions) i.private

module _ (x : List ℕ) (a : Accepted x) where
  abbrev pub G : Groups
  G = grouped is_singleton (up_to is_x (split x))

  tags-are : split x ≡ first_tag x ∷ (other_tags x ++ (flat G.groups ++ from is_x (split x)))
  unfolding body heads
  tags-are = all-tags (split x) ∙ ap (λ (b : List Tag). b ++ (flat G.groups ++ from is_x (split x))) (has_first G.before a.language)

  pub before-is : G.before ≡ first_tag x ∷ other_tags x
  before-is = has_first G.before a.language

  pub first-is : head_tag (split x) ≡ first_tag x
  unfolding head_tag
  first-is = ap head_tag tags-are

  after_is : after_first (split x) ≡ other_tags x ++ (flat G.groups ++ from is_x (split x))
  unfolding after_first
  after_is = ap after_first tags-are

  core_is : Core (first_tag x) (other_tags x)
  core_is = core-of (first_tag x) (other_tags x) (rw (has_first G.before a.language) at a.core)

  rest-is : Rest x (drop (length (first_tag x)) x)
  rest-is = rw first-is at (split_rest x)

  plain-after : Plain (other_tags x ++ (flat G.groups ++ from is_x (split x)))
  unfolding Plain
  plain-after = (subst (λ (ts : List Tag). Plain ts) tags-are a.plain).1

  pub parts_at : Parts x (cuts_of (split x)) (identifier_of (split x))
  unfolding cuts_of cuts_after identifier_of
  parts_at =
      let o = other_tags x in
      let s = find a_script o in
      let r = find a_region o in
      let vs = only is_variant o in
      let more = flat G.groups ++ from is_x (split x) in
      let n = length (first_tag x) in
      let f : n ≤ length x = rw first-is at (label-fits x) in
      let e : other_tags x ++ more ≡ optional s ++ (optional r ++ (vs ++ more)) =
      ap (λ (y : List Tag). y ++ more) (others-of (first_tag x) o core_is) ∙ append_assoc (optional s) (optional r ++ vs) more ∙ ap (◌++◌ (optional s)) (append_assoc (optional r) vs more) in
      let c₁ = cut x n (n + part s) (optional s) (optional r ++ (vs ++ more)) f rest-is.begins (rest-is.tags ∙ after_is ∙ e) (subst (λ (ts : List Tag). Plain ts) e plain-after) (ap (◌+◌ n) (part-led s)) in
      let c₂ = cut-next c₁ (n + part s + part r) (optional r) (vs ++ more) refl (ap (◌+◌ (n + part s)) (part-led r)) in
      let c₃ = cut-next c₂ (n + part s + part r + parts vs) vs more refl (ap (◌+◌ (n + part s + part r)) (parts-led vs)) in
      let c₄ = cut-next c₃ (n + part s + part r + parts vs + parts (flat G.groups)) (flat G.groups) (from is_x (split x)) refl (ap (◌+◌ (n + part s + part r + parts vs)) (parts-led (flat G.groups))) in
      record {
        first_fits = f;
        first-bytes = map-take normal_byte n x ∙ ap (take n) (tidied x ∙ ap (λ (y : Tag). y ++ led (after_first (split x))) first-is) ∙ take_at (first_tag x) (led (after_first (split x))) n refl;
        core = core_is;
        script = c₁;
        region = c₂;
        variants = c₃;
        extensions = c₄;
      }
