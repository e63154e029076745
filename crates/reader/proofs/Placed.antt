-- The places of an accepted identifier, by where its parts end. Assumes nothing.
use mathlib.Core.Path.{◌≡◌, refl, sym, ap, ◌∙◌, subst}
use mathlib.Core.Bool.{true, false}
use mathlib.Core.List.{List, [], ◌∷◌, ◌++◌, map, append_assoc}
use mathlib.Core.Option.{none}
use Prim.Native.Nat.{ℕ, suc, ◌+◌, ◌-◌, ◌*◌, ◌≤◌, ◌<◌}
use native.Mathlib.Omega.{arith}
use lib.ListN.{length, take}
use borrow.Author.Tests.{lt-ltb, le-ltb, ne_eqb}
use Rattle.standard.specs.Tag.{Tag, same, All}
use Rattle.standard.specs.Grammar.{Kind, a_script, a_region, a_variant, a_none, kind_of, variant_kind, is_language, is_variant, is_singleton, only}
use Rattle.standard.specs.Identifier.{part, parts}
use Rattle.standard.specs.Reading.{optional, split, root, up_to, find, fault_of}
use Rattle.standard.specs.Places as standard
use Rattle.standard.specs.Places.{Span, span, nowhere, spans_from, span_of, variant_spans, places_of}
use Rattle.standard.proofs.Faults.{Variants}
use Rattle.standard.proofs.Shapes.{variant-size}
use Rattle.standard.proofs.Sound.{find-kind}
use Rattle.standard.proofs.Round.{parts-append}
use Rattle.standard.proofs.Bounds.{split_parts}
use Rattle.standard.proofs.Places.{optional_span, RestAt, rest_at}
use Rattle.subtag.specs.Subtags.{PlainTag}
use Rattle.reader.specs.declared.Parts.{Parts}
use Rattle.reader.specs.declared.spans.Places.{Places}
use Rattle.reader.specs.Cuts.{language_cut}
use Rattle.reader.specs.Parts.{parts_of}
use Rattle.reader.specs.Spans.{span_is, part_span, spans_at, Begin, padded, up_to_count, places_is, Counted}
use Rattle.reader.proofs.Stepping.{Fine}
use Rattle.reader.proofs.Accepted.{Core, of-language, of-root, of-script, others-of, all-at, place-from, parts-optional, language-cut, Named, named}
use Rattle.reader.proofs.Stages.{Region}
use Rattle.reader.proofs.Spanned.{span-absent, take-room, length-spans}

-- The subtags that a test keeps are variants.
pub only-kinds : (ts : List Tag) → Variants (only is_variant ts)
unfolding Variants All only is_variant variant_kind
only-kinds [] = tt
only-kinds (t ∷ ts) = go (kind_of t) refl (only-kinds ts)
  where
    go : (k : Kind) → kind_of t ≡ k → Variants (only is_variant ts) → Variants (only is_variant (t ∷ ts))
    go a_variant e h = rw (e, only) (e, h)
    go a_script e h = rw (e, only) h
    go a_region e h = rw (e, only) h
    go a_none e h = rw (e, only) h

-- five bytes each with the separator, so that 50 fit
variants-long : (vs : List Tag) → Variants vs → 5 * length vs ≤ parts vs
unfolding Variants All parts
variants-long [] h = omega arith
variants-long (v ∷ vs) h = let a = variant-size v h.0 in let b = variants-long vs h.1 in omega (arith, a.0, b)

-- Subtags that stand behind others are where these end.
pub record Found (n at : ℕ) (vs : List Tag) (x : List ℕ) : Type 0 where
  pub spans : spans_at n at x ≡ spans_from at vs
  pub begin : Begin n at x

pub found : (u vs w : List Tag) (x : List ℕ) → All Fine (split x) → split x ≡ u ++ (vs ++ w) → Found (length vs) (parts u) vs x
unfolding spans_at spans_from Begin PlainTag parts
found u [] w x a e = record { spans = refl; begin = tt }
found u (v ∷ vs) w x a e =
    let f = all-at u v (vs ++ w) (subst (λ (ts : List Tag). All Fine ts) e a) in
    let p = place-from u v (vs ++ w) x e f.plain.1 in
    let n = found (u ++ (v ∷ [])) vs w x a (e ∙ sym (append_assoc u (v ∷ []) (vs ++ w))) in
    let q : parts (u ++ (v ∷ [])) ≡ parts u + suc (length v) = omega (arith, parts-append u (v ∷ [])) in
    let l = ap length p.is in
    record {
      spans = rw l (ap (◌∷◌ (span (parts u) (length v))) (rw q at n.spans));
      begin = (p.fits, rw l (rw q at n.begin));
    }

-- A part of one subtag that may be absent, not the first.
part-is : (from to : ℕ) (t : Tag) → 0 < from → to ≡ from + part t → part_span from to ≡ optional_span (suc from) t
unfolding part_span optional_span part
part-is from to [] h e = rw (le-ltb from to (omega arith), part_span)
part-is from to (b ∷ bs) h e =
    let s : from + 1 ≡ suc from = omega arith in
    let n : to - suc from ≡ suc (length bs) = omega arith in
    rw (lt-ltb from to (omega arith), ne_eqb from 0 (omega arith), part_span) (rw s (ap (span (suc from)) n))

-- of the first, by what it is
first-is : (n : ℕ) → 0 < n → part_span 0 n ≡ span 0 n
unfolding part_span
first-is n h = rw (lt-ltb 0 n h, part_span)

root-some : (t : Tag) → is_language t ≡ false → same t root ≡ true → language_cut t ≡ length t
unfolding language_cut
root-some t e f = rw (e, f, language_cut)

script-some : (t : Tag) → is_language t ≡ false → same t root ≡ false → language_cut t ≡ 0
unfolding language_cut
script-some t e f = rw (e, f, language_cut)

-- The standard's places, by what the first subtag is.
abbrev behind_first : Span → Span → Tag → List Tag → standard.Places
behind_first l s t ts = record { language = l; script = s; region = span_of a_region (suc (length t)) ts; variants = variant_spans (suc (length t)) ts }

places-language : (t : Tag) (ts : List Tag) → is_language t ≡ true → places_of (t ∷ ts) ≡ behind_first (span 0 (length t)) (span_of a_script (suc (length t)) ts) t ts
unfolding places_of
places-language t ts e = rw (e, places_of)

places-root : (t : Tag) (ts : List Tag) → is_language t ≡ false → same t root ≡ true → ts ≡ [] → places_of (t ∷ ts) ≡ behind_first (span 0 (length t)) (span_of a_script (suc (length t)) ts) t ts
unfolding places_of span_of variant_spans
places-root t ts e f g = rw (e, f, places_of) (rw g)

places-script : (t : Tag) (ts : List Tag) → is_language t ≡ false → same t root ≡ false → places_of (t ∷ ts) ≡ behind_first nowhere (span 0 (length t)) t ts
unfolding places_of
places-script t ts e f = rw (e, f, places_of)

module _ (x : List ℕ) (p : Parts) (e : fault_of x ≡ none) (q : p ≡ parts_of (split x)) where
  n : Named x p
  n = named x p e q

  abbrev first : Tag
  first = n.first

  abbrev others : List Tag
  others = n.others

  abbrev script : Tag
  script = find a_script others

  abbrev region : Tag
  region = find a_region others

  abbrev variants : List Tag
  variants = only is_variant others

  abbrev before : List Tag
  before = first ∷ (optional script ++ optional region)

  before-parts : parts before ≡ p.region + 1
  unfolding parts
  before-parts =
      let r = n.region-end in
      omega (arith, parts-append (optional script) (optional region), parts-optional script, parts-optional region)

  all : split x ≡ before ++ (variants ++ n.behind)
  all = n.tags ∙ ap (◌∷◌ first) (sym (append_assoc (optional script) (optional region) (variants ++ n.behind)))

  -- where the parts end
  pub record Ends : Type 0 where
    pub in_size : length x ≤ 255
    pub few : p.variant_count ≤ 50
    pub region : p.region ≤ 255
    pub script : p.script ≤ 255
    pub language : p.language ≤ 255

  pub ends : Ends
  ends =
      let s = n.in_size in
      let f = n.first_some in
      let w = split_parts x in
      let v = variants-long variants (only-kinds others) in
      let b = before-parts in
      let r = n.region-end in
      let c = n.count in
      let t = n.script-end in
      let k : parts (split x) ≡ parts before + (parts variants + parts n.behind) =
      ap parts all ∙ parts-append before (variants ++ n.behind) ∙ ap (λ (m : ℕ). parts before + m) (parts-append variants n.behind) in
      let few : p.variant_count ≤ 50 = omega arith in
      let reg : p.region ≤ 255 = omega arith in
      let scr : p.script ≤ 255 = omega arith in
      record { in_size = s; few = few; region = reg; script = scr; language = language-within scr }
    where
      language-within : p.script ≤ 255 → p.language ≤ 255
      language-within h = by_first n.core
        where
          by_first : Core first others → p.language ≤ 255
          by_first (of-language l o) = let a = n.language-end ∙ language-cut first l in let t = n.script-end in omega arith
          by_first (of-root l r o) = let a = n.language-end ∙ root-some first l r in let t = n.script-end in omega arith
          by_first (of-script l r o) = let a = n.language-end ∙ script-some first l r in omega arith

  listed : Found p.variant_count (p.region + 1) variants x
  listed =
      subst (λ (m : ℕ). Found m (p.region + 1) variants x) (sym n.count)
      (subst (λ (at : ℕ). Found (length variants) at variants x) before-parts (found before variants n.behind x n.fine-tags all))

  pub begin : Begin p.variant_count (p.region + 1) x
  begin = listed.begin

  rest : RestAt (suc (length first)) (suc p.script) (suc p.region) script region variants others
  rest =
      let s = n.script-end in
      let r = n.region-end in
      subst (λ (ts : List Tag). RestAt (suc (length first)) (suc p.script) (suc p.region) script region variants ts) (sym (others-of first others n.core))
      (rest_at (suc (length first)) (suc p.script) (suc p.region) script region variants (omega arith) (omega arith) (find-kind a_script others) (find-kind a_region others) (only-kinds others))

  -- region and variants behind any first subtag
  region-is : part_span p.script p.region ≡ span_of a_region (suc (length first)) others
  region-is =
      let s = n.script-end in
      let r = n.region-end in
      let f = n.first_some in
      part-is p.script p.region region (omega arith) (omega arith) ∙ sym rest.region

  variants-are : spans_at p.variant_count (p.region + 1) x ≡ variant_spans (suc (length first)) others
  variants-are = let o : p.region + 1 ≡ suc p.region = omega arith in listed.spans ∙ ap (λ (at : ℕ). spans_from at variants) o ∙ sym rest.variants

  pub spans-are : (l s r : Span) (vs : List Span) → l ≡ part_span 0 p.language → s ≡ part_span p.language p.script → r ≡ part_span p.script p.region
      → vs ≡ spans_at p.variant_count (p.region + 1) x
      → ◌≡◌ {A = standard.Places} (record { language = l; script = s; region = r; variants = vs }) (places_of (up_to is_singleton (split x)))
  unfolding part
  spans-are l s r vs a b c d = by_first n.core
    where
      so : (ll ss : Span) → l ≡ ll → s ≡ ss → ◌≡◌ {A = standard.Places} (record { language = l; script = s; region = r; variants = vs }) (behind_first ll ss first others)
      so ll ss f g = λ i. record { language = f i; script = g i; region = (c ∙ region-is) i; variants = (d ∙ variants-are) i }

      -- with a first subtag that stands where the language does
      as-language : p.language ≡ length first → places_of (first ∷ others) ≡ behind_first (span 0 (length first)) (span_of a_script (suc (length first)) others) first others
          → ◌≡◌ {A = standard.Places} (record { language = l; script = s; region = r; variants = vs }) (places_of (up_to is_singleton (split x)))
      as-language f g =
          let t = n.first_some in
          let e = n.script-end in
          so (span 0 (length first)) (span_of a_script (suc (length first)) others) (a ∙ ap (part_span 0) f ∙ first-is (length first) t)
          (b ∙ part-is p.language p.script script (omega arith) (omega arith) ∙ ap (λ (m : ℕ). optional_span (suc m) script) f ∙ sym rest.script)
          ∙ sym (ap places_of n.main ∙ g)

      by_first : Core first others → ◌≡◌ {A = standard.Places} (record { language = l; script = s; region = r; variants = vs }) (places_of (up_to is_singleton (split x)))
      by_first (of-language i o) = as-language (n.language-end ∙ language-cut first i) (places-language first others i)
      by_first (of-root i j o) = as-language (n.language-end ∙ root-some first i j) (places-root first others i j o)
      by_first (of-script i j o) =
          let none : p.language ≡ 0 = n.language-end ∙ script-some first i j in
          let t = n.first_some in
          let w : p.script ≡ length first = n.script-end ∙ no-script o in
          so nowhere (span 0 (length first)) (a ∙ ap (part_span 0) none ∙ sym (span-absent 0 0 (omega arith)))
          (b ∙ ap (λ (m : ℕ). part_span m p.script) none ∙ ap (part_span 0) w ∙ first-is (length first) t)
          ∙ sym (ap places_of n.main ∙ places-script first others i j)
        where
          no-script : Region others → length first + part script ≡ length first
          no-script o = ap (λ (u : Tag). length first + part u) o.script ∙ omega arith

  pub places-are : (ps : Places) → span_is ps.language ≡ part_span 0 p.language → span_is ps.script ≡ part_span p.language p.script → span_is ps.region ≡ part_span p.script p.region
      → map span_is ps.variants ≡ padded (spans_at p.variant_count (p.region + 1) x)
      → (places_is p.variant_count ps ≡ places_of (up_to is_singleton (split x))) × Counted p.variant_count ps
  unfolding places_is up_to_count
  places-are ps a b c d =
      let s = spans_at p.variant_count (p.region + 1) x in
      let m = length-spans p.variant_count (p.region + 1) x in
      let f = ends.few in
      let t : take p.variant_count (map span_is ps.variants) ≡ s =
      ap (take p.variant_count) d ∙ ap (λ (k : ℕ). take k (padded s)) (sym m) ∙ take-room 50 s (omega arith) in
      (spans-are _ _ _ _ a b c t, record { few = f; behind = d ∙ ap (λ (ss : List Span). padded ss) (sym t) })
