-- The variants, replaced, are a section again, which is then sorted; and how long it can be. Assumes nothing.
use mathlib.Core.Path.{◌≡◌, refl, sym, ap, ap₂, ◌∙◌}
use mathlib.Core.Bool.{true, false}
use mathlib.Core.List.{List, [], ◌∷◌, ◌++◌, map}
use mathlib.Core.Option.{Option, none, some}
use Prim.Native.Nat.{ℕ, ◌*◌, ◌≤◌}
use native.Mathlib.Omega.{arith}
use lib.ListN.{length, take, length-append}
use lib.Seq.{sets}
use Rattle.standard.specs.Tag.{Tag, replace, sort_by, itself}
use Rattle.standard.specs.Grammar.{every, a_variant, kind_of}
use Rattle.standard.specs.Identifier.{Tables, canonical_variants}
use Rattle.standard.specs.Reading.{optional, of_kind}
use Rattle.standard.specs.Table.{variant_key, is_word, is_variant_tag, tables_of, check, to_canonicalise}
use Rattle.standard.proofs.General.{and-true}
use Rattle.standard.proofs.Bytes.{word, word_stands}
use Rattle.standard.proofs.Shapes.{Word, variant-size as kind-size}
use Rattle.standard.proofs.Sound.{of_kind-eq}
use Rattle.standard.proofs.Table.{shaped-tables}
use Rattle.subtag.specs.Subtags.{PlainTag}
use Rattle.subtag.proofs.Keys.{word-plain}
use Rattle.subtag.specs.Sections.{tags_of, led, Led, Plain}
use Rattle.canonical_order.specs.Section.{sorted_bytes}
use Rattle.aliases.specs.Replaced.{aliased_part}
use Rattle.canonical.specs.Variants.{resolved, EachVariant}
use Rattle.canonical_order.proofs.Pending.{led-append, section-size}
use Rattle.canonical_order.proofs.Boundary.{sorted-ones}
use Rattle.canonical_order.proofs.Writes.{sorted-fits}
use Rattle.canonical.proofs.Again.{Low, AllLow, led-begins, tags-led}
use Rattle.canonical_order.proofs.Walk.{tags-end}
use Rattle.aliases.proofs.Keyed.{front-in}
use Rattle.canonical.proofs.Words.{aliases-passed}
use Rattle.canonical.proofs.Cores.{aliased-part}

-- a variant: four to eight bytes, small letters and digits
pub record Variant (t : Tag) : Type 0 where
  pub kind : kind_of t ≡ a_variant
  pub word : Word t

variant_tag : (t : Tag) → is_variant_tag t ≡ true → Variant t
unfolding is_variant_tag is_word word
variant_tag t e = let h = and-true (of_kind a_variant (kind_of t)) (is_word t) e in record { kind = of_kind-eq a_variant (kind_of t) h.0; word = h.1 }

pub variant-size : (t : Tag) → Variant t → (4 ≤ length t) × (length t ≤ 8)
variant-size t v = kind-size t v.kind

pub low_word : (t : Tag) → Word t → Low t
unfolding Low every
low_word [] e = tt
low_word (b ∷ t) e = let h = and-true (word b) (every word t) e in let s = word_stands b h.0 in (s.apart, s.lowers, low_word t h.1)

variant-plain : (t : Tag) → Variant t → PlainTag t
unfolding PlainTag
variant-plain t v = let s = variant-size t v in (omega (arith, s.0), s.1, word-plain t v.word)

-- of each
unfoldable pub Variants : List Tag → Type 0
Variants [] = Unit {0}
Variants (t ∷ ts) = Variant t × Variants ts

pub each-variant : (ts : List Tag) → EachVariant ts → Variants ts
unfolding EachVariant Variants
each-variant [] h = tt
each-variant (t ∷ ts) h = (variant_tag t h.0, each-variant ts h.1)

variants-low : (ts : List Tag) → Variants ts → AllLow ts
unfolding Variants AllLow
variants-low [] h = tt
variants-low (t ∷ ts) h = (low_word t h.0.word, variants-low ts h.1)

variants-plain : (ts : List Tag) → Variants ts → Plain ts
unfolding Variants Plain
variants-plain [] h = tt
variants-plain (t ∷ ts) h = (variant-plain t h.0, variants-plain ts h.1)

led-one : (t : Tag) → Variant t → led (optional t) ≡ led (t ∷ [])
unfolding optional
led-one [] v = absurd (let s = variant-size [] v in omega (arith, s.0))
led-one (b ∷ t) v = refl

module _ (A : List ℕ) (k : check to_canonicalise A [] [] ≡ none) where
  abbrev T : Tables
  T = tables_of A [] []

  abbrev change : Tag → Tag
  change = replace T.variants

  changed : (t : Tag) → Variant t → Variant (change t)
  unfolding replace
  changed [] v = v
  changed (b ∷ t) v = go (T.variants (b ∷ t)) refl
    where
      go : (o : Option Tag) → T.variants (b ∷ t) ≡ o → Variant (change (b ∷ t))
      go none e = rw (e, replace) v
      go (some u) e = let h = (shaped-tables A [] [] (aliases-passed A k)).variants (b ∷ t) u e in rw (e, replace) (record { kind = h.0; word = h.1 })

  all_changed : (ts : List Tag) → Variants ts → Variants (map change ts)
  unfolding Variants
  all_changed [] h = tt
  all_changed (t ∷ ts) h = (changed t h.0, all_changed ts h.1)

  part-variant : (t : Tag) → aliased_part A variant_key t ≡ led (optional (change t))
  unfolding tables_of
  part-variant t = aliased-part A variant_key t

  pub resolved-led : (ts : List Tag) → Variants ts → resolved A ts ≡ led (map change ts)
  unfolding resolved Variants led
  resolved-led [] h = refl
  resolved-led (t ∷ ts) h =
      ap₂ (λ (x y : List ℕ). x ++ y) (part-variant t ∙ led-one (change t) (changed t h.0)) (resolved-led ts h.1) ∙ sym (led-append (change t ∷ []) (map change ts))

  -- from five bytes to nine
  pub resolved-size : (ts : List Tag) → Variants ts → 5 * length (led (map change ts)) ≤ 9 * length (led ts)
  unfolding Variants led
  resolved-size [] h = omega arith
  resolved-size (t ∷ ts) h =
      let i = resolved-size ts h.1 in
      let a = variant-size t h.0 in
      let b = variant-size (change t) (changed t h.0) in
      omega (arith, a.0, b.1, length-append t (led ts), length-append (change t) (led (map change ts)))

  -- the section of the replaced variants
  pub record Section (ts : List Tag) (s : List ℕ) : Type 0 where
    pub begins : Led s
    pub plain : Plain (tags_of s)
    pub sorted : sorted_bytes 8 false s ≡ led (canonical_variants T ts)

  pub section : (ts : List Tag) → Variants ts → Section ts (led (map change ts))
  unfolding sorted_bytes canonical_variants
  section ts h =
      let v = all_changed ts h in
      let e = tags-led (map change ts) (variants-low (map change ts) v) in
      let p : Plain (tags_of (led (map change ts))) = rw e (variants-plain (map change ts) v) in
      record { begins = led-begins (map change ts); plain = p; sorted = ap led (sorted-ones (led (map change ts)) p ∙ ap (sort_by itself) e) }

  pub canonical-size : (ts : List Tag) → Variants ts → 5 * length (led (canonical_variants T ts)) ≤ 9 * length (led ts)
  canonical-size ts h =
      let w = section ts h in
      let f = sorted-fits 8 false (led (map change ts)) w.begins in
      omega (arith, ap length w.sorted, resolved-size ts h)

  pub canonical-none : canonical_variants T [] ≡ []
  unfolding canonical_variants sort_by
  canonical-none = refl

  module _ (s : List ℕ) (l : Led s) (v : EachVariant (tags_of s)) (h : length s ≤ 255) where
    pub resolved-fits : length (resolved A (tags_of s)) ≤ 459
    resolved-fits =
        let e = each-variant (tags_of s) v in
        omega (arith, ap length (resolved-led (tags_of s) e), resolved-size (tags_of s) e, section-size s 0 l)

    pub scratch : (z k₂ : List ℕ) (m : ℕ) → m ≡ length (resolved A (tags_of s)) → k₂ ≡ sets z 0 (resolved A (tags_of s)) → m ≤ length k₂ → Section (tags_of s) (take m k₂)
    scratch z k₂ m a b c =
        let e = each-variant (tags_of s) v in
        rw (front-in z k₂ (resolved A (tags_of s)) m a b c ∙ resolved-led (tags_of s) e) (section (tags_of s) e)

    pub canonical-fits : 5 * length (led (canonical_variants T (tags_of s))) ≤ 9 * length s
    canonical-fits = omega (arith, canonical-size (tags_of s) (each-variant (tags_of s) v), section-size s 0 l)

  pub no-variants : (s : List ℕ) → length s ≡ 0 → led (canonical_variants T (tags_of s)) ≡ []
  unfolding led
  no-variants s e = ap (λ (ts : List Tag). led (canonical_variants T ts)) (tags-end s 0 (omega arith)) ∙ ap led canonical-none
