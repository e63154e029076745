-- 02, T-10: where language, script, region and variants stand in the input, and what cutting the input there gives;
-- proofs/Places.antt proves it for all bytes. Assumes nothing.
use Rattle.std.specs.Prelude.{◌≡◌, true, false, ◌⊎◌, List, [], ◌∷◌, ◌++◌, map, ℕ, zero, suc, ◌+◌, ◌≤◌, length, take, drop}
use Rattle.standard.specs.Tag.{Tag, same, All}
use Rattle.standard.specs.Grammar.{Kind, a_script, a_region, kind_of, is_language, is_variant}
use Rattle.standard.specs.Identifier.{Three, und}
use Rattle.standard.specs.Reading.{root, of_kind}
use Rattle.standard.specs.Table.{lower}

-- 02, T-10: where a part began in the input and how long it was.
pub record Span : Type 0 where
  pub start : ℕ
  pub len : ℕ

-- so long, from there on
abbrev pub span : ℕ → ℕ → Span
span s n = record { start = s; len = n }

-- 02, T-10: a part that was never written has length 0 at place 0
abbrev pub nowhere : Span
nowhere = span 0 0

-- where subtags stand one after the other from a place on, with one separator between them
unfoldable pub spans_from : ℕ → List Tag → List Span
spans_from at [] = []
spans_from at (t ∷ ts) = span at (length t) ∷ spans_from (at + suc (length t)) ts

-- where the first of a kind stands among them
unfoldable pub span_of : Kind → ℕ → List Tag → Span
span_of k at [] = nowhere
span_of k at (t ∷ ts) = elim (of_kind k (kind_of t)) [ true ↦ span at (length t) | false ↦ span_of k (at + suc (length t)) ts ]

-- where the variants stand among them, in the order typed
unfoldable pub variant_spans : ℕ → List Tag → List Span
variant_spans at [] = []
variant_spans at (t ∷ ts) = elim (is_variant t) [ true ↦ span at (length t) ∷ variant_spans (at + suc (length t)) ts | false ↦ variant_spans (at + suc (length t)) ts ]

-- 02, T-10: for language, script, region and each variant.
pub record Places : Type 0 where
  pub language : Span
  pub script : Span
  pub region : Span
  pub variants : List Span

-- nothing was written; so of a refusal
abbrev pub unwritten : Places
unwritten = record { language = nowhere; script = nowhere; region = nowhere; variants = [] }

-- 02, T-10: `root` is a language of length 4; a script that comes first leaves the language unwritten. Of the subtags before
-- the first singleton.
unfoldable pub places_of : List Tag → Places
places_of [] = unwritten
places_of (t ∷ ts) =
    let first = span 0 (length t) in
    let at = suc (length t) in
    elim (is_language t) [
      | true ↦ record { language = first; script = span_of a_script at ts; region = span_of a_region at ts; variants = variant_spans at ts }
      | false ↦ elim (same t root) [
        | true ↦ record { language = first; script = nowhere; region = nowhere; variants = [] }
        | false ↦ record { language = nowhere; script = first; region = span_of a_region at ts; variants = variant_spans at ts }
      ]
    ]

-- 02, T-10: cutting the input at a place
unfoldable pub cut_out : List ℕ → Span → List ℕ
cut_out x s = take s.len (drop s.start x)

-- the same in lower case
abbrev pub cut_lower : List ℕ → Span → Tag
cut_lower x s = lower (cut_out x s)

-- 02, T-10: cutting gives each written subtag back, up to letter case (`root` for its `und`); of an input that was read as
-- these three and these variants.
pub record GivenBack (cut : Span → Tag) (c : Three) (variants : List Tag) (ps : Places) : Type 0 where
  -- `und` is also the language of `root`, and of an input in which none was written; that a written `und` has its place is
  -- said by `all-written`
  pub a-language : (cut ps.language ≡ c.language) ⊎ ((c.language ≡ und) × ((cut ps.language ≡ root) ⊎ (ps.language ≡ nowhere)))
  pub a-script : cut ps.script ≡ lower c.script
  pub a-region : cut ps.region ≡ lower c.region
  pub all-variants : map cut ps.variants ≡ variants
  -- a part that was never written has length 0 at place 0
  pub no-language : ps.language.len ≡ 0 → ps.language ≡ nowhere
  pub no-script : c.script ≡ [] → ps.script ≡ nowhere
  pub no-region : c.region ≡ [] → ps.region ≡ nowhere

-- a place, if something was written there
unfoldable pub shown : Span → List Span
shown s = elim s.len [ zero ↦ [] | suc n ↦ s ∷ [] ]

-- all that were written: language, script, region, variants
unfoldable pub written : Places → List Span
written ps = shown ps.language ++ (shown ps.script ++ (shown ps.region ++ ps.variants))

-- 02, T-10: pieces don't overlap; each begins behind the one before it and its separator, from `at` on
unfoldable pub Apart : ℕ → List Span → Type 0
Apart at [] = Unit {0}
Apart at (s ∷ ss) = (at ≤ s.start) × Apart (s.start + suc s.len) ss

-- each ends within n bytes
unfoldable pub Inside : ℕ → List Span → Type 0
Inside n ss = All (λ (s : Span). s.start + s.len ≤ n) ss
