-- The places that reading gives back, as the standard's. Assumes nothing.
use Rattle.std.specs.Prelude.{◌≡◌, true, false, List, [], ◌∷◌, map, ℕ, zero, suc, ◌+◌, ◌-◌, ◌≤◌, eqb, ltb, length, take, drop}
use Rattle.standard.specs.Tag.{head_tag}
use Rattle.standard.specs.Reading.{split}
use Rattle.standard.specs.Places as standard
use Rattle.standard.specs.Places.{span, nowhere}
use Rattle.reader.specs.declared.spans.Span.{Span}
use Rattle.reader.specs.declared.spans.Places.{Places}

-- a place, as the standard has it
unfoldable pub span_is : Span → standard.Span
span_is s = span s.start s.len

-- the subtag of a part that goes from `from` to `to`: behind its separator, unless it is the first
unfoldable pub part_span : ℕ → ℕ → standard.Span
part_span from to = elim (ltb from to) [ true ↦ elim (eqb from 0) [ true ↦ span 0 to | false ↦ span (from + 1) (to - (from + 1)) ] | false ↦ nowhere ]

-- so many subtags, from the place `at` on
unfoldable pub spans_at : ℕ → ℕ → List ℕ → List standard.Span
spans_at zero at x = []
spans_at (suc n) at x =
    let len = length (head_tag (split (drop at x))) in
    span at len ∷ spans_at n (at + suc len) x

-- each of them begins in the input
unfoldable pub Begin : ℕ → ℕ → List ℕ → Type 0
Begin zero at x = Unit {0}
Begin (suc n) at x = (at ≤ length x) × Begin n (at + suc (length (head_tag (split (drop at x))))) x

-- an array of n places that holds these first: every entry behind them is length 0 at place 0
unfoldable pub in_room : ℕ → List standard.Span → List standard.Span
in_room zero ss = []
in_room (suc n) [] = nowhere ∷ in_room n []
in_room (suc n) (s ∷ ss) = s ∷ in_room n ss

-- the array has 50 entries, as at most 50 variants fit 255 bytes (decision 68)
abbrev pub padded : List standard.Span → List standard.Span
padded ss = in_room 50 ss

-- the entries up to a count
unfoldable pub up_to_count : ℕ → Places → List standard.Span
up_to_count n p = take n (map span_is p.variants)

-- the places of a report with so many variants
unfoldable pub places_is : ℕ → Places → standard.Places
places_is n p = record { language = span_is p.language; script = span_is p.script; region = span_is p.region; variants = up_to_count n p }

-- entries behind the count, which is at most 50, are 0 (decision 68)
pub record Counted (n : ℕ) (p : Places) : Type 0 where
  pub few : n ≤ 50
  pub behind : map span_is p.variants ≡ padded (up_to_count n p)
