-- Where the parts of an identifier stand, as the last column of a row. Assumes nothing.
use Rattle.std.specs.Prelude.{cond, List, [], ◌∷◌, ◌++◌, ℕ, eqb}
use Rattle.standard.specs.Places.{Span, Places}
use Rattle.tsv.specs.Fields.{Bytes, decimal, field}

-- where a part begins, `+`, and how long it is; `-` for one that was not written
unfoldable pub span_text : Span → Bytes
span_text s = cond (eqb s.len 0) (45 ∷ []) (decimal s.start ++ (43 ∷ decimal s.len))

-- what stands behind a place, by how many are left with it: behind the last one the line's end, else a space
unfoldable pub mark_behind : ℕ → ℕ
mark_behind left = cond (eqb left 1) 10 32

-- parted by spaces, and behind the last the line's end
unfoldable pub spans_text : List Span → Bytes
spans_text [] = []
spans_text (s ∷ []) = field (span_text s) 10
spans_text (s ∷ t ∷ ss) = field (span_text s) 32 ++ spans_text (t ∷ ss)

-- 02, T-10: language, script, region and each variant
unfoldable pub places_text : Places → Bytes
places_text p = spans_text (p.language ∷ p.script ∷ p.region ∷ p.variants)
