-- An identifier again with one of its parts underlined. Assumes nothing.
use Rattle.std.specs.Prelude.{List, [], ◌∷◌, ◌++◌, ℕ, ◌+◌, ◌-◌, replicate, Option, Some, None}
use Rattle.standard.specs.Places.{Span, Places, shown, Apart, Inside}
use Rattle.tsv.specs.Fields.{Bytes, field}
use Rattle.underline.specs.declared.Part.{Part}
use Rattle.underline.specs.declared.Part.TheVariants.{Language, Script, Region, Variants}

-- where a part was written
unfoldable pub part_spans : Option Part → Places → List Span
part_spans None ps = []
part_spans (Some Language) ps = shown ps.language
part_spans (Some Script) ps = shown ps.script
part_spans (Some Region) ps = shown ps.region
part_spans (Some Variants) ps = ps.variants

-- spaces from a column to a span, and `^` below it
unfoldable pub span_marks : ℕ → Span → Bytes
span_marks column s = replicate (s.start - column) 32 ++ replicate s.len 94

-- the same of spans one behind the other, each from the end of the one before it on
unfoldable pub marks_text : ℕ → List Span → Bytes
marks_text column [] = []
marks_text column (s ∷ ss) = span_marks column s ++ marks_text (s.start + s.len) ss

-- an identifier and a line of marks below it; nothing where there is nothing to mark
unfoldable pub lines_text : Bytes → List Span → Bytes
lines_text x [] = []
lines_text x (s ∷ ss) = field x 10 ++ field (marks_text 0 (s ∷ ss)) 10

-- an identifier with a part underlined; nothing where the part was not written
unfoldable pub underlined_text : Option Part → Bytes → Places → Bytes
underlined_text part x ps = lines_text x (part_spans part ps)

-- spans that can be marked in one line of n columns
pub record Drawable (n : ℕ) (ss : List Span) : Type 0 where
  pub apart : Apart 0 ss
  pub inside : Inside n ss
