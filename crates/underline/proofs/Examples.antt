-- Marks below parts of an identifier, computed. Assumes nothing.
use mathlib.Core.Path.{◌≡◌, refl}
use mathlib.Core.List.{[], ◌∷◌, ◌++◌}
use Rattle.standard.specs.Tag.{text}
use Rattle.standard.specs.Places.{span}
use Rattle.tsv.specs.Fields.{field}
use Rattle.underline.specs.Underline.{span_marks, marks_text, lines_text}

-- below the two variants of `sl_Latn-it-ROZAJ-1994`
pub two-variants : marks_text 0 (span 11 5 ∷ span 17 4 ∷ []) ≡ text "           ^^^^^ ^^^^"
unfolding marks_text span_marks
two-variants = refl

-- the identifier and the marks below its region
pub a-region : lines_text (text "sl_Latn-it-ROZAJ-1994") (span 8 2 ∷ []) ≡ field (text "sl_Latn-it-ROZAJ-1994") 10 ++ field (text "        ^^") 10
unfolding lines_text marks_text span_marks
a-region = refl
