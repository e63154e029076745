-- Worked examples of where the parts stand, computed. Assumes nothing.
use mathlib.Core.Path.{◌≡◌, refl}
use mathlib.Core.List.{List, [], ◌∷◌, map}
use Prim.Native.String.{String}
use Rattle.standard.specs.Tag.{text, order, same, onto}
use Rattle.standard.specs.Grammar.{small, capital, digit, separator, lower_byte, every, size_of, starts_with_digit, one_size, language_size, is_language, kind, kind_of, variant_kind, is_variant, is_singleton}
use Rattle.standard.specs.Reading.{split, up_to, of_kind}
use Rattle.standard.specs.Places.{Span, span, nowhere, span_of, variant_spans, Places, places_of}

-- where language, script, region and variants were written
pub data Case : Type 0 where
  parts-at : String → Span → Span → Span → List Span → Case

unfoldable pub want : Case → Places
want (parts-at x l s r v) = record { language = l; script = s; region = r; variants = v }

unfoldable pub got : Case → Places
got (parts-at x l s r v) = places_of (up_to is_singleton (split (text x)))

unfoldable pub cases : List Case
cases =
    parts-at "root-u-ca-x-a" (span 0 4) nowhere nowhere [] ∷
    parts-at "latn_us-1994-t-fr-fonipa" nowhere (span 0 4) (span 5 2) (span 8 4 ∷ []) ∷
    parts-at "IW" (span 0 2) (span 0 0) (span 0 0) [] ∷
    parts-at "und-419" (span 0 3) nowhere (span 4 3) [] ∷
    parts-at "ROOT" (span 0 4) nowhere nowhere [] ∷
    parts-at "Hant" (span 0 0) (span 0 4) (span 0 0) [] ∷
    parts-at "fil-scouse_FONIPA" (span 0 3) nowhere nowhere (span 4 6 ∷ span 11 6 ∷ []) ∷
    parts-at "sl_Latn-it-ROZAJ-1994-x-de" (span 0 2) (span 3 4) (span 8 2) (span 11 5 ∷ span 17 4 ∷ []) ∷
    []

pub places-hold : map got cases ≡ map want cases
unfolding want got cases span_of variant_spans places_of order same onto small capital digit separator lower_byte every size_of starts_with_digit one_size language_size is_language kind kind_of variant_kind is_variant is_singleton split up_to of_kind
places-hold = refl
