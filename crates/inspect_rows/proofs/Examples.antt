-- What some numbers mean in a row, computed: reading's number, and that of minimising. Assumes nothing.
use mathlib.Core.Path.{◌≡◌, refl}
use mathlib.Core.List.{[], ◌∷◌}
use Rattle.standard.specs.Tag.{text}
use Rattle.tsv.specs.Fields.{digits_onto, decimal}
use Rattle.meaning.specs.Meaning.{refusal_of, meaning_of}
use Rattle.inspect_rows.specs.Rows.{key_text, meant_text}

pub meanings :
    meant_text 0 0 ∷ meant_text 0 8 ∷ meant_text 5 5 ∷ meant_text 15 15 ∷ meant_text 16 16 ∷ []
    ≡ text "done" ∷ text "as a key 8: no row of the likely table fits it" ∷ text "a first subtag that is no language, script or root"
    ∷ text "a subtag that can't stand there, before any extension" ∷ text "a subtag that can't stand there, in an extension" ∷ []
unfolding meant_text key_text refusal_of meaning_of decimal digits_onto
meanings = refl
