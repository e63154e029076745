-- What a subtag can be, by what the code keeps of it. Each definition equals the standard's for every subtag
-- (proofs/Shapes.antt).
-- Assumes nothing.
use Rattle.std.specs.Prelude.{Bool, cond, ◌&&◌, ℕ, eqb, leb}
use Rattle.standard.specs.Grammar.{small, digit, Size, size0, size1, size2, size3, size4, size5to8, size_over8, language_size, kind, Kind as StandardKind, a_script, a_region, a_variant, a_none}
use Rattle.subtag.specs.declared.Subtag.{Subtag}
use Rattle.subtag.specs.declared.Kind.{Kind}
use Rattle.subtag.specs.declared.Kind.TheVariants.{Script, Region, Variant, Neither}

-- the size, from the length
unfoldable pub size_from : ℕ → Size
size_from n =
    cond (eqb n 0) size0 (cond (eqb n 1) size1 (cond (eqb n 2) size2 (cond (eqb n 3) size3 (cond (eqb n 4) size4 (cond (leb n 8) size5to8 size_over8)))))

-- a language
unfoldable pub language_from : Subtag → Bool
language_from t = language_size (size_from t.len) && eqb t.letters t.len

-- script, region or variant
unfoldable pub kind_from : Subtag → StandardKind
kind_from t = kind (size_from t.len) (eqb t.letters t.len) (eqb t.digits t.len) (digit t.first)

-- the key of a keyword
unfoldable pub keyword_from : Subtag → Bool
keyword_from t = eqb t.len 2 && eqb t.letters (cond (small t.first) 2 1)

-- the key of a field
unfoldable pub field_from : Subtag → Bool
field_from t = eqb t.len 2 && (small t.first && eqb t.digits 1)

-- the standard's kind that an answer stands for
abbrev pub kind_is : Kind → StandardKind
kind_is Script = a_script
kind_is Region = a_region
kind_is Variant = a_variant
kind_is Neither = a_none
