-- The names of the parts. Assumes nothing.
use Rattle.std.specs.Prelude.{cond, Option, Some, None}
use Rattle.standard.specs.Tag.{text, same}
use Rattle.tsv.specs.Fields.{Bytes}
use Rattle.underline.specs.declared.Part.TheVariants.{Language, Script, Region, Variants}
use Rattle.underline.specs.declared.Part.{Part}

-- the part that can be asked for by this name
unfoldable pub part_named : Bytes → Option Part
part_named x =
    cond (same x (text "language")) (Some Language)
    (cond (same x (text "script")) (Some Script) (cond (same x (text "region")) (Some Region) (cond (same x (text "variants")) (Some Variants) None)))
