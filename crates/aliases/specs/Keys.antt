-- The keys of the alias table, by kind, and whether a subtag is one.
-- Assumes nothing.
use Rattle.std.specs.Prelude.{Bool, List, ◌++◌, ℕ}
use Rattle.standard.specs.Tag.{Tag}
use Rattle.standard.specs.Table.{located, language_key, script_key, region_key, variant_key}
use Rattle.row_shapes.specs.declared.aliases.AliasKind.{AliasKind}
use Rattle.row_shapes.specs.declared.aliases.AliasKind.TheVariants.{Language, Script, Region, Variant}

-- the kind's name and a tab
unfoldable pub kind_key : AliasKind → List ℕ
kind_key Language = language_key
kind_key Script = script_key
kind_key Region = region_key
kind_key Variant = variant_key

-- there is a row of the kind with this key
unfoldable pub is_key : List ℕ → AliasKind → Tag → Bool
is_key A k t = (located A (kind_key k ++ t)).found
