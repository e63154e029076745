-- 14: rows that do not clash, by the keys of the aliases. Each definition equals the standard's over rows that have their
-- shape (proofs/).
-- Assumes nothing.
use Rattle.std.specs.Prelude.{Bool, true, false, not, ◌&&◌, List, [], ◌∷◌, ℕ, Option, Some, None}
use Rattle.standard.specs.Tag.{Tag, head_tag}
use Rattle.standard.specs.Identifier.{Three}
use Rattle.standard.specs.Reading.{Fault, fault}
use Rattle.standard.specs.Table.{parse, is_three, TableKind, aliases, likely, parents}
use Rattle.row_shapes.specs.declared.aliases.AliasKind.{AliasKind}
use Rattle.row_shapes.specs.declared.aliases.AliasKind.TheVariants.{Language, Script, Region, Variant}
use Rattle.row_shapes.specs.Rows.{kind_named}
use Rattle.aliases.specs.Keys.{is_key}
use Rattle.parents.specs.Walk.{reaches_from}
use Rattle.std.proofs.Math.Option.{Option as Maybe, none}

-- no language, script or region that aliases replace
unfoldable pub free_three : List ℕ → Three → Bool
free_three A t = not (is_key A Language t.language) && (not (is_key A Script t.script) && not (is_key A Region t.region))

-- the subtag of an alias value of the row's own kind
unfoldable pub own_tag : AliasKind → Tag → Tag
own_tag Language v = (parse v).language
own_tag Script v = v
own_tag Region v = v
own_tag Variant v = v

-- it is no key of the kind; a name of no kind has no keys
unfoldable pub own_free : List ℕ → Option AliasKind → Tag → Bool
own_free A None v = true
own_free A (Some k) v = not (is_key A k (own_tag k v))

-- an alias row whose value's own subtag is no key of its kind
unfoldable pub free_alias : List ℕ → List Tag → Bool
free_alias A [] = false
free_alias A (a ∷ []) = false
free_alias A (a ∷ b ∷ []) = false
free_alias A (kind ∷ key ∷ value ∷ []) = own_free A (kind_named kind) value
free_alias A (a ∷ b ∷ c ∷ d ∷ ts) = false

-- two fields, each language, perhaps script, perhaps region
unfoldable pub is_threes : List Tag → Bool
is_threes [] = false
is_threes (a ∷ []) = false
is_threes (key ∷ value ∷ []) = is_three key && is_three value
is_threes (a ∷ b ∷ c ∷ ts) = false

-- the second field
unfoldable pub second_of : List Tag → Tag
second_of [] = []
second_of (a ∷ []) = []
second_of (a ∷ b ∷ ts) = b

-- a parent row: its value, and the walk from its key
unfoldable pub free_parent : List ℕ → List ℕ → List Tag → Bool
free_parent A P ts = free_three A (parse (second_of ts)) && reaches_from P 8 (head_tag ts)

-- a row of the table t that does not clash
unfoldable pub free_row : TableKind → List ℕ → List ℕ → List Tag → Bool
free_row aliases A t ts = free_alias A ts
free_row likely A t ts = free_three A (parse (second_of ts))
free_row parents A t ts = free_parent A t ts

-- the standard's fault that an answer stands for
abbrev pub clash_is : Option ℕ → Maybe Fault
clash_is None = none
clash_is (Some place) = fault 14 place
