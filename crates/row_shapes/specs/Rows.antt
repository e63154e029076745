-- The shape of a row, by its fields, as the code tests it. Each definition equals the standard's (proofs/).
-- Assumes nothing.
use Rattle.std.specs.Prelude.{◌≡◌, Bool, true, false, cond, not, ◌&&◌, List, ◌∷◌, ◌++◌, ℕ, ◌+◌, ◌<◌, length, take, drop, leb, ⊤, Option, Some, None, Result, Ok, Err}
use Rattle.standard.specs.Tag.{Tag, text, same, present}
use Rattle.standard.specs.Grammar.{is_language}
use Rattle.standard.specs.Identifier.{und, zzzz, zz, complete, without_unknown, same_three}
use Rattle.standard.specs.Table.{pieces, parse, is_three, language_is_und, is_variant_tag, alias_shape, TableKind, aliases, likely, parents, shape_of}
use Rattle.row_shapes.specs.declared.pairs.Pair.{Pair}
use Rattle.row_shapes.specs.declared.pairs.Line.{Line}
use Rattle.row_shapes.specs.declared.aliases.AliasKind.{AliasKind}
use Rattle.row_shapes.specs.declared.aliases.AliasKind.TheVariants.{Language, Script, Region, Variant}
use Rattle.row_shapes.specs.declared.Table.{Table}
use Rattle.row_shapes.specs.declared.Table.TheVariants.{Aliases, Likely, Parents}
use Rattle.row_shapes.specs.declared.RowFault.{RowFault}
use Rattle.row_shapes.specs.declared.RowFault.TheVariants.{Shape, Order}
use Rattle.row_shapes.specs.Shapes.{is_script, is_region, between, ThreeAt}
use Rattle.byte_string.specs.Strings.{end_of}
use Rattle.standard.specs.Reading.{Fault, fault}
use Rattle.std.proofs.Math.Option.{Option as Maybe, none}

-- all three, none of them und, Zzzz or ZZ
unfoldable pub is_known : List ℕ → Bool
is_known v = is_three v && (complete (parse v) && same_three (without_unknown (parse v)) (parse v))

-- the same, by its three
unfoldable pub known_parts : Tag → Tag → Tag → Bool
known_parts l s r = cond (present s) (cond (present r) (cond (same l und) false (cond (same s zzzz) false (not (same r zz)))) false) false

-- the names of the kinds
abbrev pub language_name : Tag
language_name = text "language"

abbrev pub script_name : Tag
script_name = text "script"

abbrev pub region_name : Tag
region_name = text "region"

abbrev pub variant_name : Tag
variant_name = text "variant"

-- the one kind or the other
abbrev pub pick_kind : Bool → Option AliasKind → Option AliasKind → Option AliasKind
pick_kind true a b = a
pick_kind false a b = b

-- the kind of an alias, by its name
unfoldable pub kind_named : Tag → Option AliasKind
kind_named w =
    pick_kind (same w language_name) (Some Language) (pick_kind (same w script_name) (Some Script) (pick_kind (same w region_name) (Some Region) (pick_kind (same w variant_name) (Some Variant) None)))

-- a `language` row, by key and value
unfoldable pub language_alias : Tag → Tag → Bool
language_alias key value = is_language key && not (same key und) && (is_three value && not (language_is_und (parse value)))

-- an alias row of a kind, by key and value
unfoldable pub shape_by : Option AliasKind → Tag → Tag → Bool
shape_by None key value = false
shape_by (Some Language) key value = language_alias key value
shape_by (Some Script) key value = is_script key && is_script value
shape_by (Some Region) key value = is_region key && is_region value
shape_by (Some Variant) key value = is_variant_tag key && is_variant_tag value

-- the standard's kind of a table
unfoldable pub kind_is : Table → TableKind
kind_is Aliases = aliases
kind_is Likely = likely
kind_is Parents = parents

-- where the key ends
unfoldable pub second_tab : List ℕ → ℕ → ℕ
second_tab l a = cond (leb (length l) a) a (end_of 9 l (a + 1))

-- the place where the key of a row ends
unfoldable pub key_end : Table → List ℕ → ℕ
key_end Aliases l = second_tab l (end_of 9 l 0)
key_end Likely l = end_of 9 l 0
key_end Parents l = end_of 9 l 0

-- a line is an alias row, and its key ends at tab
pub record AliasAt (l : List ℕ) (tab : ℕ) : Type 0 where
  pub is : alias_shape (pieces 9 l) ≡ true
  pub key : tab ≡ key_end Aliases l

-- whether it is one
abbrev pub AliasIs : List ℕ → Option ℕ → Type 0
AliasIs l None = alias_shape (pieces 9 l) ≡ false
AliasIs l (Some tab) = AliasAt l tab

-- two texts of language, perhaps script, perhaps region at the front of s, with a tab between them and 0A behind
pub record PairAt (s : List ℕ) (r : Pair) : Type 0 where
  pub low : r.tab < r.end
  pub high : r.end < length s
  pub key : is_three (take r.tab s) ≡ true
  pub value : ThreeAt (between s r.tab r.end) (record { language = r.language; script = r.script })
  pub text : s ≡ take r.tab s ++ (9 ∷ (between s r.tab r.end ++ (10 ∷ drop (r.end + 1) s)))

-- whether they are there
abbrev pub PairIs : List ℕ → Option Pair → Type 0
PairIs s None = (k v z : List ℕ) → s ≡ k ++ (9 ∷ (v ++ (10 ∷ z))) → is_three k ≡ true → is_three v ≡ true → ⊥
PairIs s (Some r) = PairAt s r

-- a row at the front of s, up to its 0A
pub record LineAt (table : Table) (s : List ℕ) (r : Line) : Type 0 where
  pub end : r.end ≡ end_of 10 s 0
  pub high : r.end < length s
  pub shape : shape_of (kind_is table) (pieces 9 (take r.end s)) ≡ true
  pub key : r.key ≡ key_end table (take r.end s)

-- whether there is one
abbrev pub LineIs : Table → List ℕ → Option Line → Type 0
LineIs table s None = end_of 10 s 0 < length s → shape_of (kind_is table) (pieces 9 (take (end_of 10 s 0) s)) ≡ true → ⊥
LineIs table s (Some r) = LineAt table s r

-- the standard's fault that an answer stands for
abbrev pub fault_is : Result ⊤ RowFault → Maybe Fault
fault_is (Ok done) = none
fault_is (Err (Shape at)) = fault 12 at
fault_is (Err (Order at)) = fault 13 at
