-- A row in canonical case: language and variants in small letters, a script with a capital in front, a region in capitals.
-- Assumes nothing.
use Rattle.std.specs.Prelude.{Bool, false, cond, List, [], ◌∷◌, ℕ, ◌-◌, eqb, ltb, length, take, Option, Some, None}
use Rattle.std.proofs.Math.Option.{none}
use Rattle.standard.specs.Grammar.{lower_byte}
use Rattle.standard.specs.Table.{rows, rows_fault, shape_of, is_none}
use Rattle.byte_string.specs.Strings.{end_of}
use Rattle.subtag.specs.Bytes.{cased_byte}
use Rattle.row_shapes.specs.declared.Table.{Table}
use Rattle.row_shapes.specs.declared.Table.TheVariants.{Aliases, Likely, Parents}
use Rattle.row_shapes.specs.declared.aliases.AliasKind.{AliasKind}
use Rattle.row_shapes.specs.declared.aliases.AliasKind.TheVariants.{Language, Script, Region, Variant}
use Rattle.row_shapes.specs.Rows.{kind_named, kind_is}
use Rattle.tsv.specs.Fields.{field}

-- the bytes of a text
abbrev Bytes : Type 0
Bytes = List ℕ

-- how many bytes of a field's first subtag are capitals: that of a script alias is a script, that of a region alias a region
abbrev pub first_in : Option AliasKind → ℕ
first_in None = 0
first_in (Some Language) = 0
first_in (Some Script) = 1
first_in (Some Region) = 2
first_in (Some Variant) = 0

-- the same in a row
unfoldable pub first_of : Table → Bytes → ℕ
first_of Aliases row = first_in (kind_named (take (end_of 9 row 0) row))
first_of Likely row = 0
first_of Parents row = 0

-- of a subtag behind a `-`: a region of two bytes is all capitals, a script of four begins with one
unfoldable pub by_length : ℕ → ℕ
by_length n = cond (eqb n 2) 2 (cond (eqb n 4) 1 0)

-- the same of the subtag at the front, which goes to the next `-` or tab
unfoldable pub capitals : Bytes → ℕ
capitals x = cond (ltb (end_of 45 x 0) (end_of 9 x 0)) (by_length (end_of 45 x 0)) (by_length (end_of 9 x 0))

-- how many capitals are to come after a byte, before the rest
unfoldable pub next_count : ℕ → ℕ → ℕ → Bytes → ℕ
next_count first n b x = cond (eqb b 45) (capitals x) (cond (eqb b 9) first (n - 1))

-- what is left of a row in canonical case, where n capitals are to come
unfoldable pub recased : ℕ → ℕ → Bytes → Bytes
recased first n [] = []
recased first n (b ∷ x) = cased_byte 0 n (lower_byte b) ∷ recased first (next_count first n b x) x

-- whether a row has the right shape in canonical case
unfoldable pub passes : Table → Bytes → Bool
passes t row = is_none (rows_fault (shape_of (kind_is t)) none 0 (rows (field (recased (first_of t row) 0 row) 10)))

-- the same of a row of at most 80 bytes, as every row of right shape is
unfoldable pub wrong_case : Table → Bytes → Bool
wrong_case t row = cond (ltb 80 (length row)) false (passes t row)
