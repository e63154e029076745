-- What is wrong with a row that the check of the tables refuses with 12 or 13. Assumes nothing.
use Rattle.std.specs.Prelude.{Bool, true, false, cond, not, ◌||◌, List, [], ◌∷◌, ℕ, zero, suc, ◌+◌, ◌-◌, eqb, leb, ltb, length, take, drop, get_or, Option, Some, None}
use Rattle.standard.specs.Tag.{same}
use Rattle.standard.specs.Grammar.{small, capital, digit, every}
use Rattle.byte_string.specs.Strings.{end_of}
use Rattle.row_shapes.specs.declared.Table.{Table}
use Rattle.row_shapes.specs.declared.Table.TheVariants.{Aliases, Likely, Parents}
use Rattle.row_shapes.specs.declared.aliases.AliasKind.{AliasKind}
use Rattle.row_shapes.specs.Rows.{kind_named, key_end}
use Rattle.table_report.specs.Cases.{wrong_case}
use Rattle.table_report.specs.declared.Wrong.{Wrong}
use Rattle.table_report.specs.declared.Wrong.TheVariants.{NoEnd, Empty, Return, NoTab, FewTabs, ManyTabs, Byte, Kind, Case, Field, SameKey, Order}

-- the bytes of a text
abbrev pub Bytes : Type 0
Bytes = List ℕ

-- the one or the other
abbrev pub pick : Bool → Wrong → Wrong → Wrong
pick true a b = a
pick false a b = b

-- the row at the front of the rest of a table: up to its 0A, or to the end
unfoldable pub row_in : Bytes → Bytes
row_in rest = take (end_of 10 rest 0) rest

-- 1 where two bytes are the same
unfoldable pub hit_of : ℕ → ℕ → ℕ
hit_of a b = cond (eqb a b) 1 0

-- how often a byte stands in a text
unfoldable pub count_of : ℕ → Bytes → ℕ
count_of b [] = 0
count_of b (x ∷ s) = hit_of x b + count_of b s

-- a letter, a digit, `-` or a tab
unfoldable pub fits : ℕ → Bool
fits b = small b || (capital b || (digit b || (eqb b 45 || eqb b 9)))

-- the tabs of a row: kind, key and value, or key and value
abbrev pub tabs_of : Table → ℕ
tabs_of Aliases = 2
tabs_of Likely = 1
tabs_of Parents = 1

-- whether it is no kind of alias
abbrev pub is_unknown : Option AliasKind → Bool
is_unknown None = true
is_unknown (Some k) = false

-- whether a row is an alias of no kind
unfoldable pub unknown_kind : Table → Bytes → Bool
unknown_kind Aliases row = is_unknown (kind_named (take (end_of 9 row 0) row))
unknown_kind Likely row = false
unknown_kind Parents row = false

-- the first that is wrong with the bytes and fields of a row that has its tabs
unfoldable pub field_fault : Table → Bytes → Wrong
field_fault t row = pick (not (every fits row)) Byte (pick (unknown_kind t row) Kind (pick (wrong_case t row) Case Field))

-- the first that is wrong with a row of wrong shape that has its 0A
unfoldable pub row_fault : Table → Bytes → Wrong
row_fault t row =
    pick (eqb (length row) 0) Empty
    (pick (eqb (get_or row (length row - 1) 0) 13) Return
    (pick (eqb (count_of 9 row) 0) NoTab
    (pick (ltb (count_of 9 row) (tabs_of t)) FewTabs
    (pick (ltb (tabs_of t) (count_of 9 row)) ManyTabs
    (field_fault t row)))))

-- the same of the row at the front of the rest of a table, of which the last row can lack its 0A
unfoldable pub shape_fault : Table → Bytes → Wrong
shape_fault t rest = pick (leb (length rest) (end_of 10 rest 0)) NoEnd (row_fault t (row_in rest))

-- where the line starts that goes on at a place: behind the last 0A before it
unfoldable pub line_start : Bytes → ℕ → ℕ
line_start x zero = zero
line_start x (suc p) = cond (eqb (get_or x p 0) 10) (suc p) (line_start x p)

-- the row before the one that starts at a place
unfoldable pub row_before : Bytes → ℕ → Bytes
row_before x p = take (p - 1 - line_start x (p - 1)) (drop (line_start x (p - 1)) x)

-- the key of a row; in aliases with its kind
unfoldable pub key_of : Table → Bytes → Bytes
key_of t row = take (key_end t row) row

-- what is wrong with the order of the row that starts at a place: its key stands in the row before too, or not
unfoldable pub order_fault : Table → Bytes → ℕ → Wrong
order_fault t x p = pick (same (key_of t (row_before x p)) (key_of t (row_in (drop p x)))) SameKey Order
