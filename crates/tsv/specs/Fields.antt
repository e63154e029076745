-- Fields of the rows that the programs print. Assumes nothing.
use Rattle.std.specs.Prelude.{cond, ◌||◌, List, [], ◌∷◌, ◌++◌, ℕ, zero, suc, ◌+◌, ◌/◌, ◌%◌, eqb, take}
use Rattle.tsv.specs.declared.Text.{Text}
use Rattle.standard.specs.Tag.{text}

abbrev pub Bytes : Type 0
Bytes = List ℕ

-- the last digits of n, at most so many and with no zeros in front, before the digits x
unfoldable pub digits_onto : ℕ → ℕ → Bytes → Bytes
digits_onto zero n x = x
digits_onto (suc k) n x = cond (eqb (n / 10) 0) ((48 + n % 10) ∷ x) (digits_onto k (n / 10) ((48 + n % 10) ∷ x))

-- a number in decimal: 20 digits hold every number of 64 bits
unfoldable pub decimal : ℕ → Bytes
decimal n = digits_onto 20 n []

-- a field and what ends it: a tab, or at the last one 0A
unfoldable pub field : Bytes → ℕ → Bytes
field t mark = t ++ (mark ∷ [])

-- 01, A set of examples: after 2 or 3, asked is `-`.
unfoldable pub asked_of : ℕ → Bytes → Bytes
asked_of n x = cond (eqb n 2 || eqb n 3) (45 ∷ []) x

-- 01, A set of examples: a bad table gives the one line `table`, number, table, place.
unfoldable pub table_text : ℕ → ℕ → ℕ → Bytes
table_text number place table =
    field (text "table") 9 ++ (field (decimal number) 9 ++ (field (decimal table) 9 ++ field (decimal place) 10))

unfoldable pub text_is : Text → Bytes
text_is t = take t.len t.bytes
