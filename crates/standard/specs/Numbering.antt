-- 02, T-03 beside document 01, where 5 stands for every subtag that can't stand there: `Reading` over `all_five` has its
-- numbers. proofs/Numbering.antt proves for all bytes that over `by_part` 5 alone differs, and how. Assumes nothing.
use Rattle.std.specs.Prelude.{true, false, List, ℕ, zero, suc, ltb, eqb}
use Rattle.std.proofs.Math.Option.{Option, none, some}
use Rattle.standard.specs.Tag.{Tag}
use Rattle.standard.specs.Grammar.{is_singleton}
use Rattle.standard.specs.Identifier.{parts}
use Rattle.standard.specs.Reading.{Fault, MisplacedNumbers, up_to}

-- document 01's own number of a subtag that can't stand there, wherever it is
abbrev pub all_five : MisplacedNumbers
all_five = record { first = 5; later = 5; extension = 5 }

-- the place of the first singleton; behind the end where there is none
unfoldable pub first_singleton : List Tag → ℕ
first_singleton ts = parts (up_to is_singleton ts)

-- 02, T-03: 5 only for the first subtag, 15 for a later one before any singleton, 16 for one after a singleton; by its place,
-- with the first singleton at s
unfoldable pub number_at : ℕ → ℕ → ℕ
number_at s zero = 5
number_at s (suc p) = elim (ltb s (suc p)) [ true ↦ 16 | false ↦ 15 ]

-- 02, T-03: the place stays the same; so does every number but 5
unfoldable pub renumber : ℕ → Fault → Fault
renumber s f = elim (eqb f.number 5) [ true ↦ record { number = number_at s f.place; place = f.place } | false ↦ f ]

-- 02, T-03: no identifier that was refused is accepted now, or the reverse
unfoldable pub renumbered : ℕ → Option Fault → Option Fault
renumbered s none = none
renumbered s (some f) = some (renumber s f)
