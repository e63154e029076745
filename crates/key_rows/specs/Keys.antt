-- The rows of the program `keys`, and what a call gives back for a piece of input lines. Assumes nothing.
use Rattle.std.specs.Prelude.{cond, Result, Ok, Err, [], ◌∷◌, ◌++◌, ℕ, eqb, length, drop}
use Rattle.std.proofs.Math.Option.{Option, none, some}
use Rattle.standard.specs.Delivery.{Bytes, Made, result, refusal}
use Rattle.standard.specs.Calls.{minimise}
use Rattle.standard.specs.Table.{TableFault, tables_of, check, to_maximise}
use Rattle.standard.specs.Make.{make}
use Rattle.tsv.specs.Fields.{decimal, field, asked_of}
use Rattle.lines.specs.Pieces.{piece_text, piece_used}
use Rattle.lines.specs.declared.rows.Written.{Written}
use Rattle.table_check.specs.declared.Fault.{Fault}
use Rattle.table_check.specs.Verdicts.{number_of as fault_number, table_of as fault_table}

-- the number that an operation gives where its result has room
unfoldable pub number_of : Made → ℕ
number_of (result r s) = 0
number_of (refusal n p t) = n

-- 01, A set of examples: kept is the minimised form; `-` where there is none
unfoldable pub kept_of : Made → Bytes
kept_of (result r s) = r
kept_of (refusal n p t) = 45 ∷ []

-- asked, number, kept, parted by tabs
unfoldable pub answer_text : ℕ → Bytes → Bytes → Bytes
answer_text number x kept = field (asked_of number x) 9 ++ (field (decimal number) 9 ++ field kept 10)

-- what minimising makes of the line x, over aliases A and likely L; and the row of the line
unfoldable pub made_key : Bytes → Bytes → Bytes → Made
made_key A L x = make (tables_of A L []) minimise x

unfoldable pub key_row : Bytes → Bytes → Bytes → Bytes
key_row A L x = answer_text (number_of (made_key A L x)) x (kept_of (made_key A L x))

-- what code prints as kept: the form where the number is 0
unfoldable pub kept_text : ℕ → Bytes → Bytes
kept_text number form = cond (eqb number 0) form (45 ∷ [])

-- What a call gives back: number, place and table of the tables' refusal, how many bytes of the piece were answered, the
-- length of their rows, and all of the lent output afterwards.
pub record Answer : Type 0 where
  pub number : ℕ
  pub place : ℕ
  pub table : ℕ
  pub used : ℕ
  pub len : ℕ
  pub output : Bytes

-- the rows at the front of the output; the bytes behind them stay
unfoldable pub rows_given : ℕ → Bytes → Bytes → Answer
rows_given used text out = record { number = 0; place = 0; table = 0; used = used; len = length text; output = text ++ drop (length text) out }

-- 01, A set of examples: a bad table gives its number, place and table, and no rows.
unfoldable pub after_tables : Option TableFault → Answer → Bytes → Answer
after_tables none a out = a
after_tables (some f) a out = record { number = f.fault.number; place = f.fault.place; table = f.table; used = 0; len = 0; output = out }

-- Rows are written as long as 540 bytes are free before each.
unfoldable pub keys_given : Bytes → Bytes → Bytes → Bytes → Answer
keys_given A L x out =
    after_tables (check to_maximise A L []) (rows_given (piece_used (key_row A L) 540 (length out) x) (piece_text (key_row A L) 540 (length out) x) out) out

-- an answer of the code, with the output afterwards
unfoldable pub keyed_is : Result Written Fault → Bytes → Answer
keyed_is (Ok w) out = record { number = 0; place = 0; table = 0; used = w.used; len = w.len; output = out }
keyed_is (Err f) out = record { number = fault_number f; place = f.place; table = fault_table f; used = 0; len = 0; output = out }
