-- The rows of the program `refused`, and what a call gives back for a piece of usage lines. Assumes nothing.
use Rattle.std.specs.Prelude.{ℕ, List, [], ◌∷◌, ◌++◌, length, take, drop, Result, Ok, Err}
use Rattle.std.proofs.Math.Option.{Option, none, some}
use Rattle.standard.specs.Tag.{text}
use Rattle.standard.specs.Delivery.{Bytes}
use Rattle.standard.specs.Table.{TableFault, tables_of, check, to_maximise}
use Rattle.tsv.specs.Fields.{decimal, field}
use Rattle.tsv.specs.Shown.{shown}
use Rattle.meaning.specs.Meaning.{meaning_of}
use Rattle.bill_rules.specs.Bill.{before_tab, after_tab}
use Rattle.bill_rules.specs.Refusals.{MemberFault, no_tab, no_member, no_number, zero_first, out_of_range, LineFault, of_member, of_identifier, line_fault, Numbered, refused_lines}
use Rattle.refused_rows.specs.Numbered.{piece_text, piece_used, piece_next}
use Rattle.table_check.specs.declared.Fault.{Fault}
use Rattle.table_check.specs.Verdicts.{number_of, table_of}
use Rattle.refused_rows.specs.declared.Rowed.{Rowed}

-- the words for what is wrong before the identifier
unfoldable pub member_words : MemberFault → Bytes
member_words no_tab = text "no tab between member and identifier"
member_words no_member = text "no member number"
member_words no_number = text "the member is no number"
member_words zero_first = text "the member begins with 0"
member_words out_of_range = text "the member is not 1 to 64"

-- the number of a fault; `-` where it is the member's
unfoldable pub number_text : LineFault → Bytes
number_text (of_member f) = text "-"
number_text (of_identifier n p) = decimal n

-- its place in the line; 0 where it is the member's
unfoldable pub place_of : LineFault → ℕ
place_of (of_member f) = 0
place_of (of_identifier n p) = p

-- its meaning
unfoldable pub words_of : LineFault → Bytes
words_of (of_member f) = member_words f
words_of (of_identifier n p) = meaning_of n

-- the bytes of an identifier; none where there is no tab
unfoldable pub identifier_bytes : Option Bytes → Bytes
identifier_bytes none = []
identifier_bytes (some x) = x

-- number, place, identifier and meaning, parted by tabs
unfoldable pub fault_text : Bytes → LineFault → Bytes
fault_text l f =
    field (number_text f) 9 ++ (field (decimal (place_of f)) 9 ++ (field (shown 255 (identifier_bytes (after_tab l))) 9 ++ field (words_of f) 10))

-- a line's number and its member
unfoldable pub head_text : ℕ → Bytes → Bytes
head_text n l = field (decimal n) 9 ++ field (shown 255 (before_tab l)) 9

-- the row of a refused line with its number: line, member, number, place, identifier, meaning
unfoldable pub fault_row : ℕ → Bytes → LineFault → Bytes
fault_row n l f = head_text n l ++ fault_text l f

-- the row of a line, where something is wrong with it
unfoldable pub row_if : ℕ → Bytes → Option LineFault → Bytes
row_if n l none = []
row_if n l (some f) = fault_row n l f

-- over aliases A and likely L, of a line's first bytes, as the line reader keeps them
unfoldable pub kept_row : Bytes → Bytes → ℕ → Bytes → Bytes
kept_row A L n l = row_if n l (line_fault (tables_of A L []) l)

-- the row of a line, of which only the first 260 bytes are looked at
unfoldable pub line_row : Bytes → Bytes → ℕ → Bytes → Bytes
line_row A L n l = kept_row A L n (take 260 l)

-- the rows of numbered lines
unfoldable pub rows_of : Bytes → Bytes → List Numbered → Bytes
rows_of A L [] = []
rows_of A L (l ∷ ls) = line_row A L l.number l.line ++ rows_of A L ls

-- the rows of the lines of an input that the bill counts as refused
unfoldable pub refused_text : Bytes → Bytes → List Bytes → Bytes
refused_text A L ls = rows_of A L (refused_lines (tables_of A L []) ls)

-- What a call gives back: number, place and table of the tables' refusal, how many bytes of the piece were answered, the
-- number of the line behind them, the length of their rows, and all of the lent output afterwards.
pub record Answer : Type 0 where
  pub number : ℕ
  pub place : ℕ
  pub table : ℕ
  pub used : ℕ
  pub next : ℕ
  pub len : ℕ
  pub output : Bytes

-- the rows at the front of the output; the bytes behind them stay
unfoldable pub rows_given : ℕ → ℕ → Bytes → Bytes → Answer
rows_given used next rows out =
    record { number = 0; place = 0; table = 0; used = used; next = next; len = length rows; output = rows ++ drop (length rows) out }

-- a bad table gives its number, place and table, and no rows
unfoldable pub after_tables : Option TableFault → ℕ → Answer → Bytes → Answer
after_tables none first a out = a
after_tables (some f) first a out =
    record { number = f.fault.number; place = f.fault.place; table = f.table; used = 0; next = first; len = 0; output = out }

-- Rows are written as long as 2,400 bytes are free before each line.
unfoldable pub refused_given : Bytes → Bytes → ℕ → Bytes → Bytes → Answer
refused_given A L first x out =
    let row = line_row A L in
    let room = length out in
    after_tables (check to_maximise A L []) first
    (rows_given (piece_used row 2400 room first x) (piece_next row 2400 room first x) (piece_text row 2400 room first x) out) out

-- an answer of the code over a piece whose first line has this number, with the output afterwards
unfoldable pub rowed_is : ℕ → Result Rowed Fault → Bytes → Answer
rowed_is first (Ok r) out = record { number = 0; place = 0; table = 0; used = r.used; next = r.next; len = r.len; output = out }
rowed_is first (Err f) out = record { number = number_of f; place = f.place; table = table_of f; used = 0; next = first; len = 0; output = out }
