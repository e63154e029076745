-- The text of a bill. Assumes nothing.
use Rattle.std.specs.Prelude.{cond, ◌&&◌, List, [], ◌∷◌, ◌++◌, ℕ, eqb, leb, ltb, length}
use Rattle.std.proofs.Math.Option.{Option, none, some}
use Rattle.std.specs.Int.Count.{ones}
use Rattle.standard.specs.Delivery.{Bytes}
use Rattle.standard.specs.Table.{TableFault, tables_of, check, to_maximise}
use Rattle.tsv.specs.Fields.{decimal, field, table_text}
use Rattle.bill_rules.specs.Bill.{Row, Bill, bill, refused_with, bill_of}
use Rattle.bill_ledger.specs.Entries.{Entry}
use Rattle.bill_ledger.specs.Places.{entries_from}
use Rattle.bill_lines.specs.declared.Counts.{Counts}
use Rattle.standard.specs.Tag.{text}

-- 02, T-01: `key`, `members`, `deliveries` as a header, tab-parted
unfoldable pub header : Bytes
header =
    field (text "key\tmembers\tdeliveries") 10

unfoldable pub row_text : Row → Bytes
row_text r = field r.key 9 ++ (field (decimal r.members) 9 ++ field (decimal r.deliveries) 10)

unfoldable pub rows_text : List Row → Bytes
rows_text [] = []
rows_text (r ∷ rs) = row_text r ++ rows_text rs

-- 02, T-01: a row with key `-`, members 0 and the number of refused lines
unfoldable pub last_text : ℕ → Bytes
last_text n = field (45 ∷ []) 9 ++ (field (48 ∷ []) 9 ++ field (decimal n) 10)

-- 02, T-01: a bill refused with 17 or 18 prints only that number, as a line.
unfoldable pub bill_text : Bill → Bytes
bill_text (bill rs n) = header ++ (rows_text rs ++ last_text n)
bill_text (refused_with n) = field (decimal n) 10

-- 02, T-01: one with bad tables only the `table` line of `keys`
unfoldable pub after_tables : Option TableFault → Bytes → Bytes
after_tables none x = x
after_tables (some f) x = table_text f.fault.number f.fault.place f.table

unfoldable pub month_text : Bytes → Bytes → List Bytes → Bytes
month_text A L ls = after_tables (check to_maximise A L []) (bill_text (bill_of (tables_of A L []) ls))

-- 02, T-01: the number of a bill that is refused; else 0
unfoldable pub bill_number : Bill → ℕ
bill_number (bill rs n) = 0
bill_number (refused_with n) = n

-- that of bad tables comes first
unfoldable pub number_after : Option TableFault → ℕ → ℕ
number_after none n = n
number_after (some f) n = f.fault.number

unfoldable pub month_number : Bytes → Bytes → List Bytes → ℕ
month_number A L ls = number_after (check to_maximise A L []) (bill_number (bill_of (tables_of A L []) ls))

-- the rows of entries, as the code has them
unfoldable pub entry_text : Entry → Bytes
entry_text e = field e.key 9 ++ (field (decimal (ones e.marks)) 9 ++ field (decimal e.deliveries) 10)

unfoldable pub entries_text : List Entry → Bytes
entries_text [] = []
entries_text (e ∷ es) = entry_text e ++ entries_text es

-- what the counts and the arrays of a bill print
unfoldable pub counts_text : Counts → Bytes → List ℕ → Bytes
counts_text c ks cs =
    cond (eqb c.number 0) (header ++ (entries_text (entries_from ks cs 0 c.keys) ++ last_text c.refused))
    (cond (ltb c.number 15) (table_text c.number c.place c.table) (field (decimal c.number) 10))

-- what is written into an output of so many bytes: nothing where it is too short, or where counts and arrays are no bill's
unfoldable pub written_text : Counts → Bytes → List ℕ → ℕ → Bytes
written_text c ks cs room = cond (leb 65536 room && (eqb (length ks) 16384 && (eqb (length cs) 1024 && leb c.keys 512))) (counts_text c ks cs) []
