-- What a lent bill holds after some lines, over any tables. Assumes nothing.
use Rattle.std.specs.Prelude.{◌≡◌, List, [], ℕ, ⊤, Result, Ok, Err}
use Rattle.std.proofs.Math.Option.{none, some}
use Rattle.standard.specs.Delivery.{Bytes}
use Rattle.standard.specs.Table.{TableFault, tables_of, check, to_maximise}
use Rattle.bill_ledger.specs.Up.{Sized}
use Rattle.bill_lines.specs.declared.Counts.{Counts}
use Rattle.table_check.specs.declared.Fault.{Fault}
use Rattle.table_check.specs.Verdicts.{number_of, table_of}
use Rattle.bill_lines.specs.State.{Bounded, only, Good as GoodBill}

-- the counts of a table's fault
unfoldable pub faulted : TableFault → Counts
faulted f = only f.fault.number f.fault.place f.table

-- the counts after the check of the tables
unfoldable pub judged_by : Result ⊤ Fault → Counts
judged_by (Ok done) = only 0 0 0
judged_by (Err f) = only (number_of f) f.place (table_of f)

-- the bill of the lines ls so far, or the fault of the tables
pub record Held (A L : Bytes) (ls : List Bytes) (c : Counts) (ks : Bytes) (cs : List ℕ) : Type 0 where
  pub sized : Sized ks cs
  pub bounded : Bounded c
  pub good : check to_maximise A L [] ≡ none → GoodBill (tables_of A L []) ls c ks cs
  pub bad : (f : TableFault) → check to_maximise A L [] ≡ some f → c ≡ faulted f

-- a bill that can go on: not refused, and counts and arrays as a bill has them
pub record Usable (c : Counts) (ks : Bytes) (cs : List ℕ) : Type 0 where
  pub number : c.number ≡ 0
  pub bounded : Bounded c
  pub sized : Sized ks cs

-- nothing changes
pub record Stays (c r : Counts) (ks ks' : Bytes) (cs cs' : List ℕ) : Type 0 where
  pub counts : r ≡ c
  pub keys : ks' ≡ ks
  pub numbers : cs' ≡ cs
