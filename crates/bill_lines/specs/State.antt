-- A bill that is being made: what stands in the arrays and the counts after some lines. Assumes nothing.
use Rattle.std.specs.Prelude.{◌≡◌, ◌⊎◌, ℕ, ◌+◌, ◌≤◌, length, take, Option, Some, None}
use mathlib.Core.List.{List, [], ◌++◌, reverse_aux}
use Rattle.std.proofs.Math.Option.{Option as Maybe, none, some}
use Rattle.standard.specs.Identifier.{Tables}
use Rattle.standard.specs.Delivery.{Bytes}
use Rattle.bill_rules.specs.Bill.{Usage, usages, refusals, refused_with, bill_of}
use Rattle.bill_ledger.specs.Places.{entries_from}
use Rattle.bill_ledger.specs.Ledger.{entries_of}
use Rattle.bill_lines.specs.declared.Counts.{Counts}
use Rattle.bill_lines.specs.declared.line.Used.{Used}

-- what a usage line says: a member and the bytes of its key, or a refused line
abbrev pub used_is : Option Used → Bytes → Maybe Usage
used_is None out = none
used_is (Some r) out = some (record { member = r.member; key = take r.len out })

-- a member of a bill, and a key that has room
abbrev pub InRange : Used → Type 0
InRange r = (1 ≤ r.member) × (r.member ≤ 64) × (r.len ≤ 26)

-- counts that a bill can have
pub record Bounded (c : Counts) : Type 0 where
  pub keys : c.keys ≤ 512
  pub lines : c.lines ≤ 1000000
  pub refused : c.refused ≤ c.lines

-- the counts of a refusal, all 0 but its number, place and table; with number 0 those of no lines; and after one line more
unfoldable pub only : ℕ → ℕ → ℕ → Counts
only n p t = record { number = n; place = p; table = t; keys = 0; lines = 0; refused = 0 }

unfoldable pub one_more : Counts → ℕ → ℕ → Counts
one_more c keys refused = record { number = c.number; place = c.place; table = c.table; keys = keys; lines = c.lines + 1; refused = refused }

-- not refused so far: the entries of all lines
pub record Going (T : Tables) (ls : List Bytes) (c : Counts) (ks : Bytes) (cs : List ℕ) : Type 0 where
  pub number : c.number ≡ 0
  pub place : c.place ≡ 0
  pub table : c.table ≡ 0
  pub lines : c.lines ≡ length ls
  pub most-lines : c.lines ≤ 1000000
  pub refused : c.refused ≡ refusals T ls
  pub most-keys : c.keys ≤ 512
  pub entries : entries_from ks cs 0 c.keys ≡ entries_of (usages T (reverse_aux ls []))

-- refused for good, with 17 or 18, whatever comes
pub record Stopped (T : Tables) (ls : List Bytes) (c : Counts) : Type 0 where
  pub number : 15 ≤ c.number
  pub alone : c ≡ only c.number 0 0
  pub bill : (ms : List Bytes) → bill_of T (ls ++ ms) ≡ refused_with c.number

unfoldable pub Good : Tables → List Bytes → Counts → Bytes → List ℕ → Type 0
Good T ls c ks cs = Going T ls c ks cs ⊎ Stopped T ls c
