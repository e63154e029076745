-- The entries of usages, the latest first. Assumes nothing.
use Rattle.std.specs.Prelude.{true, false, List, [], ◌∷◌, map, ℕ}
use Rattle.std.specs.Int.Bits.{bit_or}
use Rattle.standard.specs.Tag.{Tag, same}
use Rattle.bill_rules.specs.Bill.{Usage, keys_of, deliveries}
use Rattle.bill_ledger.specs.Entries.{Entry, mark_of}

-- the marks of the members that used the key
unfoldable pub marks_of : Tag → List Usage → ℕ
marks_of k [] = 0
marks_of k (u ∷ us) = elim (same k u.key) [ true ↦ bit_or (marks_of k us) (mark_of u.member) | false ↦ marks_of k us ]

unfoldable pub entry_of : List Usage → Tag → Entry
entry_of us k = record { key = k; marks = marks_of k us; deliveries = deliveries k us }

unfoldable pub entries_of : List Usage → List Entry
entries_of us = map (entry_of us) (keys_of us)
