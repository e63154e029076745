-- Entries in byte order of their keys, each once. Assumes nothing.
use Rattle.std.specs.Prelude.{◌≡◌, List, [], ◌∷◌, ℕ, ◌≤◌, ◌<◌, length, Option, Some, None}
use Prim.Native.Nat.{Ordering}
use Rattle.standard.specs.Tag.{order}
use Rattle.bill_rules.specs.Bill.{Usage}
use Rattle.standard.specs.Delivery.{Bytes}
use Rattle.bill_ledger.specs.Entries.{Entry, add_to}
use Rattle.bill_ledger.specs.Places.{entries_from}

unfoldable pub Up : List Entry → Type 0
Up [] = Unit {0}
Up (d ∷ []) = Unit {0}
Up (d ∷ e ∷ es) = (order d.key e.key ≡ Ordering.lt) × Up (e ∷ es)

-- no entry has the deliveries of a full bill
unfoldable pub Few : List Entry → Type 0
Few [] = Unit {0}
Few (e ∷ es) = (e.deliveries < 1000000) × Few es

-- arrays with room for 512 entries
pub record Sized (ks : Bytes) (cs : List ℕ) : Type 0 where
  pub keys : length ks ≡ 16384
  pub counts : length cs ≡ 1024

-- r entries stand in the arrays after a usage, unless they are more than have room
pub record Added (u : Usage) (es : List Entry) (ks : Bytes) (cs : List ℕ) (r : ℕ) : Type 0 where
  pub count : r ≡ length (add_to u es)
  pub entries : r ≤ 512 → entries_from ks cs 0 r ≡ add_to u es

-- how many entries there are after a usage: one more than have room, where there is none
abbrev pub count_of : Option ℕ → ℕ
count_of None = 513
count_of (Some r) = r
