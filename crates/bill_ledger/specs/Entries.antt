-- The entries of a bill that is being made: for each key, in byte order, a mark for each member and the deliveries.
-- Assumes nothing.
use Rattle.std.specs.Prelude.{Bool, false, List, [], ◌∷◌, ℕ, zero, suc, ◌+◌, ◌-◌, ◌^◌}
use Prim.Native.Nat.{Ordering}
use Rattle.std.specs.Int.Bits.{bit_or}
use Rattle.standard.specs.Tag.{Tag, order, same}
use Rattle.bill_rules.specs.Bill.{Usage}

-- marks has the bit of member m at m - 1
pub record Entry : Type 0 where
  pub key : Tag
  pub marks : ℕ
  pub deliveries : ℕ

-- the mark of a member
unfoldable pub mark_of : ℕ → ℕ
mark_of m = 2 ^ (m - 1)

-- the first usage of a key; one more
unfoldable pub fresh : Usage → Entry
fresh u = record { key = u.key; marks = mark_of u.member; deliveries = 1 }

unfoldable pub again : Usage → Entry → Entry
again u e = record { key = e.key; marks = bit_or e.marks (mark_of u.member); deliveries = e.deliveries + 1 }

-- a usage put to its key's entry, or at its place as a new one
unfoldable pub add_to : Usage → List Entry → List Entry
add_to u [] = fresh u ∷ []
add_to u (e ∷ es) = elim (order e.key u.key) [ Ordering.lt ↦ e ∷ add_to u es | Ordering.eq ↦ again u e ∷ es | Ordering.gt ↦ fresh u ∷ e ∷ es ]

-- how many entries are below the key, from the front
unfoldable pub place_in : Tag → List Entry → ℕ
place_in k [] = 0
place_in k (e ∷ es) = elim (order e.key k) [ Ordering.lt ↦ suc (place_in k es) | Ordering.eq ↦ 0 | Ordering.gt ↦ 0 ]

-- an entry more at a place; an entry changed
unfoldable pub insert_at : ℕ → Entry → List Entry → List Entry
insert_at zero x es = x ∷ es
insert_at (suc i) x [] = x ∷ []
insert_at (suc i) x (e ∷ es) = e ∷ insert_at i x es

unfoldable pub change_at : ℕ → (Entry → Entry) → List Entry → List Entry
change_at i f [] = []
change_at zero f (e ∷ es) = f e ∷ es
change_at (suc i) f (e ∷ es) = e ∷ change_at i f es

-- whether the i-th entry has the key
unfoldable pub hit_at : Tag → ℕ → List Entry → Bool
hit_at k i [] = false
hit_at k zero (e ∷ es) = same e.key k
hit_at k (suc i) (e ∷ es) = hit_at k i es
