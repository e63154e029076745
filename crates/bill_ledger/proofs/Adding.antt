-- Laws of adding a usage: it changes the entry at its place, or stands there as a new one. Assumes nothing.
use mathlib.Core.Path.{◌≡◌, refl, sym, ap}
use mathlib.Core.Bool.{true, false}
use mathlib.Core.List.{List, [], ◌∷◌}
use Prim.Native.Nat.{Ordering}
use lib.Dec.{compare_is_eq}
use Rattle.standard.specs.Tag.{Tag, order, same}
use Rattle.standard.proofs.General.{clash}
use Rattle.bill_rules.specs.Bill.{Usage}
use Rattle.bill_ledger.specs.Entries.{Entry, fresh, again, add_to, place_in, insert_at, change_at, hit_at}

same-is : (x y : Tag) (o : Ordering) → order x y ≡ o → same x y ≡ compare_is_eq o
unfolding same
same-is x y o e = ap compare_is_eq e

pub add-hit : (u : Usage) (es : List Entry) → hit_at u.key (place_in u.key es) es ≡ true → add_to u es ≡ change_at (place_in u.key es) (again u) es
unfolding add_to place_in change_at hit_at
add-hit u [] h = clash {b = true} refl (sym h)
add-hit u (e ∷ es) h = go (order e.key u.key) refl h (add-hit u es)
  where
    go : (o : Ordering) → order e.key u.key ≡ o → hit_at u.key (place_in u.key (e ∷ es)) (e ∷ es) ≡ true
        → (hit_at u.key (place_in u.key es) es ≡ true → add_to u es ≡ change_at (place_in u.key es) (again u) es)
        → add_to u (e ∷ es) ≡ change_at (place_in u.key (e ∷ es)) (again u) (e ∷ es)
    go Ordering.lt q t i = rw (q, add_to, place_in) (ap (λ (x : List Entry). e ∷ x) (i (rw (q, place_in) at t)))
    go Ordering.eq q t i = rw (q, add_to, place_in)
    go Ordering.gt q t i = clash (rw (q, place_in) at t) (same-is e.key u.key Ordering.gt q)

pub add-miss : (u : Usage) (es : List Entry) → hit_at u.key (place_in u.key es) es ≡ false → add_to u es ≡ insert_at (place_in u.key es) (fresh u) es
unfolding add_to place_in insert_at hit_at
add-miss u [] h = refl
add-miss u (e ∷ es) h = go (order e.key u.key) refl h (add-miss u es)
  where
    go : (o : Ordering) → order e.key u.key ≡ o → hit_at u.key (place_in u.key (e ∷ es)) (e ∷ es) ≡ false
        → (hit_at u.key (place_in u.key es) es ≡ false → add_to u es ≡ insert_at (place_in u.key es) (fresh u) es)
        → add_to u (e ∷ es) ≡ insert_at (place_in u.key (e ∷ es)) (fresh u) (e ∷ es)
    go Ordering.lt q t i = rw (q, add_to, place_in) (ap (λ (x : List Entry). e ∷ x) (i (rw (q, place_in) at t)))
    go Ordering.eq q t i = clash (same-is e.key u.key Ordering.eq q) (rw (q, place_in) at t)
    go Ordering.gt q t i = rw (q, add_to, place_in)
