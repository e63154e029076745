-- Adding a usage makes the entries of one usage more; they ascend, and their marks count the members. Assumes nothing.
use mathlib.Core.Path.{◌≡◌, refl, sym, ap, ap₂, ◌∙◌}
use mathlib.Core.Bool.{Bool, true, false, ◌||◌}
use mathlib.Core.List.{List, [], ◌∷◌, map}
use Prim.Native.Nat.{ℕ, suc, ◌+◌, ◌≤◌, ◌<◌, Ordering}
use native.Mathlib.Omega.{arith}
use lib.Bits.{bit_or, or_zero_l}
use lib.ListN.{length}
use Rattle.standard.specs.Tag.{Tag, order, same, insert_by, sort_by, itself}
use Rattle.standard.proofs.Tags.{order_flip, order-eq, same_refl, flip, Ascending, sort-ascending}
use Rattle.standard.proofs.Faults.{order_trans}
use Rattle.standard.proofs.General.{clash}
use Rattle.bill_rules.specs.Bill.{Usage, keys_of, more, deliveries}
use Rattle.bill_rules.proofs.Keys.{elem, same-sym, below_out, ascending-rest, elem-sorted}
use Rattle.bill_rules.proofs.Orders.{ins-lt, ins-eq, ins-gt}
use Rattle.bill_ledger.specs.Entries.{Entry, mark_of, fresh, again, add_to}
use Rattle.bill_ledger.specs.Ledger.{marks_of, entry_of, entries_of}
use Rattle.bill_ledger.specs.Up.{Up, Few}

abbrev key_of : Usage → Tag
key_of u = u.key

or-false : (a b : Bool) → (a || b) ≡ false → (a ≡ false) × (b ≡ false)
or-false true b e = clash {b = true} refl e
or-false false b e = (refl, e)

-- a key that no usage has
unused : (k : Tag) (us : List Usage) → elem k (map key_of us) ≡ false → (deliveries k us ≡ 0) × (marks_of k us ≡ 0)
unfolding elem deliveries marks_of more
unused k [] e = (refl, refl)
unused k (u ∷ us) e =
    let q = or-false (same k u.key) (elem k (map key_of us)) e in
    let i = unused k us q.1 in
    (rw q.0 i.0, rw (q.0, marks_of) i.1)

-- an entry after one usage more
entry_other : (u : Usage) (us : List Usage) (k : Tag) → same k u.key ≡ false → entry_of (u ∷ us) k ≡ entry_of us k
unfolding entry_of deliveries marks_of more
entry_other u us k e =
    let m : marks_of k (u ∷ us) ≡ marks_of k us = rw (e, marks_of) in
    let d : deliveries k (u ∷ us) ≡ deliveries k us = rw e in
    λ i. record { key = k; marks = m i; deliveries = d i }

entry-again : (u : Usage) (us : List Usage) → entry_of (u ∷ us) u.key ≡ again u (entry_of us u.key)
unfolding entry_of deliveries marks_of more again
entry-again u us =
    let m : marks_of u.key (u ∷ us) ≡ bit_or (marks_of u.key us) (mark_of u.member) = rw (same_refl u.key, marks_of) in
    let d : deliveries u.key (u ∷ us) ≡ deliveries u.key us + 1 = rw (same_refl u.key) (let z : suc (deliveries u.key us) ≡ deliveries u.key us + 1 = omega arith in z) in
    λ i. record { key = u.key; marks = m i; deliveries = d i }

entry-fresh : (u : Usage) (us : List Usage) → deliveries u.key us ≡ 0 → marks_of u.key us ≡ 0 → entry_of (u ∷ us) u.key ≡ fresh u
unfolding entry_of again fresh
entry-fresh u us d m =
    entry-again u us
    ∙ (let a : bit_or (marks_of u.key us) (mark_of u.member) ≡ mark_of u.member = ap (λ (n : ℕ). bit_or n (mark_of u.member)) m ∙ or_zero_l (mark_of u.member) in
    let b : deliveries u.key us + 1 ≡ 1 = omega arith in
    λ i. record { key = u.key; marks = a i; deliveries = b i })

lt-other : (x y : Tag) → order x y ≡ Ordering.lt → same y x ≡ false
unfolding same
lt-other x y e = rw (order_flip x y) (rw e)

entries-above : (u : Usage) (us : List Usage) (y : Tag) (ys : List Tag) → order u.key y ≡ Ordering.lt → Ascending itself (y ∷ ys) → map (entry_of (u ∷ us)) (y ∷ ys) ≡ map (entry_of us) (y ∷ ys)
unfolding Ascending
entries-above u us y [] e a = ap (λ (x : Entry). x ∷ []) (entry_other u us y (lt-other u.key y e))
entries-above u us y (z ∷ zs) e a =
    ap₂ (λ (x : Entry) (xs : List Entry). x ∷ xs) (entry_other u us y (lt-other u.key y e)) (entries-above u us z zs (order_trans u.key y z e a.0) a.1)

entries-after : (u : Usage) (us : List Usage) (ys : List Tag) → Ascending itself (u.key ∷ ys) → map (entry_of (u ∷ us)) ys ≡ map (entry_of us) ys
unfolding Ascending
entries-after u us [] a = refl
entries-after u us (y ∷ ys) a = entries-above u us y ys a.0 a.1

add-keys : (u : Usage) (us : List Usage) (ys : List Tag) → Ascending itself ys → (elem u.key ys ≡ false → (deliveries u.key us ≡ 0) × (marks_of u.key us ≡ 0))
    → map (entry_of (u ∷ us)) (insert_by itself u.key ys) ≡ add_to u (map (entry_of us) ys)
unfolding add_to entry_of elem insert_by
add-keys u us [] a n = ap (λ (x : Entry). x ∷ []) (let z = n refl in entry-fresh u us z.0 z.1)
add-keys u us (y ∷ ys) a n = go (order u.key y) refl (λ f. add-keys u us ys (ascending-rest y ys a) f)
  where
    go : (o : Ordering) → order u.key y ≡ o
        → ((elem u.key ys ≡ false → (deliveries u.key us ≡ 0) × (marks_of u.key us ≡ 0)) → map (entry_of (u ∷ us)) (insert_by itself u.key ys) ≡ add_to u (map (entry_of us) ys))
        → map (entry_of (u ∷ us)) (insert_by itself u.key (y ∷ ys)) ≡ add_to u (map (entry_of us) (y ∷ ys))
    go Ordering.lt e i =
        let f : order y u.key ≡ Ordering.gt = order_flip u.key y ∙ ap flip e in
        let z = n (below_out u.key y ys e a) in
        ap (map (entry_of (u ∷ us))) (ins-lt u.key y ys e) ∙ ap₂ (λ (x : Entry) (xs : List Entry). x ∷ xs) (entry-fresh u us z.0 z.1) (entries-above u us y ys e a) ∙ sym (rw (f, add_to))
    go Ordering.eq e i =
        let f : order y u.key ≡ Ordering.eq = order_flip u.key y ∙ ap flip e in
        let q = order-eq u.key y e in
        ap (map (entry_of (u ∷ us))) (ins-eq u.key y ys e) ∙ ap₂ (λ (x : Entry) (xs : List Entry). x ∷ xs) (entry-again u us ∙ ap (λ (k : Tag). again u (entry_of us k)) q) (entries-after u us ys (rw q a)) ∙ sym (rw (f, add_to))
    go Ordering.gt e i =
        let f : order y u.key ≡ Ordering.lt = order_flip u.key y ∙ ap flip e in
        let d = lt-other y u.key f in
        ap (map (entry_of (u ∷ us))) (ins-gt u.key y ys e) ∙ ap₂ (λ (x : Entry) (xs : List Entry). x ∷ xs) (entry_other u us y (same-sym y u.key ∙ d)) (i (λ g. n (rw d g))) ∙ sym (rw (f, add_to))

pub add-entries : (u : Usage) (us : List Usage) → entries_of (u ∷ us) ≡ add_to u (entries_of us)
unfolding entries_of keys_of sort_by
add-entries u us =
    add-keys u us (sort_by itself (map key_of us)) (sort-ascending itself (map key_of us)) (λ e. unused u.key us (sym (elem-sorted u.key (map key_of us)) ∙ e))

-- the entries ascend
up-map : (us : List Usage) (ks : List Tag) → Ascending itself ks → Up (map (entry_of us) ks)
unfolding Up Ascending entry_of
up-map us [] a = tt
up-map us (k ∷ []) a = tt
up-map us (k ∷ l ∷ ks) a = (a.0, up-map us (l ∷ ks) a.1)

pub entries-up : (us : List Usage) → Up (entries_of us)
unfolding entries_of keys_of
entries-up us = up-map us (sort_by itself (map key_of us)) (sort-ascending itself (map key_of us))

-- and have no more deliveries than there are usages
deliveries-few : (k : Tag) (us : List Usage) → deliveries k us ≤ length us
unfolding deliveries more
deliveries-few k [] = omega arith
deliveries-few k (u ∷ us) = go (same k u.key) (deliveries-few k us)
  where
    go : (b : Bool) → deliveries k us ≤ length us → more b (deliveries k us) ≤ suc (length us)
    go true h = omega arith
    go false h = omega arith

few-map : (us : List Usage) (ks : List Tag) → length us < 1000000 → Few (map (entry_of us) ks)
unfolding Few entry_of
few-map us [] h = tt
few-map us (k ∷ ks) h = (omega (arith, deliveries-few k us), few-map us ks h)

pub entries-few : (us : List Usage) → length us < 1000000 → Few (entries_of us)
unfolding entries_of
entries-few us h = few-map us (keys_of us) h

pub entries-length : (us : List Usage) → length (entries_of us) ≡ length (keys_of us)
unfolding entries_of
entries-length us = go (keys_of us)
  where
    go : (ks : List Tag) → length (map (entry_of us) ks) ≡ length ks
    go [] = refl
    go (k ∷ ks) = ap suc (go ks)
