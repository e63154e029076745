-- Laws of entries by their places: the search by halves, a changed entry, an entry more. Assumes nothing.
use mathlib.Core.Path.{◌≡◌, refl, sym, ap, ap₂, ◌∙◌}
use mathlib.Core.List.{List, ◌∷◌}
use Prim.Native.Nat.{ℕ, zero, suc, ◌+◌, ◌-◌, ◌*◌, ◌≤◌, ◌<◌, Ordering}
use native.Mathlib.Omega.{arith}
use lib.ListN.{get_or, length, take, drop}
use lib.Seq.{drop-cons}
use Rattle.standard.specs.Tag.{Tag, order}
use Rattle.standard.specs.Delivery.{Bytes}
use Rattle.standard.proofs.Faults.{order_trans}
use Rattle.bill_ledger.specs.Entries.{place_in}
use Rattle.bill_ledger.specs.Places.{bytes_at, at_most31, text_at, entry_at, entries_from}
use Rattle.bill_ledger.specs.Up.{Up}

-- an entry that is not below the key is not before its place
pub place-low : (ks : Bytes) (cs : List ℕ) (k : Tag) (m i n : ℕ) → m < n → (order (text_at ks (i + m)) k ≡ Ordering.lt → ⊥) → place_in k (entries_from ks cs i n) ≤ m
unfolding entries_from place_in entry_at
place-low ks cs k m i zero h f = omega arith
place-low ks cs k zero i (suc n) h f = go (order (text_at ks i) k) refl
  where
    z : i + 0 ≡ i
    z = omega arith

    go : (o : Ordering) → order (text_at ks i) k ≡ o → place_in k (entries_from ks cs i (suc n)) ≤ 0
    go Ordering.lt e = absurd (f (ap (λ (j : ℕ). order (text_at ks j) k) z ∙ e))
    go Ordering.eq e = rw (e, place_in) (omega arith)
    go Ordering.gt e = rw (e, place_in) (omega arith)
place-low ks cs k (suc m) i (suc n) h f = go (order (text_at ks i) k) refl (place-low ks cs k m (suc i) n (omega arith) (λ e. f (ap (λ (j : ℕ). order (text_at ks j) k) (let z : i + suc m ≡ suc i + m = omega arith in z) ∙ e)))
  where
    go : (o : Ordering) → order (text_at ks i) k ≡ o → place_in k (entries_from ks cs (suc i) n) ≤ m → place_in k (entries_from ks cs i (suc n)) ≤ suc m
    go Ordering.lt e r = rw (e, place_in) (omega arith)
    go Ordering.eq e r = rw (e, place_in) (omega arith)
    go Ordering.gt e r = rw (e, place_in) (omega arith)

-- the first of ascending entries is below the others
first_below : (ks : Bytes) (cs : List ℕ) (m i n : ℕ) → m < n → Up (entries_from ks cs i (suc n)) → order (text_at ks i) (text_at ks (suc i + m)) ≡ Ordering.lt
unfolding Up entries_from entry_at
first_below ks cs m i zero h u = absurd (omega arith)
first_below ks cs zero i (suc n) h u = ap (λ (j : ℕ). order (text_at ks i) (text_at ks j)) (let z : suc i + 0 ≡ suc i = omega arith in z) ∙ u.0
first_below ks cs (suc m) i (suc n) h u =
    ap (λ (j : ℕ). order (text_at ks i) (text_at ks j)) (let z : suc i + suc m ≡ suc (suc i) + m = omega arith in z)
    ∙ order_trans (text_at ks i) (text_at ks (suc i)) (text_at ks (suc (suc i) + m)) u.0 (first_below ks cs m (suc i) n (omega arith) u.1)

up_rest : (ks : Bytes) (cs : List ℕ) (i n : ℕ) → Up (entries_from ks cs i (suc n)) → Up (entries_from ks cs (suc i) n)
unfolding Up entries_from
up_rest ks cs i zero u = tt
up_rest ks cs i (suc n) u = u.1

-- an entry below the key is before its place
pub place-high : (ks : Bytes) (cs : List ℕ) (k : Tag) (m i n : ℕ) → m < n → Up (entries_from ks cs i n) → order (text_at ks (i + m)) k ≡ Ordering.lt → m < place_in k (entries_from ks cs i n)
unfolding entries_from place_in entry_at
place-high ks cs k m i zero h u f = absurd (omega arith)
place-high ks cs k zero i (suc n) h u f =
    let e : order (text_at ks i) k ≡ Ordering.lt = ap (λ (j : ℕ). order (text_at ks j) k) (let z : i ≡ i + 0 = omega arith in z) ∙ f in
    rw (e, place_in) (omega arith)
place-high ks cs k (suc m) i (suc n) h u f =
    let g : order (text_at ks (suc i + m)) k ≡ Ordering.lt = ap (λ (j : ℕ). order (text_at ks j) k) (let z : suc i + m ≡ i + suc m = omega arith in z) ∙ f in
    let e : order (text_at ks i) k ≡ Ordering.lt = order_trans (text_at ks i) (text_at ks (suc i + m)) k (first_below ks cs m i n (omega arith) u) g in
    let r = place-high ks cs k m (suc i) n (omega arith) (up_rest ks cs i n u) g in
    rw (e, place_in) (omega arith)

-- keys as parts of their array
bytes-part : (ks : Bytes) (at n : ℕ) → at + n ≤ length ks → bytes_at ks at n ≡ take n (drop at ks)
unfolding bytes_at
bytes-part ks at zero h = refl
bytes-part ks at (suc n) h = rw (drop-cons ks at 0 (omega arith)) (ap (λ (x : Bytes). get_or ks at 0 ∷ x) (bytes-part ks (suc at) n (omega arith)))

pub key-part : (ks : Bytes) (i a e m : ℕ) → a ≡ 32 * i + 1 → e ≡ a + m → m ≡ at_most31 (get_or ks (32 * i) 0) → e ≤ length ks → take (e - a) (drop a ks) ≡ text_at ks i
unfolding text_at
key-part ks i a e m p q r h =
    let z : e - a ≡ m = omega arith in
    rw (z) (sym (bytes-part ks a m (omega arith)) ∙ ap₂ (bytes_at ks) p r)

pub place-within : (ks : Bytes) (cs : List ℕ) (k : Tag) (i n : ℕ) → place_in k (entries_from ks cs i n) ≤ n
unfolding entries_from place_in entry_at
place-within ks cs k i zero = omega arith
place-within ks cs k i (suc n) = go (order (text_at ks i) k) refl (place-within ks cs k (suc i) n)
  where
    go : (o : Ordering) → order (text_at ks i) k ≡ o → place_in k (entries_from ks cs (suc i) n) ≤ n → place_in k (entries_from ks cs i (suc n)) ≤ suc n
    go Ordering.lt e r = rw (e, place_in) (omega arith)
    go Ordering.eq e r = rw (e, place_in) (omega arith)
    go Ordering.gt e r = rw (e, place_in) (omega arith)
