-- In a bill the deliveries, the last row included, add up to the lines read. Assumes nothing.
use mathlib.Core.Path.{◌≡◌, refl, sym, ap, ◌∙◌}
use mathlib.Core.Bool.{Bool, true, false, ◌||◌, cond}
use mathlib.Core.List.{List, [], ◌∷◌, map}
use mathlib.Core.Option.{Option, none, some}
use Prim.Native.Nat.{ℕ, suc, ◌+◌}
use native.Mathlib.Omega.{arith}
use lib.Dec.{ltb}
use lib.ListN.{length, take}
use Rattle.standard.specs.Tag.{Tag, same, All}
use Rattle.standard.specs.Identifier.{Tables}
use Rattle.standard.specs.Delivery.{Bytes}
use Rattle.standard.proofs.Tags.{same_refl}
use Rattle.bill_rules.specs.Bill.{Usage, usage, accepted, usages, refusing, refusals, keys_of, more, deliveries, Row, row_of, bill, refused_with, most_keys, most_lines, bill_of, total}
use Rattle.bill_rules.proofs.Keys.{elem, times, same-sym, times-sorted}

-- the deliveries of some keys, by the usages
abbrev key_of : Usage → Tag
key_of u = u.key

sum-none : (ks : List Tag) → total (map (row_of []) ks) ≡ 0
unfolding total row_of deliveries
sum-none [] = refl
sum-none (k ∷ ks) = let i = sum-none ks in omega arith

sum_more : (u : Usage) (us : List Usage) (ks : List Tag) → total (map (row_of (u ∷ us)) ks) ≡ times u.key ks + total (map (row_of us) ks)
unfolding total row_of deliveries times more
sum_more u us [] = omega arith
sum_more u us (k ∷ ks) = go (same k u.key) refl (sum_more u us ks)
  where
    go : (b : Bool) → same k u.key ≡ b → total (map (row_of (u ∷ us)) ks) ≡ times u.key ks + total (map (row_of us) ks)
        → more (same k u.key) (deliveries k us) + total (map (row_of (u ∷ us)) ks) ≡ more (same u.key k) (times u.key ks) + (deliveries k us + total (map (row_of us) ks))
    go true e i = rw (same-sym u.key k, e) (omega arith)
    go false e i = rw (same-sym u.key k, e) (omega arith)

sum-once : (us : List Usage) (ks : List Tag) → All (λ (u : Usage). times u.key ks ≡ 1) us → total (map (row_of us) ks) ≡ length us
unfolding All
sum-once [] ks a = sum-none ks
sum-once (u ∷ us) ks a = sum_more u us ks ∙ (let i = sum-once us ks a.1 in let t = a.0 in omega arith)

-- each usage's key is one of the keys
found-more : (x : Tag) (us : List Usage) (vs : List Usage) → All (λ (u : Usage). elem u.key (map key_of us) ≡ true) vs → All (λ (u : Usage). elem u.key (x ∷ map key_of us) ≡ true) vs
unfolding All elem
found-more x us [] a = tt
found-more x us (v ∷ vs) a = (go (same v.key x) a.0, found-more x us vs a.1)
  where
    go : (b : Bool) → elem v.key (map key_of us) ≡ true → (b || elem v.key (map key_of us)) ≡ true
    go true e = refl
    go false e = e

all_found : (us : List Usage) → All (λ (u : Usage). elem u.key (map key_of us) ≡ true) us
unfolding All elem
all_found [] = tt
all_found (u ∷ us) = (rw (same_refl u.key), found-more u.key us us (all_found us))

each-once : (us vs : List Usage) → All (λ (u : Usage). elem u.key (map key_of us) ≡ true) vs → All (λ (u : Usage). times u.key (keys_of us) ≡ 1) vs
unfolding All keys_of more
each-once us [] a = tt
each-once us (v ∷ vs) a = (times-sorted v.key (map key_of us) ∙ rw a.0, each-once us vs a.1)

pub deliveries-sum : (us : List Usage) → total (map (row_of us) (keys_of us)) ≡ length us
deliveries-sum us = sum-once us (keys_of us) (each-once us us (all_found us))

lines-parted : (T : Tables) (ls : List Bytes) → length (usages T ls) + refusals T ls ≡ length ls
unfolding usages refusals accepted refusing more
lines-parted T [] = omega arith
lines-parted T (l ∷ ls) = go (usage T l) (lines-parted T ls)
  where
    go : (o : Option Usage) → length (usages T ls) + refusals T ls ≡ length ls → length (accepted o (usages T ls)) + more (refusing o) (refusals T ls) ≡ suc (length ls)
    go none i = omega arith
    go (some u) i = omega arith

-- what a bill that was not refused holds
pub bill-parts : (T : Tables) (ls : List Bytes) (rs : List Row) (r : ℕ) → bill_of T ls ≡ bill rs r → (map (row_of (usages T ls)) (keys_of (usages T ls)) ≡ rs) × (refusals T ls ≡ r)
unfolding bill_of
bill-parts T ls rs r = go (ltb most_keys (length (keys_of (usages T (take most_lines ls))))) (ltb most_lines (length ls))
  where
    go : (a b : Bool) → cond a (refused_with 17) (cond b (refused_with 18) (bill (map (row_of (usages T ls)) (keys_of (usages T ls))) (refusals T ls))) ≡ bill rs r
        → (map (row_of (usages T ls)) (keys_of (usages T ls)) ≡ rs) × (refusals T ls ≡ r)
    go true b e = (cc, cc)
    go false true e = (cc, cc)
    go false false e = (cc, cc)

-- 02, T-01: in a bill not refused the deliveries column, last row included, adds up to the lines read.
pub adds-up : (T : Tables) (ls : List Bytes) (rs : List Row) (r : ℕ) → bill_of T ls ≡ bill rs r → total rs + r ≡ length ls
adds-up T ls rs r e =
    let p = bill-parts T ls rs r e in
    sym (ap (λ (x : List Row). total x + r) p.0) ∙ ap (λ (n : ℕ). total (map (row_of (usages T ls)) (keys_of (usages T ls))) + n) (sym p.1) ∙ ap (λ (n : ℕ). n + refusals T ls) (deliveries-sum (usages T ls)) ∙ lines-parted T ls
