-- The same lines in any order give the same bill. Assumes nothing.
use mathlib.Core.Path.{◌≡◌, refl, sym, ap, ◌∙◌}
use mathlib.Core.Bool.{Bool, true, false, ◌||◌, ◌&&◌, cond}
use mathlib.Core.List.{List, [], ◌∷◌, map}
use mathlib.Core.Option.{Option, none, some}
use Prim.Native.Nat.{ℕ, zero, suc, ◌≤◌, Ordering}
use native.Mathlib.Omega.{arith}
use lib.Dec.{ltb, eqb}
use lib.ListN.{length, take}
use lib.Seq.{take_all}
use borrow.Author.Tests.{le-ltb, ltb-false}
use Rattle.standard.specs.Tag.{Tag, order, same, insert_by, sort_by, itself}
use Rattle.standard.specs.Identifier.{Tables}
use Rattle.standard.specs.Delivery.{Bytes}
use Rattle.standard.proofs.Tags.{order_flip, order-eq, flip}
use Rattle.standard.proofs.Faults.{order_trans}
use Rattle.bill_rules.specs.Order.{Reordered, ended, kept, swapped, again}
use Rattle.standard.proofs.General.{or_swap}
use Rattle.bill_rules.specs.Bill.{Usage, usage, accepted, usages, refusing, refusals, keys_of, more, deliveries, used, members_up_to, members, Row, row_of, bill, refused_with, most_keys, most_lines, bill_of}

pub reordered-refl : {A : Type 0} (xs : List A) → Reordered xs xs
reordered-refl [] = ended
reordered-refl (x ∷ xs) = kept x xs xs (reordered-refl xs)

-- what is made element by element, where two may change places
pub same-made : {A B : Type 0} (step : A → B → B) (f : List A → B) → ((x : A) (xs : List A) → f (x ∷ xs) ≡ step x (f xs)) → ((x y : A) (b : B) → step x (step y b) ≡ step y (step x b))
    → {xs ys : List A} → Reordered xs ys → f xs ≡ f ys
same-made step f by swap ended = refl
same-made step f by swap (kept x xs ys r) = by x xs ∙ ap (step x) (same-made step f by swap r) ∙ sym (by x ys)
same-made step f by swap (swapped x y xs) = by x (y ∷ xs) ∙ ap (step x) (by y xs) ∙ swap x y (f xs) ∙ sym (ap (step y) (by x xs)) ∙ sym (by y (x ∷ xs))
same-made step f by swap (again xs ys zs r s) = same-made step f by swap r ∙ same-made step f by swap s

pub map-order : {A B : Type 0} (f : A → B) {xs ys : List A} → Reordered xs ys → Reordered (map f xs) (map f ys)
map-order f ended = ended
map-order f (kept x xs ys r) = kept (f x) (map f xs) (map f ys) (map-order f r)
map-order f (swapped x y xs) = swapped (f x) (f y) (map f xs)
map-order f (again xs ys zs r s) = again (map f xs) (map f ys) (map f zs) (map-order f r) (map-order f s)

-- sorting
pub ins-lt : (x y : Tag) (ys : List Tag) → order x y ≡ Ordering.lt → insert_by itself x (y ∷ ys) ≡ x ∷ y ∷ ys
unfolding insert_by
ins-lt x y ys e = rw (e, insert_by)

pub ins-eq : (x y : Tag) (ys : List Tag) → order x y ≡ Ordering.eq → insert_by itself x (y ∷ ys) ≡ x ∷ ys
unfolding insert_by
ins-eq x y ys e = rw (e, insert_by)

pub ins-gt : (x y : Tag) (ys : List Tag) → order x y ≡ Ordering.gt → insert_by itself x (y ∷ ys) ≡ y ∷ insert_by itself x ys
unfolding insert_by
ins-gt x y ys e = rw (e, insert_by)

insert-above : (x y : Tag) (zs : List Tag) → order x y ≡ Ordering.lt → insert_by itself x (insert_by itself y zs) ≡ insert_by itself y (insert_by itself x zs)
unfolding insert_by
insert-above x y [] l = ins-lt x y [] l ∙ sym (ins-gt y x [] (order_flip x y ∙ ap flip l))
insert-above x y (z ∷ zs) l = go (order y z) refl (order x z) refl (insert-above x y zs l)
  where
    g : order y x ≡ Ordering.gt
    g = order_flip x y ∙ ap flip l

    go : (o : Ordering) → order y z ≡ o → (p : Ordering) → order x z ≡ p → insert_by itself x (insert_by itself y zs) ≡ insert_by itself y (insert_by itself x zs)
        → insert_by itself x (insert_by itself y (z ∷ zs)) ≡ insert_by itself y (insert_by itself x (z ∷ zs))
    go Ordering.lt e p f i =
        let h = order_trans x y z l e in
        ap (insert_by itself x) (ins-lt y z zs e) ∙ ins-lt x y (z ∷ zs) l ∙ sym (ap (λ (t : List Tag). x ∷ t) (ins-lt y z zs e)) ∙ sym (ins-gt y x (z ∷ zs) g) ∙ sym (ap (insert_by itself y) (ins-lt x z zs h))
    go Ordering.eq e p f i =
        let h : order x z ≡ Ordering.lt = rw (sym (order-eq y z e)) l in
        ap (insert_by itself x) (ins-eq y z zs e) ∙ ins-lt x y zs l ∙ sym (ap (λ (t : List Tag). x ∷ t) (ins-eq y z zs e)) ∙ sym (ins-gt y x (z ∷ zs) g) ∙ sym (ap (insert_by itself y) (ins-lt x z zs h))
    go Ordering.gt e Ordering.lt f i =
        ap (insert_by itself x) (ins-gt y z zs e) ∙ ins-lt x z (insert_by itself y zs) f ∙ sym (ap (λ (t : List Tag). x ∷ t) (ins-gt y z zs e)) ∙ sym (ins-gt y x (z ∷ zs) g) ∙ sym (ap (insert_by itself y) (ins-lt x z zs f))
    go Ordering.gt e Ordering.eq f i =
        ap (insert_by itself x) (ins-gt y z zs e) ∙ ins-eq x z (insert_by itself y zs) f ∙ sym (ins-gt y x zs g) ∙ sym (ap (insert_by itself y) (ins-eq x z zs f))
    go Ordering.gt e Ordering.gt f i =
        ap (insert_by itself x) (ins-gt y z zs e) ∙ ins-gt x z (insert_by itself y zs) f ∙ ap (λ (t : List Tag). z ∷ t) i ∙ sym (ins-gt y z (insert_by itself x zs) e) ∙ sym (ap (insert_by itself y) (ins-gt x z zs f))

insert-swap : (x y : Tag) (zs : List Tag) → insert_by itself x (insert_by itself y zs) ≡ insert_by itself y (insert_by itself x zs)
insert-swap x y zs = go (order x y) refl
  where
    go : (o : Ordering) → order x y ≡ o → insert_by itself x (insert_by itself y zs) ≡ insert_by itself y (insert_by itself x zs)
    go Ordering.lt e = insert-above x y zs e
    go Ordering.eq e = ap (λ (t : Tag). insert_by itself t (insert_by itself y zs)) (order-eq x y e) ∙ sym (ap (λ (t : Tag). insert_by itself y (insert_by itself t zs)) (order-eq x y e))
    go Ordering.gt e = sym (insert-above y x zs (order_flip x y ∙ ap flip e))

sort-order : {xs ys : List Tag} → Reordered xs ys → sort_by itself xs ≡ sort_by itself ys
unfolding sort_by
sort-order r = same-made (insert_by itself) (sort_by itself) (λ x xs. refl) insert-swap r

-- counting
more-swap : (a b : Bool) (n : ℕ) → more a (more b n) ≡ more b (more a n)
unfolding more
more-swap true true n = refl
more-swap true false n = refl
more-swap false true n = refl
more-swap false false n = refl

deliveries-order : (k : Tag) {us vs : List Usage} → Reordered us vs → deliveries k us ≡ deliveries k vs
unfolding deliveries
deliveries-order k r = same-made (λ (u : Usage) (n : ℕ). more (same k u.key) n) (deliveries k) (λ u us. refl) (λ u v n. more-swap (same k u.key) (same k v.key) n) r

used-order : (k : Tag) (m : ℕ) {us vs : List Usage} → Reordered us vs → used k m us ≡ used k m vs
unfolding used
used-order k m r =
    same-made (λ (u : Usage) (b : Bool). (same k u.key && eqb m u.member) || b) (used k m) (λ u us. refl) (λ u v b. or_swap (same k u.key && eqb m u.member) (same k v.key && eqb m v.member) b) r

members-order : (n : ℕ) (k : Tag) {us vs : List Usage} → Reordered us vs → members_up_to n k us ≡ members_up_to n k vs
unfolding members_up_to
members-order zero k r = refl
members-order (suc n) k {us} {vs} r = ap (λ (b : Bool). more b (members_up_to n k us)) (used-order k (suc n) r) ∙ ap (more (used k (suc n) vs)) (members-order n k r)

rows-order : {us vs : List Usage} → Reordered us vs → (ks : List Tag) → map (row_of us) ks ≡ map (row_of vs) ks
unfolding row_of members
rows-order r [] = refl
rows-order r (k ∷ ks) =
    let d = deliveries-order k r in
    let m = members-order 64 k r in
    let i = rows-order r ks in
    λ j. record { key = k; members = m j; deliveries = d j } ∷ i j

pub keys-order : {us vs : List Usage} → Reordered us vs → keys_of us ≡ keys_of vs
unfolding keys_of
keys-order r = sort-order (map-order (λ (u : Usage). u.key) r)

-- lines
pub usages-order : (T : Tables) {ls ms : List Bytes} → Reordered ls ms → Reordered (usages T ls) (usages T ms)
unfolding usages accepted
usages-order T ended = ended
usages-order T (kept l ls ms r) = one (usage T l) (usages-order T r)
  where
    one : (o : Option Usage) → Reordered (usages T ls) (usages T ms) → Reordered (accepted o (usages T ls)) (accepted o (usages T ms))
    one none i = i
    one (some u) i = kept u (usages T ls) (usages T ms) i
usages-order T (swapped l m ls) = two (usage T l) (usage T m)
  where
    two : (o p : Option Usage) → Reordered (accepted o (accepted p (usages T ls))) (accepted p (accepted o (usages T ls)))
    two none none = reordered-refl (usages T ls)
    two none (some v) = reordered-refl (v ∷ usages T ls)
    two (some u) none = reordered-refl (u ∷ usages T ls)
    two (some u) (some v) = swapped u v (usages T ls)
usages-order T (again ls ms ns r s) = again (usages T ls) (usages T ms) (usages T ns) (usages-order T r) (usages-order T s)

pub refusals-order : (T : Tables) {ls ms : List Bytes} → Reordered ls ms → refusals T ls ≡ refusals T ms
unfolding refusals
refusals-order T r = same-made (λ (l : Bytes) (n : ℕ). more (refusing (usage T l)) n) (refusals T) (λ l ls. refl) (λ l m n. more-swap (refusing (usage T l)) (refusing (usage T m)) n) r

pub length-order : {A : Type 0} {xs ys : List A} → Reordered xs ys → length xs ≡ length ys
length-order r = same-made (λ _ (n : ℕ). suc n) length (λ x xs. refl) (λ x y n. refl) r

within_all : (T : Tables) (ls : List Bytes) → length ls ≤ most_lines
    → bill_of T ls ≡ cond (ltb most_keys (length (keys_of (usages T ls)))) (refused_with 17) (bill (map (row_of (usages T ls)) (keys_of (usages T ls))) (refusals T ls))
unfolding bill_of
within_all T ls h = rw (take_all most_lines ls h, le-ltb most_lines (length ls) h)

-- 02, T-01: the same lines in any order: up to 1,000,000 of them give the same bill, or are refused with 17 alike.
pub any_order : (T : Tables) (ls ms : List Bytes) → Reordered ls ms → length ls ≤ most_lines → bill_of T ls ≡ bill_of T ms
any_order T ls ms r h =
    let k = usages-order T r in
    let n : length ms ≤ most_lines = rw (length-order r) at h in
    within_all T ls h
    ∙ ap (λ (ks : List Tag). cond (ltb most_keys (length ks)) (refused_with 17) (bill (map (row_of (usages T ls)) ks) (refusals T ls))) (keys-order k)
    ∙ ap (λ (rs : List Row). cond (ltb most_keys (length (keys_of (usages T ms)))) (refused_with 17) (bill rs (refusals T ls))) (rows-order k (keys_of (usages T ms)))
    ∙ ap (λ (c : ℕ). cond (ltb most_keys (length (keys_of (usages T ms)))) (refused_with 17) (bill (map (row_of (usages T ms)) (keys_of (usages T ms))) c)) (refusals-order T r)
    ∙ sym (within_all T ms n)

-- a bill that was not refused has at most 1,000,000 lines
small-bill : (T : Tables) (ls : List Bytes) (rs : List Row) (r : ℕ) → bill_of T ls ≡ bill rs r → length ls ≤ most_lines
unfolding bill_of
small-bill T ls rs r = go (ltb most_keys (length (keys_of (usages T (take most_lines ls))))) (ltb most_lines (length ls)) refl
  where
    go : (a b : Bool) → ltb most_lines (length ls) ≡ b → cond a (refused_with 17) (cond b (refused_with 18) (bill (map (row_of (usages T ls)) (keys_of (usages T ls))) (refusals T ls))) ≡ bill rs r → length ls ≤ most_lines
    go true b f e = absurd (let z : ◌≡◌ {A = ℕ} 0 1 = cc in omega arith)
    go false true f e = absurd (let z : ◌≡◌ {A = ℕ} 0 1 = cc in omega arith)
    go false false f e = ltb-false most_lines (length ls) f

-- and is the same in any order of its lines
pub same-bill : (T : Tables) (ls ms : List Bytes) (rs : List Row) (r : ℕ) → Reordered ls ms → bill_of T ls ≡ bill rs r → bill_of T ms ≡ bill rs r
same-bill T ls ms rs r o e = sym (any_order T ls ms o (small-bill T ls rs r e)) ∙ e
