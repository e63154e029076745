-- Laws of the keys of a bill: each occurs once. Assumes nothing.
use mathlib.Core.Path.{subst, ◌≡◌, refl, sym, ap, ◌∙◌}
use mathlib.Core.Bool.{Bool, true, false, not, ◌||◌}
use mathlib.Core.List.{List, [], ◌∷◌}
use Prim.Native.Nat.{ℕ, suc, Ordering}
use lib.Dec.{compare_is_eq}
use lib.ListN.{length}
use Rattle.standard.specs.Tag.{Tag, order, same, insert_by, sort_by, itself}
use Rattle.standard.proofs.Tags.{order_flip, order-eq, same-eq, same_refl, flip, Ascending, sort-ascending}
use Rattle.standard.proofs.Faults.{order_trans}
use Rattle.bill_rules.specs.Bill.{more}
use Rattle.standard.proofs.General.{or_swap}

-- whether x is one of the tags; and how often
unfoldable pub elem : Tag → List Tag → Bool
elem x [] = false
elem x (y ∷ ys) = same x y || elem x ys

unfoldable pub times : Tag → List Tag → ℕ
times x [] = 0
times x (y ∷ ys) = more (same x y) (times x ys)

-- how many different ones
unfoldable pub different : List Tag → ℕ
different [] = 0
different (x ∷ xs) = more (not (elem x xs)) (different xs)

is_eq-flip : (o : Ordering) → compare_is_eq (flip o) ≡ compare_is_eq o
is_eq-flip Ordering.lt = refl
is_eq-flip Ordering.eq = refl
is_eq-flip Ordering.gt = refl

pub same-sym : (x y : Tag) → same x y ≡ same y x
unfolding same
same-sym x y = sym (ap compare_is_eq (order_flip x y) ∙ is_eq-flip (order x y))

lt_same : (x y : Tag) → order x y ≡ Ordering.lt → same x y ≡ false
unfolding same
lt_same x y e = rw e

gt-same : (x y : Tag) → order x y ≡ Ordering.gt → same x y ≡ false
unfolding same
gt-same x y e = rw e

-- a tag below the first of ascending ones is none of them
below_none : (x y : Tag) (ys : List Tag) → order x y ≡ Ordering.lt → Ascending itself (y ∷ ys) → times x (y ∷ ys) ≡ 0
unfolding times more Ascending
below_none x y [] l h = rw (lt_same x y l)
below_none x y (z ∷ zs) l h = rw (lt_same x y l) (below_none x z zs (order_trans x y z l h.0) h.1)

pub ascending-rest : (y : Tag) (ys : List Tag) → Ascending itself (y ∷ ys) → Ascending itself ys
unfolding Ascending
ascending-rest y [] h = tt
ascending-rest y (z ∷ zs) h = h.1

rest-none : (y : Tag) (ys : List Tag) → Ascending itself (y ∷ ys) → times y ys ≡ 0
unfolding times Ascending
rest-none y [] h = refl
rest-none y (z ∷ zs) h = below_none y z zs h.0 h.1

insert-once : (x : Tag) (ys : List Tag) → Ascending itself ys → times x (insert_by itself x ys) ≡ 1
unfolding times insert_by more
insert-once x [] h = rw (same_refl x)
insert-once x (y ∷ ys) h = go (order x y) refl (insert-once x ys (ascending-rest y ys h))
  where
    go : (o : Ordering) → order x y ≡ o → times x (insert_by itself x ys) ≡ 1 → times x (insert_by itself x (y ∷ ys)) ≡ 1
    go Ordering.lt e i = rw (e, insert_by) (rw (same_refl x) (ap suc (below_none x y ys e h)))
    go Ordering.eq e i = rw (e, insert_by) (rw (same_refl x) (ap suc (subst (λ (z : Tag). times z ys ≡ 0) (sym (order-eq x y e)) (rest-none y ys h))))
    go Ordering.gt e i = rw (e, insert_by) (rw (gt-same x y e) i)

insert-other : (x y : Tag) (zs : List Tag) → same x y ≡ false → times x (insert_by itself y zs) ≡ times x zs
unfolding times insert_by more
insert-other x y [] n = rw n
insert-other x y (z ∷ zs) n = go (order y z) refl (insert-other x y zs n)
  where
    go : (o : Ordering) → order y z ≡ o → times x (insert_by itself y zs) ≡ times x zs → times x (insert_by itself y (z ∷ zs)) ≡ times x (z ∷ zs)
    go Ordering.lt e i = rw (e, insert_by) (rw n)
    go Ordering.eq e i = rw (e, insert_by) (rw (order-eq y z e))
    go Ordering.gt e i = rw (e, insert_by) (ap (more (same x z)) i)

pub times-sorted : (x : Tag) (ys : List Tag) → times x (sort_by itself ys) ≡ more (elem x ys) 0
unfolding times sort_by elem more
times-sorted x [] = refl
times-sorted x (y ∷ ys) = go (same x y) refl (times-sorted x ys)
  where
    go : (b : Bool) → same x y ≡ b → times x (sort_by itself ys) ≡ more (elem x ys) 0 → times x (insert_by itself y (sort_by itself ys)) ≡ more (same x y || elem x ys) 0
    go true e i = rw e (let q = same-eq x y e in rw q (insert-once y (sort_by itself ys) (sort-ascending itself ys)))
    go false e i = rw e (insert-other x y (sort_by itself ys) e ∙ i)

-- and as many as there are different ones
pub below_out : (x y : Tag) (ys : List Tag) → order x y ≡ Ordering.lt → Ascending itself (y ∷ ys) → elem x (y ∷ ys) ≡ false
unfolding elem Ascending
below_out x y [] l h = rw (lt_same x y l)
below_out x y (z ∷ zs) l h = rw (lt_same x y l) (below_out x z zs (order_trans x y z l h.0) h.1)

more-suc : (b : Bool) (n : ℕ) → suc (more b n) ≡ more b (suc n)
unfolding more
more-suc true n = refl
more-suc false n = refl

insert-length : (x : Tag) (ys : List Tag) → Ascending itself ys → length (insert_by itself x ys) ≡ more (not (elem x ys)) (length ys)
unfolding insert_by elem more
insert-length x [] h = refl
insert-length x (y ∷ ys) h = go (order x y) refl (insert-length x ys (ascending-rest y ys h))
  where
    go : (o : Ordering) → order x y ≡ o → length (insert_by itself x ys) ≡ more (not (elem x ys)) (length ys) → length (insert_by itself x (y ∷ ys)) ≡ more (not (elem x (y ∷ ys))) (suc (length ys))
    go Ordering.lt e i = rw (e, insert_by) (rw (below_out x y ys e h))
    go Ordering.eq e i = rw (e, insert_by) (let q = order-eq x y e in rw q (rw (same_refl y)))
    go Ordering.gt e i = rw (e, insert_by) (rw (gt-same x y e) (ap suc i ∙ more-suc (not (elem x ys)) (length ys)))

or-again : (a b : Bool) → (a || b) ≡ (a || (a || b))
or-again true b = refl
or-again false b = refl

elem-insert : (x y : Tag) (zs : List Tag) → elem x (insert_by itself y zs) ≡ (same x y || elem x zs)
unfolding insert_by elem
elem-insert x y [] = refl
elem-insert x y (z ∷ zs) = go (order y z) refl (elem-insert x y zs)
  where
    go : (o : Ordering) → order y z ≡ o → elem x (insert_by itself y zs) ≡ (same x y || elem x zs) → elem x (insert_by itself y (z ∷ zs)) ≡ (same x y || elem x (z ∷ zs))
    go Ordering.lt e i = rw (e, insert_by)
    go Ordering.eq e i = rw (e, insert_by) (let q = order-eq y z e in rw (sym q) (or-again (same x y) (elem x zs)))
    go Ordering.gt e i = rw (e, insert_by) (ap (λ (b : Bool). same x z || b) i ∙ or_swap (same x z) (same x y) (elem x zs))

pub elem-sorted : (x : Tag) (ys : List Tag) → elem x (sort_by itself ys) ≡ elem x ys
unfolding sort_by elem
elem-sorted x [] = refl
elem-sorted x (y ∷ ys) = elem-insert x y (sort_by itself ys) ∙ ap (λ (b : Bool). same x y || b) (elem-sorted x ys)

pub sorted-length : (xs : List Tag) → length (sort_by itself xs) ≡ different xs
unfolding sort_by different
sorted-length [] = refl
sorted-length (x ∷ xs) =
    insert-length x (sort_by itself xs) (sort-ascending itself xs) ∙ ap (λ (b : Bool). more (not b) (length (sort_by itself xs))) (elem-sorted x xs) ∙ ap (more (not (elem x xs))) (sorted-length xs)
