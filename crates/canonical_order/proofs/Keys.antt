-- Sorting by subtags is sorting by their numbers. Assumes nothing.
use mathlib.Core.Path.{◌≡◌, refl, ap, ap₂, ◌∙◌}
use mathlib.Core.List.{List, [], ◌∷◌, map}
use Prim.Native.Nat.{ℕ, compare, Ordering}
use Rattle.standard.specs.Tag.{Tag, order, insert_by, sort_by, head_tag, All}
use Rattle.subtag.specs.Subtags.{key_of, PlainTag}
use Rattle.standard.proofs.Tags.{sort-all}
use Rattle.subtag.proofs.Keys.{order-key}
use Rattle.canonical_order.proofs.Selection.{insert_n, sort_n}

-- Sorting by heads is sorting by their numbers.
abbrev pub number : List Tag → ℕ
number u = key_of (head_tag u)

abbrev pub Labelled : List Tag → Type 0
Labelled u = PlainTag (head_tag u)

insert-number : (x : List Tag) (ys : List (List Tag)) → Labelled x → All Labelled ys → insert_by head_tag x ys ≡ insert_n number x ys
unfolding insert_by insert_n All
insert-number x [] h a = refl
insert-number x (y ∷ ys) h a = go (compare (number x) (number y)) refl (order-key (head_tag x) (head_tag y) h a.0) (insert-number x ys h a.1)
  where
    go : (o : Ordering) → compare (number x) (number y) ≡ o → order (head_tag x) (head_tag y) ≡ compare (number x) (number y)
        → insert_by head_tag x ys ≡ insert_n number x ys → insert_by head_tag x (y ∷ ys) ≡ insert_n number x (y ∷ ys)
    go Ordering.lt e q i = rw (q ∙ e, insert_by) (rw (e, insert_n))
    go Ordering.eq e q i = rw (q ∙ e, insert_by) (rw (e, insert_n))
    go Ordering.gt e q i = rw (q ∙ e, insert_by) (rw (e, insert_n) (ap (◌∷◌ y) i))

pub sort-number : (us : List (List Tag)) → All Labelled us → sort_by head_tag us ≡ sort_n number us
unfolding sort_by sort_n All
sort-number [] a = refl
sort-number (u ∷ us) a = insert-number u (sort_by head_tag us) a.0 (sort-all head_tag Labelled us a.1) ∙ ap (insert_n number u) (sort-number us a.1)

-- a change that keeps the head goes before or after sorting
module _ (f : List Tag → List Tag) (keeps : (u : List Tag) → head_tag (f u) ≡ head_tag u) where
  insert-map : (x : List Tag) (ys : List (List Tag)) → insert_by head_tag (f x) (map f ys) ≡ map f (insert_by head_tag x ys)
  unfolding insert_by
  insert-map x [] = refl
  insert-map x (y ∷ ys) = go (order (head_tag x) (head_tag y)) refl (ap₂ order (keeps x) (keeps y)) (insert-map x ys)
    where
      go : (o : Ordering) → order (head_tag x) (head_tag y) ≡ o → order (head_tag (f x)) (head_tag (f y)) ≡ order (head_tag x) (head_tag y)
          → insert_by head_tag (f x) (map f ys) ≡ map f (insert_by head_tag x ys) → insert_by head_tag (f x) (map f (y ∷ ys)) ≡ map f (insert_by head_tag x (y ∷ ys))
      go Ordering.lt e q i = rw (q ∙ e, insert_by) (rw (e, insert_by))
      go Ordering.eq e q i = rw (q ∙ e, insert_by) (rw (e, insert_by))
      go Ordering.gt e q i = rw (q ∙ e, insert_by) (rw (e, insert_by) (ap (◌∷◌ (f y)) i))

  pub sort-map : (us : List (List Tag)) → sort_by head_tag (map f us) ≡ map f (sort_by head_tag us)
  unfolding sort_by
  sort-map [] = refl
  sort-map (u ∷ us) = ap (insert_by head_tag (f u)) (sort-map us) ∙ insert-map u (sort_by head_tag us)
