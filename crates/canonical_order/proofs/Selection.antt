-- Choosing again and again the least above the last one chosen gives the insertion sort in which the first of equals stands.
-- Assumes nothing.
use mathlib.Core.Path.{subst, ◌≡◌, refl, sym, ap, ◌∙◌}
use mathlib.Core.Bool.{Bool, true, false, cond}
use mathlib.Core.List.{List, [], ◌∷◌}
use mathlib.Core.Option.{Option, none, some}
use Prim.Native.Nat.{ℕ, ◌≤◌, ◌<◌, compare, Ordering}
use native.Mathlib.Omega.{arith}
use lib.Dec.{ltb}
use borrow.Author.Tests.{ltb-true, ltb-false, lt-ltb, le-ltb}
use Rattle.standard.proofs.General.{compare-lt, compare-gt, compare_same}

module _ {A : Type 0} (key : A → ℕ) where
  unfoldable pub insert_n : A → List A → List A
  insert_n x [] = x ∷ []
  insert_n x (y ∷ ys) = elim (compare (key x) (key y)) [ Ordering.lt ↦ x ∷ y ∷ ys | Ordering.eq ↦ x ∷ ys | Ordering.gt ↦ y ∷ insert_n x ys ]

  unfoldable pub sort_n : List A → List A
  sort_n [] = []
  sort_n (x ∷ xs) = insert_n x (sort_n xs)

  -- those above k
  unfoldable pub above : ℕ → List A → List A
  above k [] = []
  above k (x ∷ xs) = cond (ltb k (key x)) (x ∷ above k xs) (above k xs)

  -- the lesser of two; of equals the first
  unfoldable pub lesser : Option A → Option A → Option A
  lesser none o = o
  lesser (some x) none = some x
  lesser (some x) (some y) = cond (ltb (key y) (key x)) (some y) (some x)

  -- the first of the least above k
  unfoldable pub least : ℕ → List A → Option A
  least k [] = none
  least k (x ∷ xs) = cond (ltb k (key x)) (lesser (some x) (least k xs)) (least k xs)

  unfoldable pub front : List A → Option A
  front [] = none
  front (x ∷ xs) = some x

  above_in : (k : ℕ) (x : A) (xs : List A) → ltb k (key x) ≡ true → above k (x ∷ xs) ≡ x ∷ above k xs
  unfolding above
  above_in k x xs e = rw e

  above-out : (k : ℕ) (x : A) (xs : List A) → ltb k (key x) ≡ false → above k (x ∷ xs) ≡ above k xs
  unfolding above
  above-out k x xs e = rw e

  -- the front of those above k, after an insertion
  front-insert : (k : ℕ) (x : A) (ys : List A) → front (above k (insert_n x ys)) ≡ cond (ltb k (key x)) (lesser (some x) (front (above k ys))) (front (above k ys))
  unfolding insert_n above front lesser
  front-insert k x [] = go (ltb k (key x))
    where
      go : (p : Bool) → front (cond p (x ∷ []) []) ≡ cond p (some x) none
      go true = refl
      go false = refl
  front-insert k x (y ∷ ys) = go (compare (key x) (key y)) refl (ltb k (key x)) refl (ltb k (key y)) refl (front-insert k x ys)
    where
      go : (o : Ordering) → compare (key x) (key y) ≡ o → (p : Bool) → ltb k (key x) ≡ p → (q : Bool) → ltb k (key y) ≡ q
          → front (above k (insert_n x ys)) ≡ cond (ltb k (key x)) (lesser (some x) (front (above k ys))) (front (above k ys))
          → front (above k (insert_n x (y ∷ ys))) ≡ cond (ltb k (key x)) (lesser (some x) (front (above k (y ∷ ys)))) (front (above k (y ∷ ys)))
      go Ordering.lt e true f true g ih =
          let h : ltb (key y) (key x) ≡ false = le-ltb (key y) (key x) (omega (arith, compare-lt (key x) (key y) e)) in
          rw (e, insert_n) (simp (f, g, h))
      go Ordering.lt e true f false g ih = absurd (omega (arith, compare-lt (key x) (key y) e, ltb-true k (key x) f, ltb-false k (key y) g))
      go Ordering.lt e false f q g ih = rw (e, insert_n) (simp f)
      go Ordering.eq e true f true g ih =
          let h : ltb (key y) (key x) ≡ false = le-ltb (key y) (key x) (omega (arith, compare_same (key x) (key y) e)) in
          rw (e, insert_n) (simp (f, g, h))
      go Ordering.eq e true f false g ih = absurd (omega (arith, compare_same (key x) (key y) e, ltb-true k (key x) f, ltb-false k (key y) g))
      go Ordering.eq e false f true g ih = absurd (omega (arith, compare_same (key x) (key y) e, ltb-false k (key x) f, ltb-true k (key y) g))
      go Ordering.eq e false f false g ih = rw (e, insert_n) (simp (f, g))
      go Ordering.gt e true f true g ih =
          let h : ltb (key y) (key x) ≡ true = lt-ltb (key y) (key x) (compare-gt (key x) (key y) e) in
          rw (e, insert_n) (simp (f, g, h))
      go Ordering.gt e false f true g ih = absurd (omega (arith, compare-gt (key x) (key y) e, ltb-false k (key x) f, ltb-true k (key y) g))
      go Ordering.gt e p f false g ih = rw (e, insert_n) (simp g ih)

  pub front-sort : (k : ℕ) (xs : List A) → front (above k (sort_n xs)) ≡ least k xs
  unfolding sort_n least above front
  front-sort k [] = refl
  front-sort k (x ∷ xs) = front-insert k x (sort_n xs) ∙ rw (front-sort k xs)

  -- each is above k
  unfoldable pub Over : ℕ → List A → Type 0
  Over k [] = Unit {0}
  Over k (x ∷ xs) = (k < key x) × Over k xs

  unfoldable pub Rising : List A → Type 0
  Rising [] = Unit {0}
  Rising (x ∷ xs) = Over (key x) xs × Rising xs

  over-less : (j k : ℕ) (xs : List A) → j ≤ k → Over k xs → Over j xs
  unfolding Over
  over-less j k [] h o = tt
  over-less j k (x ∷ xs) h o = (omega (arith, o.0), over-less j k xs h o.1)

  insert-over : (k : ℕ) (x : A) (ys : List A) → k < key x → Over k ys → Over k (insert_n x ys)
  unfolding insert_n Over
  insert-over k x [] h o = (h, tt)
  insert-over k x (y ∷ ys) h o = go (compare (key x) (key y)) refl (insert-over k x ys h o.1)
    where
      go : (q : Ordering) → compare (key x) (key y) ≡ q → Over k (insert_n x ys) → Over k (insert_n x (y ∷ ys))
      go Ordering.lt e i = rw (e, insert_n) (h, o)
      go Ordering.eq e i = rw (e, insert_n) (h, o.1)
      go Ordering.gt e i = rw (e, insert_n) (o.0, i)

  insert-rising : (x : A) (ys : List A) → Rising ys → Rising (insert_n x ys)
  unfolding insert_n Rising Over
  insert-rising x [] r = (tt, tt)
  insert-rising x (y ∷ ys) r = go (compare (key x) (key y)) refl (insert-rising x ys r.1)
    where
      go : (q : Ordering) → compare (key x) (key y) ≡ q → Rising (insert_n x ys) → Rising (insert_n x (y ∷ ys))
      go Ordering.lt e i =
          let h = compare-lt (key x) (key y) e in
          rw (e, insert_n) ((h, over-less (key x) (key y) ys (omega arith) r.0), r)
      go Ordering.eq e i = rw (e, insert_n) (over-less (key x) (key y) ys (omega (arith, compare_same (key x) (key y) e)) r.0, r.1)
      go Ordering.gt e i = rw (e, insert_n) (insert-over (key y) x ys (compare-gt (key x) (key y) e) r.0, i)

  pub sort-rising : (xs : List A) → Rising (sort_n xs)
  unfolding sort_n Rising
  sort-rising [] = tt
  sort-rising (x ∷ xs) = insert-rising x (sort_n xs) (sort-rising xs)

  pub sort-over : (k : ℕ) (xs : List A) → Over k xs → Over k (sort_n xs)
  unfolding sort_n Over
  sort-over k [] o = tt
  sort-over k (x ∷ xs) o = insert-over k x (sort_n xs) o.0 (sort-over k xs o.1)

  pub above-all : (k : ℕ) (xs : List A) → Over k xs → above k xs ≡ xs
  unfolding above Over
  above-all k [] o = refl
  above-all k (x ∷ xs) o = above_in k x xs (lt-ltb k (key x) o.0) ∙ ap (◌∷◌ x) (above-all k xs o.1)

  -- the least above k, then those above it
  above-next : (k : ℕ) (xs : List A) (u : A) → Rising xs → front (above k xs) ≡ some u → (k < key u) × (above k xs ≡ u ∷ above (key u) xs)
  unfolding above front Rising
  above-next k [] u r e = absurd (let z : ◌≡◌ {A = ℕ} 0 1 = cc in omega arith)
  above-next k (x ∷ xs) u r e = go (ltb k (key x)) refl (above-next k xs u r.1)
    where
      go : (p : Bool) → ltb k (key x) ≡ p → (front (above k xs) ≡ some u → (k < key u) × (above k xs ≡ u ∷ above (key u) xs)) → (k < key u) × (above k (x ∷ xs) ≡ u ∷ above (key u) (x ∷ xs))
      go true f ih =
          let a : some x ≡ some u = sym (ap front (above_in k x xs f)) ∙ e in
          let b : x ≡ u = cc in
          let h = ltb-true k (key x) f in
          let o : above k xs ≡ xs = above-all k xs (over-less k (key x) xs (omega arith) r.0) in
          let s : above (key x) (x ∷ xs) ≡ xs = above-out (key x) x xs (le-ltb (key x) (key x) (omega arith)) ∙ above-all (key x) xs r.0 in
          subst (λ (v : A). (k < key v) × (above k (x ∷ xs) ≡ v ∷ above (key v) (x ∷ xs))) b (h, above_in k x xs f ∙ ap (◌∷◌ x) (o ∙ sym s))
      go false f ih =
          let w = ih (sym (ap front (above-out k x xs f)) ∙ e) in
          let g : ltb (key u) (key x) ≡ false = le-ltb (key u) (key x) (omega (arith, w.0, ltb-false k (key x) f)) in
          (w.0, above-out k x xs f ∙ w.1 ∙ ap (◌∷◌ u) (sym (above-out (key u) x xs g)))

  front-none : (xs : List A) → front xs ≡ none → xs ≡ []
  unfolding front
  front-none [] e = refl
  front-none (x ∷ xs) e = cc

  -- one choice
  pub chosen : (k : ℕ) (xs : List A) (u : A) → least k xs ≡ some u → (k < key u) × (above k (sort_n xs) ≡ u ∷ above (key u) (sort_n xs))
  chosen k xs u e = above-next k (sort_n xs) u (sort-rising xs) (front-sort k xs ∙ e)

  pub chosen_none : (k : ℕ) (xs : List A) → least k xs ≡ none → above k (sort_n xs) ≡ []
  chosen_none k xs e = front-none (above k (sort_n xs)) (front-sort k xs ∙ e)

  -- the lesser of three
  pub lesser-assoc : (a b c : Option A) → lesser (lesser a b) c ≡ lesser a (lesser b c)
  unfolding lesser
  lesser-assoc none b c = refl
  lesser-assoc (some x) none c = refl
  lesser-assoc (some x) (some y) none = go (ltb (key y) (key x)) refl
    where
      go : (p : Bool) → ltb (key y) (key x) ≡ p → lesser (cond p (some y) (some x)) none ≡ cond p (some y) (some x)
      go true e = refl
      go false e = refl
  lesser-assoc (some x) (some y) (some z) = go (ltb (key y) (key x)) refl (ltb (key z) (key y)) refl
    where
      go : (p : Bool) → ltb (key y) (key x) ≡ p → (q : Bool) → ltb (key z) (key y) ≡ q
          → lesser (cond (ltb (key y) (key x)) (some y) (some x)) (some z) ≡ lesser (some x) (cond (ltb (key z) (key y)) (some z) (some y))
      go true e true f =
          let h = ltb-true (key y) (key x) e in
          let k = ltb-true (key z) (key y) f in
          simp (e, f, lt-ltb (key z) (key x) (omega arith))
      go true e false f = simp (e, f)
      go false e true f = simp (e, f)
      go false e false f =
          let h = ltb-false (key y) (key x) e in
          let k = ltb-false (key z) (key y) f in
          simp (e, f, le-ltb (key z) (key x) (omega arith))
