-- Laws of sorted tables: the order of lines, and what a probe of a sorted table shows.
-- Assumes nothing.
use mathlib.Core.Path.{◌≡◌, refl, sym, ap, ◌∙◌}
use mathlib.Core.Bool.{Bool, true, false, cond}
use mathlib.Core.List.{List, [], ◌∷◌, ◌++◌, reverse}
use mathlib.Core.Logic.{◌⊎◌, inl, inr}
use Prim.Native.Nat.{ℕ, zero, suc, ◌+◌, ◌-◌, ◌≤◌, ◌<◌, zero-le, suc-le-suc}
use native.Mathlib.Nat.{le_of_suc-le-suc, not-suc-le-zero, sub-zero, suc-sub-suc, le_antisymm}
use native.Mathlib.Numerals.{add-one}
use native.Mathlib.Omega.{arith}
use lib.Dec.{eqb, ltb}
use lib.ListN.{length, take, drop, get_or, drop_of_length-le, length-take, length-drop}
use lib.Seq.{drop-cons, drop-length, take_all}
use borrow.Author.Tests.{eq-eqb, ne_eqb, lt-ltb, le-ltb, ltb-true, ltb-false, eqb-true, not-true}
use Rattle.standard.specs.Tag.{onto}
use Rattle.standard.specs.Identifier.{parts}
use Rattle.standard.specs.Table.{Found as Located, located, located_from}
use Rattle.standard.proofs.General.{le-or-lt}
use Rattle.byte_string.specs.Strings.{end_of}
use Rattle.table.specs.Lines.{lines, starts, no_row, row_at, row_in}
use Rattle.table.specs.Search.{below, ascend_from, ascend, Opens, Sorted, row_from, not_below, LineStart, Landed, Span}
use Rattle.table.proofs.Lines.{located-cons, lines_at, row-start, row-hit}
use Rattle.byte_string.proofs.Ends.{ends, end-miss}
use Rattle.std.specs.List.{AllWithin, HoldsAt}
use Rattle.std.proofs.lemmas.List.{get_or-reverse, length-reverse, get_or-take, get_or-drop}

-- two numbers, compared
pub data Cmp (x y : ℕ) : Type 0 where
  lt : x < y → Cmp x y
  eq : x ≡ y → Cmp x y
  gt : y < x → Cmp x y

pub cmp : (x y : ℕ) → Cmp x y
cmp x y = go (ltb x y) (ltb y x) refl refl
  where
    go : (a b : Bool) → ltb x y ≡ a → ltb y x ≡ b → Cmp x y
    go true b e f = lt (ltb-true x y e)
    go false true e f = gt (ltb-true y x f)
    go false false e f = eq (omega (arith, ltb-false x y e, ltb-false y x f))

pub clash : {b : Bool} → b ≡ true → b ≡ false → ⊥
clash {b} e f = let z : ◌≡◌ {A = ℕ} 0 1 = cc in omega arith

-- the first of two tests passed
pub both : (b c : Bool) → cond b c false ≡ true → (b ≡ true) × (c ≡ true)
both true c e = (refl, e)
both false c e = absurd (clash e refl)

-- below, by the first bytes
pub below-lt : (x y : ℕ) (a b : List ℕ) → x < y → below (x ∷ a) (y ∷ b) ≡ true
unfolding below
below-lt x y a b h = rw (lt-ltb x y h)

pub below-gt : (x y : ℕ) (a b : List ℕ) → y < x → below (x ∷ a) (y ∷ b) ≡ false
unfolding below
below-gt x y a b h = rw (le-ltb x y (omega arith), lt-ltb y x h)

pub below_eq : (x y : ℕ) (a b : List ℕ) → x ≡ y → below (x ∷ a) (y ∷ b) ≡ below a b
unfolding below
below_eq x y a b h = rw (le-ltb x y (omega arith), le-ltb y x (omega arith))

pub below-nil : (a : List ℕ) → below a [] ≡ false
unfolding below
below-nil [] = refl
below-nil (x ∷ a) = refl

starts-eq : (x y : ℕ) (p l : List ℕ) → y ≡ x → starts (x ∷ p) (y ∷ l) ≡ starts p l
unfolding starts
starts-eq x y p l h = rw (eq-eqb x y (sym h))

starts-ne : (x y : ℕ) (p l : List ℕ) → (y ≡ x → ⊥) → starts (x ∷ p) (y ∷ l) ≡ false
unfolding starts
starts-ne x y p l h = rw (ne_eqb x y (λ q. h (sym q)))

pub below-trans : (a b c : List ℕ) → below a b ≡ true → below b c ≡ true → below a c ≡ true
unfolding below
below-trans a [] c e f = absurd (clash e (below-nil a))
below-trans a (y ∷ b) [] e f = absurd (clash f (below-nil (y ∷ b)))
below-trans [] (y ∷ b) (z ∷ c) e f = refl
below-trans (x ∷ a) (y ∷ b) (z ∷ c) e f = go (below-trans a b c) (cmp x y) (cmp y z)
  where
    go : (below a b ≡ true → below b c ≡ true → below a c ≡ true) → Cmp x y → Cmp y z → below (x ∷ a) (z ∷ c) ≡ true
    go i (gt h) k = absurd (clash e (below-gt x y a b h))
    go i (lt h) (gt k) = absurd (clash f (below-gt y z b c k))
    go i (eq h) (gt k) = absurd (clash f (below-gt y z b c k))
    go i (lt h) (lt k) = below-lt x z a c (omega arith)
    go i (lt h) (eq k) = below-lt x z a c (omega arith)
    go i (eq h) (lt k) = below-lt x z a c (omega arith)
    go i (eq h) (eq k) = below_eq x z a c (h ∙ k) ∙ i (sym (below_eq x y a b h) ∙ e) (sym (below_eq y z b c k) ∙ f)

-- a line below p does not begin with p
pub below-starts : (l p : List ℕ) → below l p ≡ true → starts p l ≡ false
unfolding starts
below-starts l [] e = absurd (clash e (below-nil l))
below-starts [] (x ∷ p) e = refl
below-starts (y ∷ l) (x ∷ p) e = go (below-starts l p) (cmp y x)
  where
    go : (below l p ≡ true → starts p l ≡ false) → Cmp y x → starts (x ∷ p) (y ∷ l) ≡ false
    go i (lt h) = starts-ne x y p l (λ q. omega arith)
    go i (gt h) = starts-ne x y p l (λ q. omega arith)
    go i (eq h) = starts-eq x y p l h ∙ i (sym (below_eq y x l p h) ∙ e)

-- past a line that is not below p and does not begin with p, none begins with p
pub past : (p l m : List ℕ) → below l p ≡ false → starts p l ≡ false → below l m ≡ true → (below m p ≡ false) × (starts p m ≡ false)
unfolding starts below
past [] l m e f g = absurd (clash refl f)
past (x ∷ p) [] m e f g = absurd (clash refl e)
past (x ∷ p) (y ∷ l) [] e f g = absurd (clash g refl)
past (x ∷ p) (y ∷ l) (z ∷ m) e f g = go (past p l m) (cmp x y) (cmp y z)
  where
    more : x < z → (below (z ∷ m) (x ∷ p) ≡ false) × (starts (x ∷ p) (z ∷ m) ≡ false)
    more h = (below-gt z x m p h, starts-ne x z p m (λ q. omega arith))

    go : (below l p ≡ false → starts p l ≡ false → below l m ≡ true → (below m p ≡ false) × (starts p m ≡ false))
        → Cmp x y → Cmp y z → (below (z ∷ m) (x ∷ p) ≡ false) × (starts (x ∷ p) (z ∷ m) ≡ false)
    go r (gt h) k = absurd (clash (below-lt y x l p h) e)
    go r (lt h) (gt k) = absurd (clash g (below-gt y z l m k))
    go r (eq h) (gt k) = absurd (clash g (below-gt y z l m k))
    go r (lt h) (lt k) = more (omega arith)
    go r (lt h) (eq k) = more (omega arith)
    go r (eq h) (lt k) = more (omega arith)
    go r (eq h) (eq k) =
        let i = r (sym (below_eq y x l p (sym h)) ∙ e) (sym (starts-eq x y p l (sym h)) ∙ f) (sym (below_eq y z l m k) ∙ g) in
        (below_eq z x m p (sym (h ∙ k)) ∙ i.0, starts-eq x z p m (sym (h ∙ k)) ∙ i.1)

-- lines that ascend
up_next : (l : List ℕ) (ls : List (List ℕ)) → ascend_from l ls ≡ true → ascend ls ≡ true
unfolding ascend_from ascend
up_next l [] e = refl
up_next l (m ∷ ls) e = (both (below l m) (ascend_from m ls) e).1

-- the lines before one that is below p are below p
down : (p x : List ℕ) (xs : List (List ℕ)) (l : List ℕ) (ls : List (List ℕ))
    → ascend_from x (xs ++ (l ∷ ls)) ≡ true → below l p ≡ true → below x p ≡ true
unfolding ascend_from
down p x [] l ls e f = below-trans x l p (both (below x l) (ascend_from l ls) e).0 f
down p x (y ∷ xs) l ls e f =
    let b = both (below x y) (ascend_from y (xs ++ (l ∷ ls))) e in
    below-trans x y p b.0 (down p y xs l ls b.1 f)

-- up to a line that is below the key and a tab, no line begins with them
pub skip : (key : List ℕ) (at : ℕ) (xs : List (List ℕ)) (l : List ℕ) (ls : List (List ℕ)) → ascend (xs ++ (l ∷ ls)) ≡ true → below l (key ++ (9 ∷ [])) ≡ true
    → (located_from at (xs ++ (l ∷ ls)) key ≡ located_from (at + parts xs + suc (length l)) ls key) × (ascend ls ≡ true)
unfolding ascend parts
skip key at [] l ls e f =
    let z : at + suc (length l) ≡ at + 0 + suc (length l) = omega arith in
    (located-cons at l ls key ∙ rw (below-starts l (key ++ (9 ∷ [])) f, z), up_next l ls e)
skip key at (x ∷ xs) l ls e f =
    let i = skip key (at + suc (length x)) xs l ls (up_next x (xs ++ (l ∷ ls)) e) f in
    let z : at + suc (length x) + parts xs + suc (length l) ≡ at + (suc (length x) + parts xs) + suc (length l) = omega arith in
    (located-cons at x (xs ++ (l ∷ ls)) key ∙ rw (below-starts x (key ++ (9 ∷ [])) (down (key ++ (9 ∷ [])) x xs l ls e f)) (i.0 ∙ ap (λ (n : ℕ). located_from n ls key) z), i.1)

-- from a line that is neither below the key and a tab nor begins with them, none begins with them
pub none_after : (key : List ℕ) (at : ℕ) (l : List ℕ) (ls : List (List ℕ)) → ascend_from l ls ≡ true → below l (key ++ (9 ∷ [])) ≡ false → starts (key ++ (9 ∷ [])) l ≡ false
    → located_from at (l ∷ ls) key ≡ no_row
unfolding ascend_from located_from
none_after key at l [] u e f = located-cons at l [] key ∙ rw f
none_after key at l (m ∷ ls) u e f =
    let b = both (below l m) (ascend_from m ls) u in
    let i = past (key ++ (9 ∷ [])) l m e f b.0 in
    located-cons at l (m ∷ ls) key ∙ rw f (none_after key (at + suc (length l)) m ls b.1 i.0 i.1)

-- a table is cut where a line starts
on-first : (x : ℕ) (y : ℕ) (s : List ℕ) (b : Bool) (ls ms : List (List ℕ))
    → onto x (cond b ([] ∷ ls) (onto y ls) ++ ms) ≡ onto x (cond b ([] ∷ ls) (onto y ls)) ++ ms
unfolding onto
on-first x y s true ls ms = refl
on-first x y s false [] ms = refl
on-first x y s false (l ∷ ls) ms = refl

cut-first : (t : List ℕ) (m : ℕ) → m ≤ length t → Opens t m → lines t ≡ lines (take m t) ++ lines (drop m t)
unfolding lines
cut-first t zero h o = refl
cut-first [] (suc m) h o = absurd (not-suc-le-zero h)
cut-first (x ∷ t) (suc zero) h o = rw (eq-eqb x 10 o)
cut-first (x ∷ []) (suc (suc m)) h o = absurd (not-suc-le-zero (le_of_suc-le-suc h))
cut-first (x ∷ y ∷ t) (suc (suc m)) h o = go (cut-first (y ∷ t) (suc m) (le_of_suc-le-suc h) o) (eqb x 10)
  where
    go : lines (y ∷ t) ≡ lines (y ∷ take m t) ++ lines (drop m t) → (b : Bool) → cond b ([] ∷ lines (y ∷ t)) (onto x (lines (y ∷ t)))
        ≡ cond b ([] ∷ lines (y ∷ take m t)) (onto x (lines (y ∷ take m t))) ++ lines (drop m t)
    go i true = ap (λ (z : List (List ℕ)). [] ∷ z) i
    go i false = ap (onto x) i ∙ on-first x y (take m t) (eqb y 10) (lines (take m t)) (lines (drop m t))

pub cut : (t : List ℕ) (lo m : ℕ) → lo ≤ m → m ≤ length t → Opens t m → lines (drop lo t) ≡ lines (take (m - lo) (drop lo t)) ++ lines (drop m t)
cut t zero m g h o = rw sub-zero (cut-first t m h o)
cut t (suc lo) zero g h o = absurd (not-suc-le-zero g)
cut [] (suc lo) (suc m) g h o = absurd (not-suc-le-zero h)
cut (x ∷ t) (suc lo) (suc zero) g h o = rw suc-sub-suc (cut t lo zero (le_of_suc-le-suc g) zero-le refl)
cut (x ∷ t) (suc lo) (suc (suc m)) g h o = rw suc-sub-suc (cut t lo (suc m) (le_of_suc-le-suc g) (le_of_suc-le-suc h) o)

-- whole lines have their bytes and a 0A each
parts-onto : (x : ℕ) (ls : List (List ℕ)) (n : ℕ) → parts ls ≡ suc n → parts (onto x ls) ≡ suc (suc n)
unfolding parts onto
parts-onto x [] n e = absurd (omega arith)
parts-onto x (l ∷ ls) n e = omega arith

size-first : (t : List ℕ) (m : ℕ) → m ≤ length t → Opens t m → parts (lines (take m t)) ≡ m
unfolding lines parts
size-first t zero h o = refl
size-first [] (suc m) h o = absurd (not-suc-le-zero h)
size-first (x ∷ t) (suc zero) h o = rw (eq-eqb x 10 o)
size-first (x ∷ []) (suc (suc m)) h o = absurd (not-suc-le-zero (le_of_suc-le-suc h))
size-first (x ∷ y ∷ t) (suc (suc m)) h o = go (size-first (y ∷ t) (suc m) (le_of_suc-le-suc h) o) (eqb x 10)
  where
    go : parts (lines (y ∷ take m t)) ≡ suc m → (b : Bool) → parts (cond b ([] ∷ lines (y ∷ take m t)) (onto x (lines (y ∷ take m t)))) ≡ suc (suc m)
    go i true = omega arith
    go i false = parts-onto x (lines (y ∷ take m t)) m i

pub cut-size : (t : List ℕ) (lo m : ℕ) → lo ≤ m → m ≤ length t → Opens t m → parts (lines (take (m - lo) (drop lo t))) ≡ m - lo
unfolding parts lines
cut-size t zero m g h o = rw sub-zero (size-first t m h o)
cut-size t (suc lo) zero g h o = absurd (not-suc-le-zero g)
cut-size [] (suc lo) (suc m) g h o = absurd (not-suc-le-zero h)
cut-size (x ∷ t) (suc lo) (suc zero) g h o = rw suc-sub-suc (cut-size t lo zero (le_of_suc-le-suc g) zero-le refl)
cut-size (x ∷ t) (suc lo) (suc (suc m)) g h o = rw suc-sub-suc (cut-size t lo (suc m) (le_of_suc-le-suc g) (le_of_suc-le-suc h) o)

-- a line against a key and a tab, from i on
unfoldable pub below_from : List ℕ → List ℕ → ℕ → Bool
below_from l key i = below (drop i l) (drop i key ++ (9 ∷ []))

pub below-start : (l key : List ℕ) → below l (key ++ (9 ∷ [])) ≡ below_from l key 0
unfolding below_from
below-start l key = refl

pub below-short : (l key : List ℕ) (i : ℕ) → i < length key → length l ≤ i → below_from l key i ≡ true
unfolding below_from below
below-short l key i h k = rw (drop-cons key i 0 h, drop_of_length-le l k)

below_at : (l key : List ℕ) (i : ℕ) → i < length key → i < length l
    → below_from l key i ≡ below (get_or l i 0 ∷ drop (suc i) l) (get_or key i 0 ∷ (drop (suc i) key ++ (9 ∷ [])))
unfolding below_from
below_at l key i h k = rw (drop-cons key i 0 h, drop-cons l i 0 k)

pub below_less : (l key : List ℕ) (i : ℕ) → i < length key → i < length l → get_or l i 0 < get_or key i 0 → below_from l key i ≡ true
below_less l key i h k e = below_at l key i h k ∙ below-lt _ _ _ _ e

pub below_more : (l key : List ℕ) (i : ℕ) → i < length key → i < length l → get_or key i 0 < get_or l i 0 → below_from l key i ≡ false
below_more l key i h k e = below_at l key i h k ∙ below-gt _ _ _ _ e

pub below-same : (l key : List ℕ) (i : ℕ) → i < length key → i < length l → get_or key i 0 ≤ get_or l i 0 → get_or l i 0 ≤ get_or key i 0
    → below_from l key i ≡ below_from l key (i + 1)
unfolding below_from
below-same l key i h k e f = below_at l key i h k ∙ rw add-one (below_eq _ _ _ _ (le_antisymm f e))

pub below_end : (l key : List ℕ) (i : ℕ) → length key ≤ i → length l ≤ i → below_from l key i ≡ true
unfolding below_from below
below_end l key i h k = rw (drop_of_length-le key h, drop_of_length-le l k)

pub below-tab : (l key : List ℕ) (i : ℕ) → length key ≤ i → i ≤ length key → length key < length l → below_from l key i ≡ ltb (get_or l (length key) 0) 9
unfolding below_from below
below-tab l key i h g k =
    rw (le_antisymm g h, drop-length key, drop-cons l (length key) 0 k) (go (ltb (get_or l (length key) 0) 9) (ltb 9 (get_or l (length key) 0)))
  where
    go : (a b : Bool) → cond a true (cond b false false) ≡ a
    go true b = refl
    go false true = refl
    go false false = refl

-- where lines start and end
pub opens-after : (t : List ℕ) (m : ℕ) → 0 < m → get_or t (m - 1) 0 ≡ 10 → Opens t m
opens-after t zero h e = absurd (not-suc-le-zero h)
opens-after t (suc m) h e = let z : suc m - 1 ≡ m = omega arith in rw z at e

pub opens_before : (t : List ℕ) (m : ℕ) → 0 < m → Opens t m → get_or t (m - 1) 0 ≡ 10
opens_before t zero h e = absurd (not-suc-le-zero h)
opens_before t (suc m) h e = let z : suc m - 1 ≡ m = omega arith in rw z e

pub end-in : (t : List ℕ) (i hi : ℕ) → i < hi → hi ≤ length t → Opens t hi → end_of 10 t i < hi
unfolding end_of
end-in t i zero g h o = absurd (not-suc-le-zero g)
end-in [] i (suc hi) g h o = absurd (not-suc-le-zero h)
end-in (x ∷ t) zero (suc zero) g h o = rw (eq-eqb x 10 o) g
end-in (x ∷ t) zero (suc (suc hi)) g h o = go (end-in t zero (suc hi) (suc-le-suc zero-le) (le_of_suc-le-suc h) o) (eqb x 10)
  where
    go : end_of 10 t zero < suc hi → (b : Bool) → cond b zero (suc (end_of 10 t zero)) < suc (suc hi)
    go i true = suc-le-suc zero-le
    go i false = suc-le-suc i
end-in (x ∷ t) (suc i) (suc zero) g h o = absurd (not-suc-le-zero (le_of_suc-le-suc g))
end-in (x ∷ t) (suc i) (suc (suc hi)) g h o = suc-le-suc (end-in t i (suc hi) (le_of_suc-le-suc g) (le_of_suc-le-suc h) o)

pub end-byte : (t : List ℕ) (i : ℕ) → end_of 10 t i < length t → get_or t (end_of 10 t i) 0 ≡ 10
unfolding end_of
end-byte [] i h = absurd (not-suc-le-zero h)
end-byte (x ∷ t) zero h = go (end-byte t zero) (eqb x 10) refl h
  where
    go : (end_of 10 t zero < length t → get_or t (end_of 10 t zero) 0 ≡ 10) → (b : Bool) → eqb x 10 ≡ b
        → cond b zero (suc (end_of 10 t zero)) < suc (length t) → get_or (x ∷ t) (cond b zero (suc (end_of 10 t zero))) 0 ≡ 10
    go i true e h = eqb-true x 10 e
    go i false e h = i (le_of_suc-le-suc h)
end-byte (x ∷ t) (suc i) h = end-byte t i (le_of_suc-le-suc h)

pub end-opens : (t : List ℕ) (i : ℕ) → end_of 10 t i < length t → Opens t (end_of 10 t i + 1)
end-opens t i h = rw add-one (end-byte t i h)

-- a probe: the line at m is below the key and a tab, or not
module _ (t key : List ℕ) (lo hi from m e : ℕ) (s : Span t key lo hi) (within : hi ≤ length t) (ls : LineStart t lo from m) (in_span : from < hi) (q : e ≡ end_of 10 t m) where
  line_at : lines (drop m t) ≡ take (e - m) (drop m t) ∷ lines (drop (e + 1) t)
  line_at = rw q (lines_at t m (omega (arith, ls.high)))

  pub probe-below : below (take (e - m) (drop m t)) (key ++ (9 ∷ [])) ≡ true → Span t key (e + 1) hi
  unfolding row_from
  probe-below b =
      let o = ls.opens s.from in
      let split = cut t lo m ls.low (omega (arith, ls.high)) o ∙ ap (λ (z : List (List ℕ)). lines (take (m - lo) (drop lo t)) ++ z) line_at in
      let k = skip key lo (lines (take (m - lo) (drop lo t))) (take (e - m) (drop m t)) (lines (drop (e + 1) t)) (sym (ap ascend split) ∙ s.up) b in
      let w = ends 10 t m e q (omega (arith, ls.high)) in
      let n : length (take (e - m) (drop m t)) ≡ e - m = simp (length-take, length-drop) (omega arith) in
      let z : lo + parts (lines (take (m - lo) (drop lo t))) + suc (length (take (e - m) (drop m t))) ≡ e + 1 = omega (arith, cut-size t lo m ls.low (omega (arith, ls.high)) o, ls.low) in
      let inside : e < hi = rw q (end-in t m hi (omega (arith, ls.high)) within s.to) in
      record {
        low = omega arith;
        from = rw q (end-opens t m (omega arith));
        to = s.to;
        seen = s.seen ∙ ap (λ (ls : List (List ℕ)). located_from lo ls key) split ∙ k.0 ∙ ap (λ (n : ℕ). located_from n (lines (drop (e + 1) t)) key) z;
        up = k.1;
        rest = s.rest;
      }

  pub probe-above : below (take (e - m) (drop m t)) (key ++ (9 ∷ [])) ≡ false → Span t key lo m
  unfolding not_below
  probe-above b = record {
    low = ls.low;
    from = s.from;
    to = ls.opens s.from;
    seen = s.seen;
    up = s.up;
    rest = rw (line_at, b);
  }

pub span-all : (t key : List ℕ) → Sorted t → Span t key 0 (length t)
unfolding not_below lines
span-all t key s = record {
  low = zero-le;
  from = refl;
  to = s.ended;
  seen = row-start t key;
  up = s.up;
  rest = rw drop-length;
}

-- the loop is done
pub landed : (t key : List ℕ) (lo hi : ℕ) → Span t key lo hi → hi ≤ lo → Landed t key lo
landed t key lo hi s h =
    let z : hi ≡ lo = le_antisymm h s.low in
    record { seen = s.seen; up = s.up; rest = rw z at s.rest }

-- the line at i has the row, or no line has
pub landed-own : (t key : List ℕ) (i e : ℕ) (f : Located) → Landed t key i → e ≡ end_of 10 t i → i < length t → f ≡ row_in t key i e → f ≡ located t key
unfolding row_from ascend not_below row_in
landed-own t key i e f d q h r = r ∙ go (starts (key ++ (9 ∷ [])) (take (e - i) (drop i t))) refl
  where
    p : List ℕ
    p = key ++ (9 ∷ [])

    a : lines (drop i t) ≡ take (e - i) (drop i t) ∷ lines (drop (e + 1) t)
    a = rw q (lines_at t i h)

    go : (b : Bool) → starts (key ++ (9 ∷ [])) (take (e - i) (drop i t)) ≡ b → cond b (row_at (i + length key + 1) (e - (i + length key + 1))) no_row ≡ located t key
    go true s = sym (d.seen ∙ row-hit t key i e q h s)
    go false s = sym (d.seen ∙ ap (λ (ls : List (List ℕ)). located_from i ls key) a ∙ none_after key i _ _ (sym (ap ascend a) ∙ d.up) (not-true _ (sym (ap (not_below (key ++ (9 ∷ []))) a) ∙ d.rest)) s)

-- The start of a line, sought back from `from`: where a byte is 0A, and none behind it is.
abbrev pub Newline : ℕ → Type 0
Newline b = b ≡ 10

abbrev pub Other : ℕ → Type 0
Other b = ¬ (b ≡ 10)

module _ (t : List ℕ) (lo from : ℕ) (g : lo ≤ from) (h : from ≤ length t) where
  back_length : length (take (from - lo) (drop lo t)) ≡ from - lo
  back_length = simp (length-take, length-drop) (omega arith)

  -- the byte so far back
  back_at : (k : ℕ) → k < from - lo → get_or (reverse (take (from - lo) (drop lo t))) k 0 ≡ get_or t (from - 1 - k) 0
  back_at k b =
      let n = back_length in
      let z : lo + (from - lo - 1 - k) ≡ from - 1 - k = omega arith in
      get_or-reverse (take (from - lo) (drop lo t)) k 0 (omega arith) ∙ ap (λ (m : ℕ). get_or (take (from - lo) (drop lo t)) (m - 1 - k) 0) n
      ∙ get_or-take (from - lo) (drop lo t) (from - lo - 1 - k) 0 (omega arith) ∙ get_or-drop lo t (from - lo - 1 - k) 0 ∙ ap (λ (j : ℕ). get_or t j 0) z

  -- no line ends on the way back
  end-back : (n : ℕ) → n ≤ from - lo → ((k : ℕ) → k < n → Other (get_or t (from - 1 - k) 0)) → end_of 10 t (from - n) ≡ end_of 10 t from
  end-back zero b f = let z : from - 0 ≡ from = omega arith in ap (end_of 10 t) z
  end-back (suc n) b f =
      let z : from - suc n + 1 ≡ from - n = omega arith in
      let y : from - 1 - n ≡ from - suc n = omega arith in
      end-miss 10 t (from - suc n) (omega arith) (rw y at (f n (omega arith))) ∙ ap (end_of 10 t) z ∙ end-back n (omega arith) (λ k c. f k (omega arith))

  pub start-found : (k : ℕ) → k < length (reverse (take (from - lo) (drop lo t))) → HoldsAt Newline (reverse (take (from - lo) (drop lo t))) k
      → AllWithin Other (reverse (take (from - lo) (drop lo t))) 0 k → LineStart t lo from (from - k)
  start-found k b y n =
      let l = back_length in
      let w = length-reverse (take (from - lo) (drop lo t)) in
      let z : from - k - 1 ≡ from - 1 - k = omega arith in
      record {
        low = omega arith;
        high = omega arith;
        opens = λ o. opens-after t (from - k) (omega arith) (ap (λ (j : ℕ). get_or t j 0) z ∙ sym (back_at k (omega arith)) ∙ y 0);
        ends = end-back k (omega arith) (λ j c. rw (back_at j (omega arith)) at (n j 0 zero-le c));
      }

  pub start_none : AllWithin Other (reverse (take (from - lo) (drop lo t))) 0 (length (reverse (take (from - lo) (drop lo t)))) → LineStart t lo from lo
  start_none n =
      let l = back_length in
      let w = length-reverse (take (from - lo) (drop lo t)) in
      let z : from - (from - lo) ≡ lo = omega arith in
      record {
        low = omega arith;
        high = g;
        opens = λ o. o;
        ends = ap (end_of 10 t) (sym z) ∙ end-back (from - lo) (omega arith) (λ j c. rw (back_at j c) at (n j 0 zero-le (omega arith)));
      }
