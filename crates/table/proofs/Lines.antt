-- Laws of lines by index, and of the lookup of one row from a line on.
-- Assumes nothing.
use mathlib.Core.Path.{◌≡◌, refl, sym, ap, ◌∙◌}
use mathlib.Core.Bool.{Bool, true, false, cond}
use mathlib.Core.List.{List, [], ◌∷◌, ◌++◌}
use mathlib.Core.Option.{Option as Maybe, none, some}
use mathlib.Core.Logic.{⊎_elim}
use Rattle.standard.proofs.General.{le-or-lt, clash}
use Prim.Native.Nat.{ℕ, zero, suc, ◌+◌, ◌-◌, ◌≤◌, ◌<◌, zero-le, suc-le-suc}
use native.Mathlib.Nat.{le_of_suc-le-suc, not-suc-le-zero, sub-zero, suc-sub-suc, zero-sub}
use native.Mathlib.Numerals.{add-one}
use native.Mathlib.Omega.{arith}
use lib.Dec.{eqb}
use lib.Pointwise.{pointwise}
use lib.ListN.{length, take, drop, get_or, length-append, length-take, length-drop, drop_of_length-le}
use lib.Seq.{drop-cons, drop-drop, take-nil}
use borrow.Author.Tests.{ne_eqb, eq-eqb}
use Rattle.std.specs.Prelude.{nat_eq, ◌&&◌, Option, Some, None}
use Rattle.std.proofs.lemmas.Bool.Decides.{nat_tests}
use Rattle.std.specs.declared.ops.Range.{Range}
use Rattle.standard.specs.Tag.{Tag, onto}
use Rattle.standard.specs.Table.{Found as Located, pieces, after, rows, lookup, located_from, located}
use Rattle.byte_string.specs.Strings.{end_of}
use Rattle.table.specs.Lines.{lines, starts, found_is, no_row, row_at, row_in, value_of, value_if, value_or, is_found}
use Rattle.table.specs.Search.{row_from}
use Rattle.byte_string.proofs.Ends.{end_ge, ends}
use Rattle.standard.proofs.Table.{pieces-some}

pub cond_same : {A : Type 0} (b : Bool) (a : A) → cond b a a ≡ a
cond_same true a = refl
cond_same false a = refl

-- the lines from i on: the one that starts there, and those from past its end on
first-line : (x : ℕ) (t : List ℕ) (b : Bool)
    → cond b ([] ∷ lines t) (onto x (lines t)) ≡ take (cond b zero (suc (end_of 10 t zero))) (x ∷ t) ∷ lines (drop (suc (cond b zero (suc (end_of 10 t zero)))) (x ∷ t))
unfolding end_of lines onto
first-line x [] true = refl
first-line x [] false = refl
first-line x (y ∷ t) true = refl
first-line x (y ∷ t) false = ap (onto x) (first-line y t (eqb y 10))

lines-at' : (t : List ℕ) (i : ℕ) → i < length t → lines (drop i t) ≡ take (end_of 10 t i - i) (drop i t) ∷ lines (drop (suc (end_of 10 t i)) t)
unfolding end_of lines
lines-at' [] i h = absurd (not-suc-le-zero h)
lines-at' (x ∷ t) zero h = rw sub-zero (first-line x t (eqb x 10))
lines-at' (x ∷ t) (suc i) h = rw suc-sub-suc (lines-at' t i (le_of_suc-le-suc h))

pub lines_at : (t : List ℕ) (i : ℕ) → i < length t → lines (drop i t) ≡ take (end_of 10 t i - i) (drop i t) ∷ lines (drop (end_of 10 t i + 1) t)
lines_at t i h = rw add-one (lines-at' t i h)

-- a line that is shorter than p does not begin with p
pub starts-front : (p q : List ℕ) → starts p (p ++ q) ≡ true
unfolding starts
starts-front [] q = refl
starts-front (x ∷ p) q = rw (eq-eqb x x refl) (starts-front p q)

pub starts-short : (p l : List ℕ) → length l < length p → starts p l ≡ false
unfolding starts
starts-short [] l h = absurd (not-suc-le-zero h)
starts-short (x ∷ p) [] h = refl
starts-short (x ∷ p) (y ∷ l) h = rw (starts-short p l (le_of_suc-le-suc h)) (cond_same (eqb x y) false)

-- a line that begins with p is as long as p
pub starts-long : (p l : List ℕ) → starts p l ≡ true → length p ≤ length l
unfolding starts
starts-long [] l e = zero-le
starts-long (x ∷ p) [] e = let z : ◌≡◌ {A = ℕ} 0 1 = cc in omega arith
starts-long (x ∷ p) (y ∷ l) e = suc-le-suc (starts-long p l (inner (eqb x y) (starts p l) e))
  where
    inner : (b c : Bool) → cond b c false ≡ true → c ≡ true
    inner true c e = e
    inner false true e = refl
    inner false false e = e

-- a line that begins with the key, as std's slices have it, and what is left of it
equal-step : (x y : ℕ) (b c : Bool) → cond (eqb x y) (cond b c false) false ≡ cond (nat_eq y x && b) c false
equal-step x y b c = grind (arith, nat_tests)

pub starts-parts : (key q l : List ℕ) → starts (key ++ q) l ≡ cond (pointwise nat_eq (take (length key) l) key) (starts q (drop (length key) l)) false
unfolding starts
starts-parts [] q l = refl
starts-parts (x ∷ key) q [] = refl
starts-parts (x ∷ key) q (y ∷ l) =
    ap (λ (b : Bool). cond (eqb x y) b false) (starts-parts key q l) ∙ equal-step x y (pointwise nat_eq (take (length key) l) key) (starts q (drop (length key) l))

-- a line of some length, by the byte behind as many as the key has
module _ (key l : List ℕ) where
  pub key-short : length l ≤ length key → false ≡ starts (key ++ (9 ∷ [])) l
  key-short h = sym (starts-short (key ++ (9 ∷ [])) l (simp length-append (omega arith)))

  module _ (h : length key < length l) where
    tab-behind : starts (9 ∷ []) (drop (length key) l) ≡ cond (eqb 9 (get_or l (length key) 0)) true false
    unfolding starts
    tab-behind = rw (drop-cons l (length key) 0 h)

    pub key-other : (get_or l (length key) 0 ≡ 9 → ⊥) → false ≡ starts (key ++ (9 ∷ [])) l
    key-other n = sym (starts-parts key (9 ∷ []) l ∙ rw (tab-behind, ne_eqb 9 (get_or l (length key) 0) (λ e. n (sym e))) (cond_same (pointwise nat_eq (take (length key) l) key) false))

    pub key-there : get_or l (length key) 0 ≡ 9 → pointwise nat_eq (take (length key) l) key ≡ starts (key ++ (9 ∷ [])) l
    key-there e = sym (starts-parts key (9 ∷ []) l ∙ rw (tab-behind, eq-eqb 9 (get_or l (length key) 0) (sym e)) (itself (pointwise nat_eq (take (length key) l) key)))
      where
        itself : (b : Bool) → cond b true false ≡ b
        itself true = refl
        itself false = refl

-- The standard's lookup, line by line.
pub after-starts : (p l : List ℕ) → after p l ≡ cond (starts p l) (some (drop (length p) l)) none
unfolding after starts
after-starts [] l = refl
after-starts (x ∷ p) [] = refl
after-starts (x ∷ p) (y ∷ l) = go (eqb x y) refl (after-starts p l)
  where
    go : (b : Bool) → eqb x y ≡ b → after p l ≡ cond (starts p l) (some (drop (length p) l)) none
        → after (x ∷ p) (y ∷ l) ≡ cond (cond b (starts p l) false) (some (drop (length p) l)) none
    go true e h = rw (e, after) h
    go false e h = rw (e, after)

pub located-cons : (at : ℕ) (l : Tag) (ls : List Tag) (key : List ℕ)
    → located_from at (l ∷ ls) key ≡ cond (starts (key ++ (9 ∷ [])) l) (row_at (at + suc (length key)) (length (drop (length (key ++ (9 ∷ []))) l))) (located_from (at + suc (length l)) ls key)
unfolding located_from
located-cons at l ls key = go (starts (key ++ (9 ∷ [])) l) (after-starts (key ++ (9 ∷ [])) l)
  where
    go : (b : Bool) → after (key ++ (9 ∷ [])) l ≡ cond b (some (drop (length (key ++ (9 ∷ []))) l)) none
        → located_from at (l ∷ ls) key ≡ cond b (row_at (at + suc (length key)) (length (drop (length (key ++ (9 ∷ []))) l))) (located_from (at + suc (length l)) ls key)
    go true e = rw (e, located_from)
    go false e = rw (e, located_from)

-- the lines are the pieces, without an empty last one
abbrev pub one : List ℕ → List (List ℕ)
one [] = []
one (x ∷ l) = (x ∷ l) ∷ []

unfoldable pub trimmed : List (List ℕ) → List (List ℕ)
trimmed [] = []
trimmed (l ∷ []) = one l
trimmed (l ∷ m ∷ ls) = l ∷ trimmed (m ∷ ls)

pub lines-trimmed : (t : List ℕ) → lines t ≡ trimmed (pieces 10 t)
unfolding lines pieces trimmed onto
lines-trimmed [] = refl
lines-trimmed (x ∷ t) = go (eqb x 10) refl (pieces-some 10 t).first (pieces-some 10 t).more (pieces-some 10 t).are (lines-trimmed t)
  where
    go : (b : Bool) → eqb x 10 ≡ b → (p : List ℕ) (ps : List (List ℕ)) → pieces 10 t ≡ p ∷ ps → lines t ≡ trimmed (pieces 10 t)
        → cond b ([] ∷ lines t) (onto x (lines t)) ≡ trimmed (pieces 10 (x ∷ t))
    go true e p ps q i = rw (e, pieces) (rw q (ap (◌∷◌ []) (i ∙ ap trimmed q)))
    go false e [] [] q i = rw (e, pieces) (rw q (ap (onto x) (i ∙ ap trimmed q)))
    go false e (y ∷ p) [] q i = rw (e, pieces) (rw q (ap (onto x) (i ∙ ap trimmed q)))
    go false e p (r ∷ ps) q i = rw (e, pieces) (rw q (ap (onto x) (i ∙ ap trimmed q)))

located-empty : (m n : ℕ) (key : List ℕ) → located_from n [] key ≡ located_from m [] key
unfolding located_from
located-empty m n key = refl

located-trimmed : (at : ℕ) (ls : List Tag) (key : List ℕ) → located_from at ls key ≡ located_from at (trimmed ls) key
unfolding trimmed
located-trimmed at [] key = refl
located-trimmed at ([] ∷ []) key = located-cons at [] [] key ∙ rw (starts-short (key ++ (9 ∷ [])) [] (simp length-append (omega arith))) (located-empty at (at + 1) key)
located-trimmed at ((x ∷ l) ∷ []) key = refl
located-trimmed at (l ∷ m ∷ ls) key =
    located-cons at l (m ∷ ls) key
    ∙ ap (cond (starts (key ++ (9 ∷ [])) l) (row_at (at + suc (length key)) (length (drop (length (key ++ (9 ∷ []))) l)))) (located-trimmed (at + suc (length l)) (m ∷ ls) key)
    ∙ sym (located-cons at l (trimmed (m ∷ ls)) key)

-- The answer from the line at i on.
pub row-start : (t key : List ℕ) → located t key ≡ row_from t key 0
unfolding row_from located rows
row-start t key = located-trimmed 0 (pieces 10 t) key ∙ ap (λ (ls : List Tag). located_from 0 ls key) (sym (lines-trimmed t))

pub row-past : (t key : List ℕ) (i : ℕ) → length t ≤ i → row_from t key i ≡ no_row
unfolding row_from lines located_from
row-past t key i h = rw (drop_of_length-le t h)

line-length : (t : List ℕ) (i e : ℕ) → i ≤ e → e ≤ length t → length (take (e - i) (drop i t)) ≡ e - i
line-length t i e g h = simp (length-take, length-drop) (omega arith)

-- a line that begins with the key and a tab has room for both
pub row_room : (t key : List ℕ) (i e : ℕ) → i ≤ e → e ≤ length t → starts (key ++ (9 ∷ [])) (take (e - i) (drop i t)) ≡ true → i + length key + 1 ≤ e
row_room t key i e g h s =
    let long = starts-long (key ++ (9 ∷ [])) (take (e - i) (drop i t)) s in
    let n = line-length t i e g h in
    omega (arith, simp length-append at long)

-- the value's place on the line from i to e
pub in-row : (t key : List ℕ) (i e : ℕ) (b : Bool) → i ≤ e → e ≤ length t → b ≡ starts (key ++ (9 ∷ [])) (take (e - i) (drop i t)) → b ≡ true
    → (row_at (i + length key + 1) (e - (i + length key + 1)) ≡ row_in t key i e) × ((i + length key + 1 ≤ e) × (e ≤ length t))
unfolding row_in
in-row t key i e b g h s f = let z = sym s ∙ f in (rw z, (row_room t key i e g h z, h))

pub no-row : (t key : List ℕ) (i e : ℕ) (b : Bool) → b ≡ starts (key ++ (9 ∷ [])) (take (e - i) (drop i t)) → b ≡ false → no_row ≡ row_in t key i e
unfolding row_in
no-row t key i e b s f = rw (sym s ∙ f)

-- the line at i, up to e, and the answer where it begins with the key and a tab
module _ (t key : List ℕ) (i e : ℕ) (q : e ≡ end_of 10 t i) (h : i < length t) where
  row-at : row_from t key i ≡ cond (starts (key ++ (9 ∷ [])) (take (e - i) (drop i t))) (row_at (i + length key + 1) (e - (i + length key + 1))) (row_from t key (e + 1))
  unfolding row_from
  row-at =
      let b = ends 10 t i e q (omega arith) in
      let n = length-append key (9 ∷ []) in
      let l : length (drop (length (key ++ (9 ∷ []))) (take (e - i) (drop i t))) ≡ e - (i + length key + 1) = length-drop (length (key ++ (9 ∷ []))) (take (e - i) (drop i t)) ∙ omega (arith, line-length t i e b.low b.high) in
      let m : i + suc (length key) ≡ i + length key + 1 = omega arith in
      let w = line-length t i e b.low b.high in
      let z : i + suc (length (take (e - i) (drop i t))) ≡ e + 1 = omega arith in
      let a : lines (drop i t) ≡ take (e - i) (drop i t) ∷ lines (drop (e + 1) t) = rw q (lines_at t i h) in
      ap (λ (ls : List Tag). located_from i ls key) a ∙ located-cons i (take (e - i) (drop i t)) (lines (drop (e + 1) t)) key ∙ rw (m, l, z)

  pub row-miss : starts (key ++ (9 ∷ [])) (take (e - i) (drop i t)) ≡ false → row_from t key i ≡ row_from t key (e + 1)
  row-miss s = row-at ∙ rw s

  pub row-hit : starts (key ++ (9 ∷ [])) (take (e - i) (drop i t)) ≡ true → row_from t key i ≡ row_at (i + length key + 1) (e - (i + length key + 1))
  row-hit s = row-at ∙ rw s

  -- the answer from the line on, by the line's own
  pub row-own : (f : Option (Range ℕ)) (r : Range ℕ) → found_is f ≡ row_in t key i e → f ≡ Some r → row_from t key i ≡ found_is (Some r)
  unfolding row_in
  row-own f r g k = go (starts (key ++ (9 ∷ [])) (take (e - i) (drop i t))) refl (ap found_is (sym k) ∙ g)
    where
      go : (b : Bool) → starts (key ++ (9 ∷ [])) (take (e - i) (drop i t)) ≡ b → found_is (Some r) ≡ cond b (row_at (i + length key + 1) (e - (i + length key + 1))) no_row → row_from t key i ≡ found_is (Some r)
      go true s w = row-hit s ∙ sym w
      go false s w = clash {b = true} refl (ap (λ (x : Located). x.found) w)

  pub row-other : (f : Option (Range ℕ)) → found_is f ≡ row_in t key i e → f ≡ None → row_from t key i ≡ row_from t key (e + 1)
  unfolding row_in
  row-other f g k = go (starts (key ++ (9 ∷ [])) (take (e - i) (drop i t))) refl (ap found_is (sym k) ∙ g)
    where
      go : (b : Bool) → starts (key ++ (9 ∷ [])) (take (e - i) (drop i t)) ≡ b → no_row ≡ cond b (row_at (i + length key + 1) (e - (i + length key + 1))) no_row → row_from t key i ≡ row_from t key (e + 1)
      go true s w = clash {b = true} refl (sym (ap (λ (x : Located). x.found) w))
      go false s w = row-miss s

-- The standard's lookup gives what stands at the answer's place.
lookup-cons : (l : Tag) (ls : List Tag) (key : List ℕ) → lookup (l ∷ ls) key ≡ cond (starts (key ++ (9 ∷ [])) l) (some (drop (length (key ++ (9 ∷ []))) l)) (lookup ls key)
unfolding lookup
lookup-cons l ls key = go (starts (key ++ (9 ∷ [])) l) (after-starts (key ++ (9 ∷ [])) l)
  where
    go : (b : Bool) → after (key ++ (9 ∷ [])) l ≡ cond b (some (drop (length (key ++ (9 ∷ []))) l)) none
        → lookup (l ∷ ls) key ≡ cond b (some (drop (length (key ++ (9 ∷ []))) l)) (lookup ls key)
    go true e = rw (e, lookup)
    go false e = rw (e, lookup)

lookup-trimmed : (ls : List Tag) (key : List ℕ) → lookup ls key ≡ lookup (trimmed ls) key
unfolding trimmed lookup
lookup-trimmed [] key = refl
lookup-trimmed ([] ∷ []) key = lookup-cons [] [] key ∙ rw (starts-short (key ++ (9 ∷ [])) [] (simp length-append (omega arith)))
lookup-trimmed ((x ∷ l) ∷ []) key = refl
lookup-trimmed (l ∷ m ∷ ls) key =
    lookup-cons l (m ∷ ls) key ∙ ap (cond (starts (key ++ (9 ∷ [])) l) (some (drop (length (key ++ (9 ∷ []))) l))) (lookup-trimmed (m ∷ ls) key)
    ∙ sym (lookup-cons l (trimmed (m ∷ ls)) key)

-- a front of l from k on is a front of l from k on
pub drop-take : (k m : ℕ) (l : List ℕ) → drop k (take m l) ≡ take (m - k) (drop k l)
drop-take zero m l = rw sub-zero
drop-take (suc k) zero l = rw zero-sub
drop-take (suc k) (suc m) [] = sym (take-nil (suc m - suc k))
drop-take (suc k) (suc m) (x ∷ l) = rw suc-sub-suc (drop-take k m l)

module _ (t key : List ℕ) where
  row-value : (i e : ℕ) → drop (length (key ++ (9 ∷ []))) (take (e - i) (drop i t)) ≡ take (e - (i + length key + 1)) (drop (i + length key + 1) t)
  row-value i e =
      let z = length-append key (9 ∷ []) in
      let u : e - i - length (key ++ (9 ∷ [])) ≡ e - (i + length key + 1) = omega arith in
      let v : i + length (key ++ (9 ∷ [])) ≡ i + length key + 1 = omega arith in
      rw (drop-take, drop-drop, u, v)

  value-past : (i : ℕ) → length t ≤ i → lookup (lines (drop i t)) key ≡ value_if t (row_from t key i)
  unfolding lookup lines
  value-past i g = rw (drop_of_length-le t g, row-past t key i g)

  value-at : (i e : ℕ) (b : Bool) → e ≡ end_of 10 t i → i < length t → starts (key ++ (9 ∷ [])) (take (e - i) (drop i t)) ≡ b
      → lookup (lines (drop (e + 1) t)) key ≡ value_if t (row_from t key (e + 1)) → lookup (lines (drop i t)) key ≡ value_if t (row_from t key i)
  value-at i e b q g s next =
      let a : lines (drop i t) ≡ take (e - i) (drop i t) ∷ lines (drop (e + 1) t) = rw q (lines_at t i g) in
      ap (λ (ls : List Tag). lookup ls key) a ∙ lookup-cons (take (e - i) (drop i t)) (lines (drop (e + 1) t)) key ∙ go b s
    where
      go : (b : Bool) → starts (key ++ (9 ∷ [])) (take (e - i) (drop i t)) ≡ b
          → cond (starts (key ++ (9 ∷ [])) (take (e - i) (drop i t))) (some (drop (length (key ++ (9 ∷ []))) (take (e - i) (drop i t)))) (lookup (lines (drop (e + 1) t)) key) ≡ value_if t (row_from t key i)
      go true s = rw (s, row-hit t key i e q g s) (ap some (row-value i e))
      go false s = rw (s, row-miss t key i e q g s) next

  value-from : (n i : ℕ) → length t ≤ i + n → lookup (lines (drop i t)) key ≡ value_if t (row_from t key i)
  value-from zero i h = value-past i (omega arith)
  value-from (suc n) i h =
      ⊎_elim (value-past i)
      (λ g. value-at i (end_of 10 t i) _ refl g refl (value-from n (end_of 10 t i + 1) (let b = end_ge 10 t i (omega arith) in omega arith)))
      (le-or-lt (length t) i)

  pub lookup-located : lookup (rows t) key ≡ value_if t (located t key)
  unfolding rows
  lookup-located =
      lookup-trimmed (pieces 10 t) key ∙ ap (λ (ls : List Tag). lookup ls key) (sym (lines-trimmed t)) ∙ value-from (length t) 0 (omega arith) ∙ ap (value_if t) (sym (row-start t key))

-- A lookup's answer is the standard's.
none-empty : (at : ℕ) (ls : List Tag) (k : List ℕ) → (located_from at ls k).found ≡ false → (located_from at ls k).len ≡ 0
unfolding located_from
none-empty at [] k e = refl
none-empty at (l ∷ ls) k e = go (after (k ++ (9 ∷ [])) l) refl (none-empty (at + suc (length l)) ls k)
  where
    go : (o : Maybe (List ℕ)) → after (k ++ (9 ∷ [])) l ≡ o → ((located_from (at + suc (length l)) ls k).found ≡ false → (located_from (at + suc (length l)) ls k).len ≡ 0)
        → (located_from at (l ∷ ls) k).len ≡ 0
    go none f next = rw (f, located_from) (next (rw (f, located_from) at e))
    go (some v) f next = clash {b = true} refl (rw (f, located_from) at e)

pub value-located : (t k : List ℕ) → value_of t (located t k) ≡ value_or (lookup (rows t) k)
unfolding value_or located
value-located t k = go (located t k).found refl ∙ ap value_or (sym (lookup-located t k))
  where
    go : (b : Bool) → (located t k).found ≡ b → value_of t (located t k) ≡ value_or (value_if t (located t k))
    go true e = rw e
    go false e = rw e (ap (λ (n : ℕ). take n (drop (located t k).start t)) (none-empty 0 (rows t) k e))

pub found-located : (t k : List ℕ) → (located t k).found ≡ is_found (lookup (rows t) k)
unfolding is_found
found-located t k = go (located t k).found refl ∙ ap is_found (sym (lookup-located t k))
  where
    go : (b : Bool) → (located t k).found ≡ b → (located t k).found ≡ is_found (value_if t (located t k))
    go true e = rw e
    go false e = rw e
