-- The pass over the rows for 14.
-- Assumes nothing.
use mathlib.Core.Path.{◌≡◌, refl, sym, ap, ap₂, ◌∙◌}
use mathlib.Core.Bool.{Bool, true, false, not, ◌&&◌}
use mathlib.Core.Logic.{⊎_elim}
use mathlib.Core.List.{List, [], ◌∷◌, head-eq_of_cons-eq, tail-eq_of_cons-eq, ◌++◌, append_assoc}
use mathlib.Core.Option.{none}
use Prim.Native.Nat.{ℕ, suc, ◌+◌, ◌-◌, ◌≤◌, ◌<◌}
use native.Mathlib.Numerals.{add-one}
use native.Mathlib.Omega.{arith}
use lib.ListN.{length, take, drop, drop_of_length-le, length-take, length-drop}
use borrow.Author.Tests.{lt-ltb}
use Rattle.standard.specs.Tag.{Tag, same, head_tag, All}
use Rattle.standard.specs.Identifier.{und, complete, same_three, without_unknown}
use Rattle.standard.specs.Reading.{fault}
use Rattle.standard.specs.Chain.{line}
use Rattle.standard.specs.Table.{pieces, parse, is_three, tables_of, likely_shape, parent_shape, likely_free, parent_free, clash_fault, TableKind, aliases, likely, parents, shape_of, free_of, Pass}
use Rattle.standard.proofs.General.{bool_cases, and-true, le-or-lt, no}
use Rattle.byte_string.specs.Strings.{end_of}
use Rattle.byte_string.proofs.Ends.{ends}
use Rattle.table.proofs.Lines.{starts-front}
use Rattle.standard.proofs.Table.{pieces-some}
use Rattle.row_shapes.specs.declared.Table.{Table}
use Rattle.row_shapes.specs.declared.Table.TheVariants.{Parents}
use Rattle.row_shapes.specs.Shapes.{others}
use Rattle.row_shapes.specs.Rows.{kind_is}
use Rattle.row_shapes.proofs.Pieces.{Free, pieces-at, pieces-first, others-none, pieces-free}
use Rattle.parents.specs.Walk.{cut, ValueOk, reaches_from, OwnRow}
use Rattle.table_check.specs.Free.{free_three, is_threes, second_of, free_parent, free_row}
use Rattle.table_check.proofs.Frees.{free-three, free-alias, others-some, last-piece}
use Rattle.parents.proofs.Walks.{reaches-parents, cut-cut as key-cut, cut-length as cut-size}
use Rattle.table.specs.Lines.{starts}
use Rattle.row_shapes.proofs.Passes.{row-split}

-- Rows of two fields.
pub likely-threes : (ts : List Tag) → likely_shape ts ≡ true → is_threes ts ≡ true
unfolding likely_shape is_threes
likely-threes [] e = no e
likely-threes (a ∷ []) e = no e
likely-threes (k ∷ v ∷ []) e =
    let h = and-true (is_three k) (is_three v && (complete (parse v) && same_three (without_unknown (parse v)) (parse v))) e in
    let i = and-true (is_three v) (complete (parse v) && same_three (without_unknown (parse v)) (parse v)) h.1 in
    rw (h.0, i.0)
likely-threes (a ∷ b ∷ c ∷ ts) e = no e

pub parent-threes : (ts : List Tag) → parent_shape ts ≡ true → is_threes ts ≡ true
unfolding parent_shape is_threes
parent-threes [] e = no e
parent-threes (a ∷ []) e = no e
parent-threes (k ∷ v ∷ []) e =
    let h = and-true (is_three k) (not (same k und) && is_three v) e in
    let i = and-true (not (same k und)) (is_three v) h.1 in
    rw (h.0, i.1)
parent-threes (a ∷ b ∷ c ∷ ts) e = no e

pub record TwoLine (l : List ℕ) (x : ℕ) : Type 0 where
  pub room : x < length l
  pub key : ValueOk (take x l)
  pub value : ValueOk (drop (x + 1) l)
  pub first : head_tag (pieces 9 l) ≡ take x l
  pub second : second_of (pieces 9 l) ≡ drop (x + 1) l

two-tags : (l : List ℕ) (x : ℕ) → x ≡ end_of 9 l 0 → (k v : Tag) → pieces 9 l ≡ k ∷ v ∷ [] → is_three k ≡ true → is_three v ≡ true → Free 9 k → Free 9 v → TwoLine l x
unfolding head_tag second_of
two-tags l x q k v e a b f g =
    let p = sym (pieces-first 9 l x q) ∙ e in
    let h = others-some 9 l x v [] (tail-eq_of_cons-eq p) in
    let u = last-piece 9 l x v (tail-eq_of_cons-eq p) in
    let w : k ≡ take x l = sym (head-eq_of_cons-eq p) in
    record {
      room = h;
      key = rw (← w) (record { three = a; free = f });
      value = rw (← u) (record { three = b; free = g });
      first = ap head_tag e ∙ w;
      second = ap second_of e ∙ u;
    }

pub two-line : (l : List ℕ) (x : ℕ) → x ≡ end_of 9 l 0 → is_threes (pieces 9 l) ≡ true → TwoLine l x
unfolding is_threes All
two-line l x q s = go (pieces 9 l) refl s (pieces-free 9 l)
  where
    go : (ts : List Tag) → pieces 9 l ≡ ts → is_threes ts ≡ true → All (Free 9) ts → TwoLine l x
    go [] e f g = no f
    go (a ∷ []) e f g = no f
    go (k ∷ v ∷ []) e f g = two-tags l x q k v e (and-true (is_three k) (is_three v) f).0 (and-true (is_three k) (is_three v) f).1 g.0 g.1.0
    go (a ∷ b ∷ c ∷ ts) e f g = no f

-- The standard's test is ours, over rows that have their shape.
module _ (A L P : List ℕ) where
  pub free-is : (table : TableKind) (ts : List Tag) → shape_of table ts ≡ true → free_of (tables_of A L P) table ts ≡ free_row table A P ts
  unfolding free_of free_row kind_is shape_of likely_shape parent_shape likely_free parent_free second_of free_parent reaches_from head_tag
  free-is aliases ts e = free-alias A L P ts e
  free-is likely [] e = no e
  free-is likely (a ∷ []) e = no e
  free-is likely (k ∷ v ∷ []) e = free-three A L P (parse v)
  free-is likely (a ∷ b ∷ c ∷ ts) e = no e
  free-is parents [] e = no e
  free-is parents (a ∷ []) e = no e
  free-is parents (k ∷ v ∷ []) e = ap₂ ◌&&◌ (free-three A L P (parse v)) (reaches-parents A L [] [] P 8 (line (parse k) []))
  free-is parents (a ∷ b ∷ c ∷ ts) e = no e

-- One row of the pass.
clash-on : (free : List Tag → Bool) (at : ℕ) (l : Tag) (ls : List Tag) (m : Tag) (ms : List Tag) → ls ≡ m ∷ ms → free (pieces 9 l) ≡ true → clash_fault free at (l ∷ ls) ≡ clash_fault free (at + suc (length l)) ls
unfolding clash_fault
clash-on free at l ls m ms q f = rw q (rw (f, clash_fault))

clash-off : (free : List Tag → Bool) (at : ℕ) (l : Tag) (ls : List Tag) (m : Tag) (ms : List Tag) → ls ≡ m ∷ ms → free (pieces 9 l) ≡ false → clash_fault free at (l ∷ ls) ≡ fault 14 at
unfolding clash_fault
clash-off free at l ls m ms q f = rw q (rw (f, clash_fault))

module _ (shape : List Tag → Bool) (t : List ℕ) (i e : ℕ) (q : e ≡ end_of 10 t i) (h : i < length t) (p : Pass shape (pieces 10 (drop i t))) where
  size : length (cut t i e) ≡ e - i
  size = let b = ends 10 t i e q (omega arith) in simp (length-take, length-drop) (omega arith)

  at : pieces 10 (drop i t) ≡ cut t i e ∷ others 10 t e
  at = pieces-at 10 t i e q (omega arith)

  -- the last row has its 0A
  pub pass-ends : e < length t
  unfolding Pass
  pass-ends =
      ⊎_elim (λ g. let z : cut t i e ≡ [] = rw (at ∙ ap (◌∷◌ (cut t i e)) (others-none 10 t e g)) at p in let n = ap length z in let b = ends 10 t i e q (omega arith) in absurd (omega (arith, size)))
      (λ g. g) (le-or-lt (length t) e)

  follows : pieces 10 (drop i t) ≡ cut t i e ∷ pieces 10 (drop (e + 1) t)
  unfolding others
  follows = at ∙ ap (◌∷◌ (cut t i e)) (rw (lt-ltb e (length t) pass-ends, ← add-one e))

  pub pass-row : (shape (pieces 9 (cut t i e)) ≡ true) × Pass shape (pieces 10 (drop (e + 1) t))
  unfolding Pass
  pass-row = let s = pieces-some 10 (drop (e + 1) t) in go (pieces 10 (drop (e + 1) t)) s.first s.more s.are (rw follows at p)
    where
      go : (ls : List Tag) (m : Tag) (ms : List Tag) → ls ≡ m ∷ ms → Pass shape (cut t i e ∷ ls) → (shape (pieces 9 (cut t i e)) ≡ true) × Pass shape ls
      go ls m ms z k = rw z (opened (rw z at k))
        where
          opened : Pass shape (cut t i e ∷ m ∷ ms) → (shape (pieces 9 (cut t i e)) ≡ true) × Pass shape (m ∷ ms)
          opened k = k

  module _ (free : List Tag → Bool) where
    pub clash-here : free (pieces 9 (cut t i e)) ≡ false → fault 14 i ≡ clash_fault free i (pieces 10 (drop i t))
    clash-here f = let s = pieces-some 10 (drop (e + 1) t) in sym (ap (clash_fault free i) follows ∙ clash-off free i (cut t i e) (pieces 10 (drop (e + 1) t)) s.first s.more s.are f)

    pub clash-next : free (pieces 9 (cut t i e)) ≡ true → clash_fault free i (pieces 10 (drop i t)) ≡ clash_fault free (e + 1) (pieces 10 (drop (e + 1) t))
    clash-next f =
        let s = pieces-some 10 (drop (e + 1) t) in
        let b = ends 10 t i e q (omega arith) in
        let z : i + suc (length (cut t i e)) ≡ e + 1 = omega (arith, size) in
        ap (clash_fault free i) follows ∙ clash-on free i (cut t i e) (pieces 10 (drop (e + 1) t)) s.first s.more s.are f ∙ ap (λ (n : ℕ). clash_fault free n (pieces 10 (drop (e + 1) t))) z

pub clash-end : (free : List Tag → Bool) (t : List ℕ) (i : ℕ) → length t ≤ i → none ≡ clash_fault free i (pieces 10 (drop i t))
unfolding clash_fault pieces
clash-end free t i h = rw (drop_of_length-le t h)

-- the standard's pass is ours
pub clash-is : (A L P : List ℕ) (table : TableKind) (at : ℕ) (ls : List Tag) → Pass (shape_of table) ls → clash_fault (free_of (tables_of A L P) table) at ls ≡ clash_fault (free_row table A P) at ls
unfolding clash_fault Pass
clash-is A L P table at [] p = refl
clash-is A L P table at (l ∷ []) p = refl
clash-is A L P table at (l ∷ m ∷ ls) p = step (free-is A L P table (pieces 9 l) p.0) (clash-is A L P table (at + suc (length l)) (m ∷ ls) p.1)
  where
    step : free_of (tables_of A L P) table (pieces 9 l) ≡ free_row table A P (pieces 9 l)
        → clash_fault (free_of (tables_of A L P) table) (at + suc (length l)) (m ∷ ls) ≡ clash_fault (free_row table A P) (at + suc (length l)) (m ∷ ls)
        → clash_fault (free_of (tables_of A L P) table) at (l ∷ m ∷ ls) ≡ clash_fault (free_row table A P) at (l ∷ m ∷ ls)
    step f n = bool_cases (free_row table A P (pieces 9 l)) (λ b. rw (f ∙ b, clash_fault) (rw (b, clash_fault) n)) (λ b. rw (f ∙ b, clash_fault) (rw (b, clash_fault)))

-- by the table
module _ {k : Table} where
  pub shape_is : (t : Table) (ts : List Tag) → k ≡ t → shape_of (kind_is k) ts ≡ true → shape_of (kind_is t) ts ≡ true
  shape_is t ts e f = sym (ap (λ (x : Table). shape_of (kind_is x) ts) e) ∙ f

  pub pass-parents : (ls : List Tag) → k ≡ Parents → Pass (shape_of (kind_is k)) ls → Pass parent_shape ls
  unfolding kind_is shape_of
  pass-parents ls e p = rw e at p

  pub free-by : (t : Table) (A P : List ℕ) (ts : List Tag) (r : Bool) → k ≡ t → r ≡ free_row (kind_is t) A P ts → r ≡ free_row (kind_is k) A P ts
  free-by t A P ts r e f = f ∙ ap (λ (x : Table). free_row (kind_is x) A P ts) (sym e)

-- a parent row
module _ (A P : List ℕ) (ts : List Tag) where
  pub parent-value : free_three A (parse (second_of ts)) ≡ false → false ≡ free_parent A P ts
  unfolding free_parent
  parent-value e = rw e

  pub parent-walk : (b : Bool) → free_three A (parse (second_of ts)) ≡ true → b ≡ reaches_from P 8 (head_tag ts) → b ≡ free_parent A P ts
  unfolding free_parent
  parent-walk b e f = rw e f

-- the row, by its first tab
pub own_row : (p : List ℕ) (i e x : ℕ) → e ≡ end_of 10 p i → i ≤ e → e ≤ length p → x ≡ end_of 9 (cut p i e) 0 → TwoLine (cut p i e) x → OwnRow p i (i + x) e
own_row p i e x q l h t f =
    let n = cut-size p i e l h in
    let r = f.room in
    let c = key-cut p i e x (omega arith) in
    record {
      line = q;
      low = omega arith;
      tab = omega arith;
      high = h;
      key = rw c f.key;
      begins =
          ap₂ starts (ap (λ (k : List ℕ). k ++ (9 ∷ [])) c) (row-split 9 (cut p i e) 0 x t r ∙ sym (append_assoc (take x (cut p i e)) (9 ∷ []) (drop (x + 1) (cut p i e))))
          ∙ starts-front (take x (cut p i e) ++ (9 ∷ [])) (drop (x + 1) (cut p i e));
    }
