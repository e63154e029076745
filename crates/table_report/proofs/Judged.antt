-- Laws of what is wrong with a row. Assumes nothing.
use mathlib.Core.Path.{◌≡◌, sym, ◌∙◌}
use mathlib.Core.Bool.{Bool}
use mathlib.Core.List.{List}
use Prim.Native.Nat.{ℕ, ◌-◌, ◌≤◌, ◌<◌}
use native.Mathlib.Omega.{arith}
use lib.ListN.{length, take, drop, get_or}
use borrow.Author.Tests.{eq-eqb, ne_eqb, le-leb, lt-leb, lt-ltb, le-ltb}
use Rattle.standard.specs.Tag.{same}
use Rattle.byte_string.specs.Strings.{end_of}
use Rattle.byte_string.proofs.Stores.{all_from}
use Rattle.row_shapes.specs.declared.Table.{Table}
use Rattle.table_report.specs.declared.Wrong.TheVariants.{NoEnd, Empty, Return, NoTab, FewTabs, ManyTabs, SameKey, Order}
use Rattle.table_report.specs.Faults.{pick, row_in, count_of, tabs_of, field_fault, row_fault, shape_fault, line_start, row_before, key_of, order_fault}

-- the order of a row, as the code finds it and the row before
pub order_is : (t : Table) (x : List ℕ) (place e s end : ℕ) (b : Bool) → e ≡ place - 1 → s ≡ line_start x e → end ≡ end_of 10 (take (length x - place) (drop place x)) 0
    → b ≡ same (key_of t (take (e - s) (drop s x))) (key_of t (take end (take (length x - place) (drop place x)))) → order_fault t x place ≡ pick b SameKey Order
unfolding order_fault row_before row_in
order_is t x place e s end b d f k g = rw (g, k, all_from place x, f, d)

-- the first that is wrong, as the code decides it
module _ (t : Table) (row : List ℕ) where
  pub fault-empty : length row ≡ 0 → Empty ≡ row_fault t row
  unfolding row_fault
  fault-empty e = rw (eq-eqb (length row) 0 e)

  pub fault-return : (length row ≡ 0 → ⊥) → get_or row (length row - 1) 0 ≡ 13 → Return ≡ row_fault t row
  unfolding row_fault
  fault-return a e = rw (ne_eqb (length row) 0 a, eq-eqb (get_or row (length row - 1) 0) 13 e)

  -- where it is not empty and does not end in CR
  module _ (a : length row ≡ 0 → ⊥) (b : get_or row (length row - 1) 0 ≡ 13 → ⊥) (n w : ℕ) (k : n ≡ count_of 9 row) where
    pub fault-no-tab : n ≡ 0 → NoTab ≡ row_fault t row
    unfolding row_fault
    fault-no-tab e = rw (ne_eqb (length row) 0 a, ne_eqb (get_or row (length row - 1) 0) 13 b, eq-eqb (count_of 9 row) 0 (sym k ∙ e))

    -- where it has a tab
    module _ (c : n ≡ 0 → ⊥) (m : w ≡ tabs_of t) where
      some : count_of 9 row ≡ 0 → ⊥
      some e = c (k ∙ e)

      pub fault-few : n < w → FewTabs ≡ row_fault t row
      unfolding row_fault
      fault-few h = rw (ne_eqb (length row) 0 a, ne_eqb (get_or row (length row - 1) 0) 13 b, ne_eqb (count_of 9 row) 0 some, lt-ltb (count_of 9 row) (tabs_of t) (omega arith))

      pub fault-many : w ≤ n → w < n → ManyTabs ≡ row_fault t row
      unfolding row_fault
      fault-many g h = rw (ne_eqb (length row) 0 a, ne_eqb (get_or row (length row - 1) 0) 13 b, ne_eqb (count_of 9 row) 0 some, le-ltb (count_of 9 row) (tabs_of t) (omega arith), lt-ltb (tabs_of t) (count_of 9 row) (omega arith))

      pub fault-field : w ≤ n → n ≤ w → field_fault t row ≡ row_fault t row
      unfolding row_fault
      fault-field g h = rw (ne_eqb (length row) 0 a, ne_eqb (get_or row (length row - 1) 0) 13 b, ne_eqb (count_of 9 row) 0 some, le-ltb (count_of 9 row) (tabs_of t) (omega arith), le-ltb (tabs_of t) (count_of 9 row) (omega arith))

-- a row that lacks its 0A, and one that has it
module _ (t : Table) (rest : List ℕ) (end : ℕ) (e : end ≡ end_of 10 rest 0) where
  pub shape-none : length rest ≤ end → NoEnd ≡ shape_fault t rest
  unfolding shape_fault
  shape-none h = rw (← e, le-leb (length rest) end h)

  pub shape_row : end < length rest → row_fault t (take end rest) ≡ shape_fault t rest
  unfolding shape_fault row_in
  shape_row h = rw (← e, lt-leb (length rest) end h)
