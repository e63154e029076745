-- The check as tests of rows and of tables: what each gives, and their order.
-- Assumes nothing.
use mathlib.Core.Path.{◌≡◌, refl}
use mathlib.Core.Bool.{Bool, true, false}
use mathlib.Core.List.{List, [], ◌∷◌}
use mathlib.Core.Option.{Option, none, some, some-ne-none}
use Prim.Native.Nat.{ℕ, suc, ◌+◌}
use lib.ListN.{length}
use Rattle.standard.specs.Tag.{Tag, All}
use Rattle.standard.specs.Reading.{Fault, fault}
use Rattle.standard.specs.Table.{pieces, row_key, above, rows_fault, tables_of, TableFault, in_table, first_table, Used, Use, to_canonicalise, to_maximise, to_chain, to_check, in_use, each, tested, size_fault, shape_fault, free_fault, check}

-- One row, by the tests.
module _ (shape : List Tag → Bool) (last : Option (List ℕ)) (at : ℕ) (l : Tag) (ls : List Tag) (m : Tag) (ms : List Tag) (q : ls ≡ m ∷ ms) where
  -- 12: of wrong shape
  pub shape-off : shape (pieces 9 l) ≡ false → rows_fault shape last at (l ∷ ls) ≡ fault 12 at
  unfolding rows_fault
  shape-off s = rw q (rw (s, rows_fault))

  -- 13: not above the one before
  pub order-off : shape (pieces 9 l) ≡ true → above last (row_key (pieces 9 l)) ≡ false → rows_fault shape last at (l ∷ ls) ≡ fault 13 at
  unfolding rows_fault
  order-off s a = rw q (rw (s, a, rows_fault))

  pub row_on : shape (pieces 9 l) ≡ true → above last (row_key (pieces 9 l)) ≡ true → rows_fault shape last at (l ∷ ls) ≡ rows_fault shape (some (row_key (pieces 9 l))) (at + suc (length l)) ls
  unfolding rows_fault
  row_on s a = rw q (rw (s, a, rows_fault))

pub first_table-none : (a b : Option TableFault) → first_table a b ≡ none → (a ≡ none) × (b ≡ none)
unfolding first_table
first_table-none none b e = (refl, e)
first_table-none (some f) b e = absurd (some-ne-none f e)

pub in_table-none : (n : ℕ) (o : Option Fault) → in_table n o ≡ none → o ≡ none
unfolding in_table
in_table-none n none e = refl
in_table-none n (some f) e = absurd (some-ne-none _ e)

pub first_table-both : (a b : Option TableFault) → a ≡ none → b ≡ none → first_table a b ≡ none
unfolding first_table
first_table-both a b e f = rw (e, f)

-- Tests over tables: none finds a fault exactly if no test finds one in any table.
module _ {X : Type 0} where
  unfoldable pub Clear : (Used X → Option TableFault) → Used X → Type 0
  Clear test u = test u ≡ none

  pub each_none : (test : Used X → Option TableFault) (us : List (Used X)) → each test us ≡ none → All (Clear test) us
  unfolding each All Clear
  each_none test [] e = tt
  each_none test (u ∷ us) e = let h = first_table-none (test u) (each test us) e in (h.0, each_none test us h.1)

  pub each-clear : (test : Used X → Option TableFault) (us : List (Used X)) → All (Clear test) us → each test us ≡ none
  unfolding each All Clear
  each-clear test [] h = refl
  each-clear test (u ∷ us) h = first_table-both (test u) (each test us) h.0 (each-clear test us h.1)

  unfoldable pub AllClear : List (Used X) → (Used X → Option TableFault) → Type 0
  AllClear us test = All (Clear test) us

  pub tested-none : (ts : List (Used X → Option TableFault)) (us : List (Used X)) → tested ts us ≡ none → All (AllClear us) ts
  unfolding tested All AllClear
  tested-none [] us e = tt
  tested-none (t ∷ ts) us e = let h = first_table-none (each t us) (tested ts us) e in (each_none t us h.0, tested-none ts us h.1)

  pub tested-clear : (ts : List (Used X → Option TableFault)) (us : List (Used X)) → All (AllClear us) ts → tested ts us ≡ none
  unfolding tested All AllClear
  tested-clear [] us h = refl
  tested-clear (t ∷ ts) us h = first_table-both (each t us) (tested ts us) (each-clear t us h.0) (tested-clear ts us h.1)

  -- what all tests give, they give together
  pub tested-have : (Q : Option TableFault → Type 0) → Q none → (ts : List (Used X → Option TableFault)) → All (λ (t : Used X → Option TableFault). (u : Used X) → Q (t u)) ts → (us : List (Used X)) → Q (tested ts us)
  unfolding tested each All first_table
  tested-have Q q [] h us = q
  tested-have Q q (t ∷ ts) h us = go (each t us) (one us) (tested-have Q q ts h.1 us)
    where
      go : (o : Option TableFault) → Q o → Q (tested ts us) → Q (first_table o (tested ts us))
      go none a b = b
      go (some f) a b = a

      join : (o p : Option TableFault) → Q o → Q p → Q (first_table o p)
      join none p a b = b
      join (some f) p a b = a

      one : (vs : List (Used X)) → Q (each t vs)
      one [] = q
      one (v ∷ vs) = join (t v) (each t vs) (h.0 v) (one vs)

  -- what holds of all three tables holds of those that are used
  pub in_use-less : (Q : Used X → Type 0) (purpose : Use) (A L P : X) → All Q (in_use to_check A L P) → All Q (in_use purpose A L P)
  unfolding in_use All
  in_use-less Q to_canonicalise A L P h = (h.0, tt)
  in_use-less Q to_maximise A L P h = (h.0, (h.1.0, tt))
  in_use-less Q to_chain A L P h = (h.0, (h.1.1.0, tt))
  in_use-less Q to_check A L P h = h

pub first-none : (a : Option TableFault) → first_table a none ≡ a
unfolding first_table
first-none none = refl
first-none (some f) = refl

-- 01, Numbers, Order: 11 of all tables in use, then 12 and 13 of all, then 14
pub check-parts : (purpose : Use) (A L P : List ℕ)
    → first_table (each size_fault (in_use purpose A L P)) (first_table (each shape_fault (in_use purpose A L P)) (each (free_fault (tables_of A L P)) (in_use purpose A L P))) ≡ check purpose A L P
unfolding check tested
check-parts purpose A L P = simp first-none

-- a check of some of the tables passes where the check of all does
pub check-less : (purpose : Use) (A L P : List ℕ) → check to_check A L P ≡ none → check purpose A L P ≡ none
unfolding check All AllClear
check-less u A L P e =
    let h = tested-none _ (in_use to_check A L P) e in
    tested-clear _ (in_use u A L P)
    (in_use-less (Clear size_fault) u A L P h.0, (in_use-less (Clear shape_fault) u A L P h.1.0, (in_use-less (Clear (free_fault (tables_of A L P))) u A L P h.1.1.0, tt)))
