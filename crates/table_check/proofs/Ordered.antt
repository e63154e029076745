-- The answers of the check, one part after the other.
-- Assumes nothing.
use mathlib.Core.Path.{◌≡◌, refl, sym, ap, ◌∙◌}
use mathlib.Core.Bool.{Bool, true, false}
use mathlib.Core.List.{List, [], ◌∷◌}
use mathlib.Core.Option.{Option, none, some}
use Prim.Native.Nat.{ℕ, ◌≤◌, ◌<◌}
use lib.ListN.{length}
use borrow.Author.Tests.{le-leb, lt-leb}
use Rattle.standard.specs.Reading.{Fault, fault}
use Rattle.standard.specs.Table.{TableFault, rows, tables_of, too_big, rows_fault, clash_fault, in_table, first_table, TableKind, aliases, likely, parents, table_number, shape_of, Used, used, Use as Purpose, to_canonicalise, to_maximise, to_chain, to_check, in_use, each, shape_fault, free_fault, check}
use Rattle.standard.specs.Tag.{All}
use Rattle.standard.proofs.General.{clash, bool_cases}
use Rattle.standard.proofs.Round.{all-impl}
use Rattle.standard.proofs.Table.{rows_pass}
use Rattle.standard.proofs.Checks.{first_table-none, in_table-none, Clear, AllClear, tested-none, first-none}
use Rattle.table.specs.Search.{Sorted}
use Rattle.row_shapes.specs.declared.Table.TheVariants.{Aliases, Likely, Parents}
use Rattle.row_shapes.specs.Rows.{kind_is}
use Rattle.row_shapes.proofs.Sorted.{sorted}
use Rattle.std.specs.Prelude.{⊤, Result, Ok, Err}
use mathlib.Core.Logic.{◌⊎◌, inl, inr}
use Rattle.table_check.specs.declared.Fault.{Fault as Wrong}
use Rattle.std.specs.Result.{IsErrAnd}
use Rattle.row_shapes.specs.declared.Table.{Table}
use Rattle.table_check.specs.declared.Kind.{Kind}
use Rattle.table_check.specs.declared.Use.{Use}
use Rattle.table_check.specs.declared.Use.TheVariants.{Canonicalise, Maximise, Chain, Check}
use Rattle.table_check.specs.Free.{free_row}
use Rattle.table_check.specs.Verdicts.{kind_number, fault_of, verdict_is, use_is, of_table, as_used, any_used, is_used, clash_by}
use Rattle.table_check.proofs.Clashes.{clash-is}

-- A fault of a table.
module _ (n : ℕ) (o : Option Fault) where
  pub in-none : none ≡ o → none ≡ in_table n o
  unfolding in_table
  in-none f = rw (← f)

  pub in_some : (k : Kind) (p : ℕ) (t : Table) → fault (kind_number k) p ≡ o → table_number (kind_is t) ≡ n → some (fault_of (record { kind = k; place = p; table = t })) ≡ in_table n o
  unfolding in_table
  in_some k p t f g = rw (← f, ← g)

-- a fault that is handed on
pub handed : (r : Result ⊤ Wrong) (w : Wrong) → IsErrAnd r (λ (x : Wrong). x ≡ w) → {o : Option TableFault} → some (fault_of w) ≡ o → verdict_is r ≡ o
handed (Ok done) w e f = absurd e
handed (Err x) w e f = ap (λ (y : Wrong). some (fault_of y)) e ∙ f

pub small : (t : List ℕ) → length t ≤ 32768 → none ≡ too_big t
unfolding too_big
small t h = rw (le-leb (length t) 32768 h, too_big)

pub large : (t : List ℕ) → 32768 < length t → fault 11 0 ≡ too_big t
unfolding too_big
large t h = rw (lt-leb (length t) 32768 h, too_big)

-- One answer after the other.
module _ (x y z : Option TableFault) where
  pub first-bad : (w : Wrong) → some (fault_of w) ≡ x → some (fault_of w) ≡ first_table x (first_table y z)
  unfolding first_table
  first-bad w e = rw (← e)

  pub second-bad : none ≡ x → (w : Wrong) → some (fault_of w) ≡ y → some (fault_of w) ≡ first_table x (first_table y z)
  unfolding first_table
  second-bad e w f = rw (← e, ← f)

  pub third : none ≡ x → none ≡ y → (o : Option TableFault) → o ≡ z → o ≡ first_table x (first_table y z)
  unfolding first_table
  third e f o g = rw (← e, ← f) g

-- The tables in use.
pub aliases-used : (u : Purpose) → true ≡ is_used u aliases
unfolding is_used as_used any_used of_table table_number in_use
aliases-used to_canonicalise = refl
aliases-used to_maximise = refl
aliases-used to_chain = refl
aliases-used to_check = refl

-- by the purposes that use the table
pub likely-used : (u : Use) → (u ≡ Maximise) ⊎ (u ≡ Check) → true ≡ is_used (use_is u) likely
unfolding is_used as_used any_used of_table table_number in_use
likely-used u (inl e) = rw e
likely-used u (inr e) = rw e

pub likely-idle : (u : Use) → (u ≡ Maximise → ⊥) → (u ≡ Check → ⊥) → false ≡ is_used (use_is u) likely
unfolding is_used as_used any_used of_table table_number in_use
likely-idle Canonicalise f g = refl
likely-idle Maximise f g = absurd (f refl)
likely-idle Chain f g = refl
likely-idle Check f g = absurd (g refl)

pub parents-used : (u : Use) → (u ≡ Chain) ⊎ (u ≡ Check) → true ≡ is_used (use_is u) parents
unfolding is_used as_used any_used of_table table_number in_use
parents-used u (inl e) = rw e
parents-used u (inr e) = rw e

pub parents-idle : (u : Use) → (u ≡ Chain → ⊥) → (u ≡ Check → ⊥) → false ≡ is_used (use_is u) parents
unfolding is_used as_used any_used of_table table_number in_use
parents-idle Canonicalise f g = refl
parents-idle Maximise f g = refl
parents-idle Chain f g = absurd (f refl)
parents-idle Check f g = absurd (g refl)

-- a table is in use, or it is not
module _ {X : Type 0} (x : X) where
  pub as-used : (u : Purpose) (k : TableKind) → is_used u k ≡ true → as_used u k x ≡ used k x ∷ []
  unfolding is_used as_used any_used of_table table_number in_use
  as-used u aliases e = as-aliases u
    where
      as-aliases : (v : Purpose) → as_used v aliases x ≡ used aliases x ∷ []
      as-aliases to_canonicalise = refl
      as-aliases to_maximise = refl
      as-aliases to_chain = refl
      as-aliases to_check = refl
  as-used to_canonicalise likely e = clash e refl
  as-used to_maximise likely e = refl
  as-used to_chain likely e = clash e refl
  as-used to_check likely e = refl
  as-used to_canonicalise parents e = clash e refl
  as-used to_maximise parents e = clash e refl
  as-used to_chain parents e = refl
  as-used to_check parents e = refl

  pub not-used : (u : Purpose) (k : TableKind) → is_used u k ≡ false → as_used u k x ≡ []
  unfolding is_used as_used any_used of_table table_number in_use
  not-used u aliases e = clash (sym (aliases-used u)) e
  not-used to_canonicalise likely e = refl
  not-used to_maximise likely e = clash refl e
  not-used to_chain likely e = refl
  not-used to_check likely e = clash refl e
  not-used to_canonicalise parents e = refl
  not-used to_maximise parents e = refl
  not-used to_chain parents e = clash refl e
  not-used to_check parents e = clash refl e

-- One test, of a table that is used or not.
module _ (u : Purpose) (k : TableKind) (t : List ℕ) (test : Used (List ℕ) → Option TableFault) where
  pub unused : is_used u k ≡ false → none ≡ each test (as_used u k t)
  unfolding each
  unused e = sym (ap (each test) (not-used t u k e))

  each-used : is_used u k ≡ true → each test (as_used u k t) ≡ test (used k t)
  unfolding each
  each-used e = ap (each test) (as-used t u k e) ∙ first-none (test (used k t))

  pub tested-one : {o : Option TableFault} → is_used u k ≡ true → o ≡ test (used k t) → o ≡ each test (as_used u k t)
  tested-one e f = f ∙ sym (each-used e)

  pub clear-one : is_used u k ≡ true → each test (as_used u k t) ≡ none → test (used k t) ≡ none
  clear-one e f = sym (each-used e) ∙ f

-- One test, table by table.
pub each-table : (test : Used (List ℕ) → Option TableFault) (u : Purpose) (A L P : List ℕ)
    → first_table (each test (as_used u aliases A)) (first_table (each test (as_used u likely L)) (each test (as_used u parents P))) ≡ each test (in_use u A L P)
unfolding in_use as_used of_table table_number each first_table
each-table test to_canonicalise A L P = simp first-none
each-table test to_maximise A L P = simp first-none
each-table test to_chain A L P = simp first-none
each-table test to_check A L P = simp first-none

-- What the shapes give: sorted rows, each of its shape.
pub shape-rows : (k : TableKind) (t : List ℕ) → shape_fault (used k t) ≡ none → rows_fault (shape_of k) none 0 (rows t) ≡ none
unfolding shape_fault
shape-rows k t e = in_table-none _ _ e

pub shape-sorted : (k : TableKind) (t : List ℕ) → shape_fault (used k t) ≡ none → Sorted t
unfolding kind_is
shape-sorted aliases t e = sorted Aliases t (shape-rows aliases t e)
shape-sorted likely t e = sorted Likely t (shape-rows likely t e)
shape-sorted parents t e = sorted Parents t (shape-rows parents t e)

module _ (u : Purpose) (A L P : List ℕ) where
  pub record ShapedEach : Type 0 where
    pub aliases : each shape_fault (as_used u aliases A) ≡ none
    pub likely : each shape_fault (as_used u likely L) ≡ none
    pub parents : each shape_fault (as_used u parents P) ≡ none

  pub shaped-each : each shape_fault (in_use u A L P) ≡ none → ShapedEach
  shaped-each e =
      let f = first_table-none _ _ (each-table shape_fault u A L P ∙ e) in
      let g = first_table-none _ _ f.1 in
      record { aliases = f.0; likely = g.0; parents = g.1 }

-- 14 as the code tests it, over rows that have their shape
clash-one : (A L P : List ℕ) (k : TableKind) (t : List ℕ) → free_row k A P ≡ free_row k A t → shape_fault (used k t) ≡ none → clash_by A (used k t) ≡ free_fault (tables_of A L P) (used k t)
unfolding clash_by free_fault
clash-one A L P k t q s =
    ap (in_table (table_number k)) (sym (clash-is A L P k 0 (rows t) (rows_pass (shape_of k) none 0 (rows t) (shape-rows k t s)) ∙ ap (λ (f : List (List ℕ) → Bool). clash_fault f 0 (rows t)) q))

pub clash-used : (u : Purpose) (A L P : List ℕ) (k : TableKind) (t : List ℕ) → free_row k A P ≡ free_row k A t → each shape_fault (as_used u k t) ≡ none
    → each (clash_by A) (as_used u k t) ≡ each (free_fault (tables_of A L P)) (as_used u k t)
clash-used u A L P k t q s =
    bool_cases (is_used u k)
    (λ e. tested-one u k t (free_fault (tables_of A L P)) e (sym (tested-one u k t (clash_by A) e refl) ∙ clash-one A L P k t q (clear-one u k t shape_fault e s)))
    (λ e. sym (unused u k t (clash_by A) e) ∙ unused u k t (free_fault (tables_of A L P)) e)

module _ (u : Purpose) (A L P : List ℕ) (s : each shape_fault (in_use u A L P) ≡ none) where
  pub clash-aliases : each (clash_by A) (as_used u aliases A) ≡ each (free_fault (tables_of A L P)) (as_used u aliases A)
  unfolding free_row
  clash-aliases = clash-used u A L P aliases A refl (shaped-each u A L P s).aliases

  pub clash-likely : each (clash_by A) (as_used u likely L) ≡ each (free_fault (tables_of A L P)) (as_used u likely L)
  unfolding free_row
  clash-likely = clash-used u A L P likely L refl (shaped-each u A L P s).likely

  pub clash-parents : each (clash_by A) (as_used u parents P) ≡ each (free_fault (tables_of A L P)) (as_used u parents P)
  clash-parents = clash-used u A L P parents P refl (shaped-each u A L P s).parents

-- over the aliases as they are indexed
pub clash-as : (A B : List ℕ) (us : List (Used (List ℕ))) (o : Option TableFault) → A ≡ B → o ≡ each (clash_by A) us → o ≡ each (clash_by B) us
clash-as A B us o e f = f ∙ ap (λ (x : List ℕ). each (clash_by x) us) e

-- What a check that passes gives to those who look rows up: sorted tables.
unfoldable pub SortedTable : Used (List ℕ) → Type 0
SortedTable v = Sorted v.lent

pub check-sorted : (u : Purpose) (A L P : List ℕ) → check u A L P ≡ none → All SortedTable (in_use u A L P)
unfolding check All AllClear Clear SortedTable
check-sorted u A L P e = all-impl (Clear shape_fault) SortedTable (λ v h. shape-sorted v.kind v.lent h) (in_use u A L P) (tested-none _ (in_use u A L P) e).1.0
