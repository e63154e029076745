-- The answer of the check of the tables, and the tests of one table by the code. Assumes nothing.
use Rattle.std.specs.Prelude.{Bool, true, false, List, [], ◌∷◌, ℕ, eqb, ⊤, Result, Ok, Err}
use Rattle.std.proofs.Math.Option.{Option, none, some}
use Rattle.standard.specs.Table.{TableFault, rows, in_table, clash_fault, TableKind, table_number, Used, Use as Purpose, to_canonicalise, to_maximise, to_chain, to_check, in_use, each, size_fault, shape_fault, free_fault, tables_of}
use Rattle.table_check.specs.declared.Test.{Test}
use Rattle.table_check.specs.declared.Test.TheVariants.{Size, Shape}
use Rattle.table_check.specs.declared.Use.{Use}
use Rattle.table_check.specs.declared.Use.TheVariants.{Canonicalise, Maximise, Chain, Check}
use Rattle.table_check.specs.declared.Kind.{Kind}
use Rattle.table_check.specs.declared.Kind.TheVariants.{Size as SizeKind, Shape as ShapeKind, Order, Clash}
use Rattle.table_check.specs.declared.Fault.{Fault}
use Rattle.row_shapes.specs.Rows.{kind_is}
use Rattle.table_check.specs.Free.{free_row}

-- the standard's number of what is wrong
abbrev pub kind_number : Kind → ℕ
kind_number SizeKind = 11
kind_number ShapeKind = 12
kind_number Order = 13
kind_number Clash = 14

-- the number of what is wrong with a table, and the table's number
abbrev pub number_of : Fault → ℕ
number_of f = kind_number f.kind

abbrev pub table_of : Fault → ℕ
table_of f = table_number (kind_is f.table)

-- the standard's fault that an answer stands for: its number, its place and its table
abbrev pub fault_of : Fault → TableFault
fault_of f = record { fault = record { number = number_of f; place = f.place }; table = table_of f }

abbrev pub verdict_is : Result ⊤ Fault → Option TableFault
verdict_is (Ok done) = none
verdict_is (Err f) = some (fault_of f)

-- the standard's word for what the tables are used for
abbrev pub use_is : Use → Purpose
use_is Canonicalise = to_canonicalise
use_is Maximise = to_maximise
use_is Chain = to_chain
use_is Check = to_check

-- the tables of a kind
unfoldable pub of_table : {X : Type 0} → TableKind → List (Used X) → List (Used X)
of_table k [] = []
of_table k (u ∷ us) = elim (eqb (table_number k) (table_number u.kind)) [ true ↦ u ∷ of_table k us | false ↦ of_table k us ]

-- a table of this kind, if it is among those in use
unfoldable pub as_used : {X : Type 0} → Purpose → TableKind → X → List (Used X)
as_used purpose k x = of_table k (in_use purpose x x x)

-- whether there are any
unfoldable pub any_used : {X : Type 0} → List (Used X) → Bool
any_used [] = false
any_used (u ∷ us) = true

-- whether tables of this kind are in use
unfoldable pub is_used : Purpose → TableKind → Bool
is_used purpose k = any_used {X = ℕ} (as_used purpose k 0)

-- 11; 12 and 13
unfoldable pub fault_by : Test → Used (List ℕ) → Option TableFault
fault_by Size u = size_fault u
fault_by Shape u = shape_fault u

-- 14 as the code tests it, over these aliases
unfoldable pub clash_by : List ℕ → Used (List ℕ) → Option TableFault
clash_by A u = in_table (table_number u.kind) (clash_fault (free_row u.kind A u.lent) 0 (rows u.lent))

-- 14 of the tables in use
abbrev pub clashes_of : Purpose → List ℕ → List ℕ → List ℕ → Option TableFault
clashes_of purpose A L P = each (free_fault (tables_of A L P)) (in_use purpose A L P)
