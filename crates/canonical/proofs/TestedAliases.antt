-- What the canonical form has from aliases that passed the check: they ascend. Assumes nothing.
use mathlib.Core.Path.{◌≡◌}
use mathlib.Core.List.{List, []}
use mathlib.Core.Option.{none}
use Prim.Native.Nat.{ℕ}
use Rattle.standard.specs.Table.{shape_of, in_use, shape_fault, to_canonicalise, check}
use Rattle.standard.specs.Tag.{All}
use Rattle.standard.proofs.Checks.{in_table-none, tested-none, AllClear, Clear}
use Rattle.row_shapes.specs.declared.Table.TheVariants.{Aliases}
use Rattle.row_shapes.specs.Rows.{kind_is}
use Rattle.row_shapes.proofs.Sorted as sorted-rows
use Rattle.table.specs.Hints.{Hinted, Indexed}
use Rattle.canonical.specs.Tested.{Tested}

-- Aliases that passed the check ascend.
pub tested : (A : List ℕ) → check to_canonicalise A [] [] ≡ none → Tested A
unfolding check kind_is shape_of in_use shape_fault All AllClear Clear
tested A e =
    let h = tested-none _ (in_use to_canonicalise A [] []) e in
    record { passes = e; sorted = sorted-rows.sorted Aliases A (in_table-none _ _ h.1.0.0) }

-- and with their hints are indexed
pub indexed : (A hints : List ℕ) → check to_canonicalise A [] [] ≡ none → Hinted A hints → Indexed A hints
indexed A hints e h = record { sorted = (tested A e).sorted; hinted = h }
