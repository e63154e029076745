-- `table::below_row` meets its contract. Assumes nothing.
use mathlib.Core.Path.{◌≡◌}
use mathlib.Core.List.{[], ◌∷◌, ◌++◌}
use Rattle.table.specs.Search.{below}
use Rattle.table.proofs.Searches.{below_from}
use Rattle.table.proofs.below_row.Given as goal

abbrev pub invariant-loop-i : goal.invariant-loop-i
invariant-loop-i l = below l.line (l.key ++ (9 ∷ [])) ≡ below_from l.line l.key l.i
