-- `table::find` meets its contract. The invariant: the lines from i on decide. Assumes nothing.
use mathlib.Core.Path.{◌≡◌}
use Prim.Native.Nat.{◌-◌}
use lib.ListN.{length}
use Rattle.standard.specs.Table.{located}
use Rattle.table.specs.Search.{row_from}
use Rattle.table.proofs.find.Given as goal

abbrev pub invariant-loop-i : goal.invariant-loop-i
invariant-loop-i l = located l.t l.key ≡ row_from l.t l.key l.i

abbrev pub decreases-loop-i : goal.decreases-loop-i
decreases-loop-i l = length l.t - l.i
