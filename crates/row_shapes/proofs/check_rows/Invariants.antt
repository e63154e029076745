-- `row_shapes::check_rows` meets its contract. The invariant: the rows from i on, behind the key before them, decide. Assumes nothing.
use mathlib.Core.Path.{◌≡◌}
use mathlib.Core.Option.{none}
use Prim.Native.Nat.{◌-◌}
use lib.ListN.{length, drop}
use Rattle.standard.specs.Table.{pieces, rows, rows_fault, shape_of}
use Rattle.row_shapes.specs.Rows.{kind_is}
use Rattle.row_shapes.proofs.Passes as passes
use Rattle.row_shapes.proofs.check_rows.Given as goal

abbrev pub invariant-loop-i : goal.invariant-loop-i
invariant-loop-i l = rows_fault (shape_of (kind_is l.table)) none 0 (rows l.t) ≡ rows_fault (shape_of (kind_is l.table)) (passes.last_of l.before) l.i (pieces 10 (drop l.i l.t))

abbrev pub decreases-loop-i : goal.decreases-loop-i
decreases-loop-i l = length l.t - l.i
