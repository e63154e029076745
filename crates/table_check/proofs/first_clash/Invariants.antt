-- `table_check::first_clash` meets its contract. The invariant: the rows from i on have their shape, and decide. Assumes nothing.
use mathlib.Core.Path.{◌≡◌}
use Prim.Native.Nat.{◌-◌}
use lib.ListN.{length, drop}
use Rattle.standard.specs.Table.{pieces, rows, clash_fault, shape_of, Pass}
use Rattle.row_shapes.specs.Rows.{kind_is}
use Rattle.table_check.specs.Free.{free_row}
use Rattle.table_check.proofs.first_clash.Given as goal

abbrev pub invariant-loop-i : goal.invariant-loop-i
invariant-loop-i l = Pass (shape_of (kind_is l.table)) (pieces 10 (drop l.i l.own.rows.now)) × (clash_fault (free_row (kind_is l.table) l.aliases.rows.now l.own.rows.now) 0 (rows l.own.rows.now) ≡ clash_fault (free_row (kind_is l.table) l.aliases.rows.now l.own.rows.now) l.i (pieces 10 (drop l.i l.own.rows.now)))

abbrev pub decreases-loop-i : goal.decreases-loop-i
decreases-loop-i l = length l.own.rows.now - l.i
