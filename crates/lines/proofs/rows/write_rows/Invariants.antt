-- `lines::rows::write_rows` meets its contract. Assumes nothing.
use Prim.Native.Nat.{◌-◌}
use lib.ListN.{length}
use Rattle.lines.proofs.Pieces as pieces
use Rattle.lines.proofs.rows.write_rows.Given as goal

abbrev pub invariant-loop-at : goal.invariant-loop-at
invariant-loop-at g l = pieces.Going (g.R.LineRows.row_of l.rows) g.R.LineRows.most l.piece l.initial.out l.out l.at l.len

abbrev pub decreases-loop-at : goal.decreases-loop-at
decreases-loop-at g l = length l.piece - l.at
