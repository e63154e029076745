-- `refused_rows::rows_hinted` meets its contract. Assumes nothing.
use Rattle.std.proofs.Common.{◌≡◌, ◌-◌, length}
use Rattle.refused_rows.specs.Rows.{line_row}
use Rattle.refused_rows.proofs.Numbered as numbered
use Rattle.refused_rows.proofs.rows_hinted.Given as goal

abbrev pub invariant-loop-at : goal.invariant-loop-at
invariant-loop-at l = numbered.Going (line_row l.tables.aliases.rows.now l.tables.likely.rows.now) 2400 l.first l.piece l.initial.out l.out l.at l.next l.len × (length l.form ≡ 256) × (length l.initial.form ≡ 256)

abbrev pub decreases-loop-at : goal.decreases-loop-at
decreases-loop-at l = length l.piece - l.at
