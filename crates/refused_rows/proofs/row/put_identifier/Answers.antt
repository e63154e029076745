-- `refused_rows::row::put_identifier` meets its contract. Assumes nothing.
use Rattle.std.proofs.Common.{◌≤◌, length, arith}
use Rattle.refused_rows.proofs.Rows as laws
use native.Mathlib.Omega.{arith}
use Rattle.refused_rows.proofs.row.put_identifier.Goals as goal
use Rattle.refused_rows.proofs.row.put_identifier.Goals.{After-next_line-start}

within : (c : After-next_line-start) → c.next_line-start.result ≤ length c.args.line.now
within c = laws.start-within _ _ (rw c.end_of.ensures at c.next_line-start.ensures)

pub slice_bounds-put_shown-count : goal.slice_bounds-put_shown-count
slice_bounds-put_shown-count c = within (goal.at.slice_bounds-put_shown-count c).After-next_line-start

pub slice_bounds-put_shown-start : goal.slice_bounds-put_shown-start
slice_bounds-put_shown-start c = omega (arith, within (goal.at.slice_bounds-put_shown-start c).After-next_line-start)

pub returns : goal.returns
returns c =
    let p = rw (laws.identifier-at c.args.line.now c.next_line-start.result (rw c.end_of.ensures at c.next_line-start.ensures)) at c.put_shown.ensures in
    (p.0, p.1, omega (arith, p.2))
