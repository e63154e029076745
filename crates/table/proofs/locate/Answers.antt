-- `table::locate` meets its contract. Assumes nothing.
use mathlib.Core.Path.{sym, ◌∙◌}
use Prim.Native.Nat.{◌≤◌, ◌<◌}
use native.Mathlib.Omega.{arith}
use lib.ListN.{length}
use borrow.Author.Rules.{rules}
use Rattle.byte_string.proofs.Ends.{end-le, end_ge}
use Rattle.table.proofs.Searches.{span-all, probe-below, probe-above, landed}
use Rattle.table.proofs.locate.Goals as goal
use Rattle.table.proofs.locate.Goals.{After-end_of-e}

pub loop-lo-init : goal.loop-lo-init
loop-lo-init c = (search rules, λ s. span-all _ _ s)

-- the probed line: it starts within the span, and ends at or after its start, within the table
ends : (c : After-end_of-e)
    → (c.loop-lo.lo ≤ c.line_start-m.result)
    × (c.line_start-m.result < c.loop-lo.hi)
    × (c.line_start-m.result ≤ c.end_of-e.result)
    × (c.end_of-e.result ≤ length c.args.t.now)
ends c =
    let m = c.line_start-m.result in
    let s = c.line_start-m.ensures in
    let t = c.args.t.now in (
      s.low,
      omega (arith, s.high),
      rw (c.end_of-e.ensures ∙ sym s.ends) (end_ge 10 t m (omega (arith, s.high))),
      rw (c.end_of-e.ensures ∙ sym s.ends) (end-le 10 t m),
    )

pub slice_bounds-below_row-count : goal.slice_bounds-below_row-count
slice_bounds-below_row-count c = omega (arith, ends (goal.at.slice_bounds-below_row-count c).After-end_of-e)

pub slice_bounds-below_row-start : goal.slice_bounds-below_row-start
slice_bounds-below_row-start c = omega (arith, ends (goal.at.slice_bounds-below_row-start c).After-end_of-e)

pub slice_bounds-below_row-end : goal.slice_bounds-below_row-end
slice_bounds-below_row-end c = omega (arith, ends (goal.at.slice_bounds-below_row-end c).After-end_of-e)

pub overflow_add-lo : goal.overflow_add-lo
overflow_add-lo c = omega (arith, ends (goal.at.overflow_add-lo c).After-end_of-e)

pub loop-lo-smaller-then-below_row : goal.loop-lo-smaller-then-below_row
loop-lo-smaller-then-below_row c = omega (arith, ends (goal.at.loop-lo-smaller-then-below_row c).After-end_of-e)

pub loop-lo-preserved-then-below_row : goal.loop-lo-preserved-then-below_row
loop-lo-preserved-then-below_row c = (
  search rules,
  λ s. probe-below _ _ _ _ _ _ _ (c.loop-lo.invariant.1 s) c.loop-lo.invariant.0 c.line_start-m.ensures (omega arith) (c.end_of-e.ensures ∙ sym c.line_start-m.ensures.ends) (sym c.below_row.ensures ∙ c.if-below_row.true),
)

pub loop-lo-smaller : goal.loop-lo-smaller
loop-lo-smaller c = omega (arith, ends (goal.at.loop-lo-smaller c).After-end_of-e)

pub loop-lo-preserved : goal.loop-lo-preserved
loop-lo-preserved c = (
  omega (arith, ends (goal.at.loop-lo-preserved c).After-end_of-e),
  λ s. probe-above _ _ _ _ _ _ _ (c.loop-lo.invariant.1 s) c.loop-lo.invariant.0 c.line_start-m.ensures (omega arith) (c.end_of-e.ensures ∙ sym c.line_start-m.ensures.ends) (sym c.below_row.ensures ∙ c.if-below_row.false),
)

pub returns : goal.returns
returns c = λ s. landed _ _ _ _ (c.loop-lo.invariant.1 s) c.loop-lo-test.false
