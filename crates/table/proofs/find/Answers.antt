-- `table::find` meets its contract. The invariant: the lines from i on decide. Assumes nothing.
use native.Mathlib.Omega.{arith}
use mathlib.Core.Path.{sym, ◌∙◌}
use Rattle.byte_string.proofs.Ends.{Ends, ends}
use Rattle.table.proofs.Lines.{row-start, row-past, row-own, row-other}
use Rattle.table.proofs.find.Goals as goal
use Rattle.table.proofs.find.Goals.{After-end_of-e}

pub loop-i-init : goal.loop-i-init
loop-i-init c = row-start _ _

-- the line's end lies at or after its start, and within the table
bounds : (c : After-end_of-e) → Ends 10 c.args.t.now c.loop-i.i c.end_of-e.result
bounds c = ends _ _ _ _ c.end_of-e.ensures (omega arith)

pub value_in-requires : goal.value_in-requires
value_in-requires c = let b = bounds (goal.at.value_in-requires c).After-end_of-e in (b.low, b.high)

pub returns-in-Some : goal.returns-in-Some
returns-in-Some c =
    (sym (c.loop-i.invariant ∙ row-own _ _ _ _ c.end_of-e.ensures c.loop-i-test.true _ _ c.value_in.ensures.0 c.in-Some.is), rw c.in-Some.is at c.value_in.ensures.1)

pub overflow_add-i : goal.overflow_add-i
overflow_add-i c = omega (arith, bounds (goal.at.overflow_add-i c).After-end_of-e)

pub loop-i-smaller : goal.loop-i-smaller
loop-i-smaller c = omega (arith, bounds (goal.at.loop-i-smaller c).After-end_of-e)

pub loop-i-preserved : goal.loop-i-preserved
loop-i-preserved c = c.loop-i.invariant ∙ row-other _ _ _ _ c.end_of-e.ensures c.loop-i-test.true _ c.value_in.ensures.0 c.in_default.is

pub returns : goal.returns
returns c = (sym (c.loop-i.invariant ∙ row-past _ _ _ c.loop-i-test.false), tt)
