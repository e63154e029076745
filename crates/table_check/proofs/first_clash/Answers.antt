-- `table_check::first_clash` meets its contract. The invariant: the rows from i on have their shape, and decide. Assumes nothing.
use native.Mathlib.Omega.{arith}
use mathlib.Core.Path.{refl, sym, ◌∙◌}
use Rattle.standard.specs.Table.{rows}
use Rattle.byte_string.proofs.Ends.{Ends, ends}
use Rattle.table_check.proofs.Clashes.{pass-row, clash-here, clash-next, clash-end}
use Rattle.table_check.proofs.first_clash.Goals as goal
use Rattle.table_check.proofs.first_clash.Goals.{After-end_of-e}

pub loop-i-init : goal.loop-i-init
unfolding rows
loop-i-init c = (c.requires, refl)

-- the line's end lies at or after its start, and within the table
bounds : (c : After-end_of-e) → Ends 10 c.args.own.rows.now c.loop-i.i c.end_of-e.result
bounds c = ends _ _ _ _ c.end_of-e.ensures (omega arith)

pub free-requires : goal.free-requires
free-requires c =
    let p = c.requires in
    let l = c.loop-i.invariant in
    let b = bounds (goal.at.free-requires c).After-end_of-e in
    (p, b.low, b.high, (pass-row _ _ _ _ c.end_of-e.ensures c.loop-i-test.true l.0).0, c.end_of-e.ensures)

pub returns-then-not-free : goal.returns-then-not-free
returns-then-not-free c =
    let l = c.loop-i.invariant in
    clash-here _ _ _ _ c.end_of-e.ensures c.loop-i-test.true l.0 _ (sym c.free.ensures ∙ c.if-not-free.true) ∙ sym l.1

pub overflow_add-i : goal.overflow_add-i
overflow_add-i c = omega (arith, bounds (goal.at.overflow_add-i c).After-end_of-e)

pub loop-i-smaller : goal.loop-i-smaller
loop-i-smaller c = omega (arith, bounds (goal.at.loop-i-smaller c).After-end_of-e)

pub loop-i-preserved : goal.loop-i-preserved
loop-i-preserved c =
    let l = c.loop-i.invariant in (
      (pass-row _ _ _ _ c.end_of-e.ensures c.loop-i-test.true l.0).1,
      l.1 ∙ clash-next _ _ _ _ c.end_of-e.ensures c.loop-i-test.true l.0 _ (sym c.free.ensures ∙ c.if-not-free.false),
    )

pub returns : goal.returns
returns c = clash-end _ _ _ c.loop-i-test.false ∙ sym c.loop-i.invariant.1
