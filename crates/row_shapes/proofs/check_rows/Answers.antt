-- `row_shapes::check_rows` meets its contract. The invariant: the rows from i on, behind the key before them, decide. Assumes nothing.
use native.Mathlib.Omega.{arith}
use mathlib.Core.Path.{sym, ◌∙◌}
use mathlib.Core.List.{[]}
use Prim.Native.Nat.{◌+◌, ◌<◌}
use Rattle.row_shapes.proofs.Passes as passes
use Rattle.row_shapes.proofs.Texts.{RowIn, row_in, row-off, next_row}
use Rattle.row_shapes.proofs.check_rows.Goals as goal
use Rattle.row_shapes.proofs.check_rows.Goals.{In-Some}

-- the row, and its key within it
here : (c : In-Some) → RowIn c.args.table c.args.t.now c.loop-i.i c.in-Some.row
here c = row_in _ _ _ c.loop-i-test.true _ c.in-Some.ensures

key : (c : In-Some) → (0 < c.in-Some.row.key) × (c.loop-i.i + c.in-Some.row.key < c.loop-i.i + c.in-Some.row.end)
key c = let h = here c in passes.key-bounds _ _ [] _ _ h.end c.loop-i-test.true h.high _ h.key h.shape

pub loop-i-init : goal.loop-i-init
loop-i-init c = passes.pass-start _ _

pub returns-in_default : goal.returns-in_default
returns-in_default c = row-off _ _ _ c.loop-i-test.true _ c.in_default.ensures ∙ sym c.loop-i.invariant

pub overflow_add-end : goal.overflow_add-end
overflow_add-end c = omega (arith, key (goal.at.overflow_add-end c).In-Some, (here (goal.at.overflow_add-end c).In-Some).high)

pub slice_bounds-key-end : goal.slice_bounds-key-end
slice_bounds-key-end c = omega (arith, key (goal.at.slice_bounds-key-end c).In-Some, (here (goal.at.slice_bounds-key-end c).In-Some).high)

pub returns-then-not-rises : goal.returns-then-not-rises
returns-then-not-rises c =
    let h = here (goal.at.returns-then-not-rises c).In-Some in
    passes.pass-order _ _ _ _ _ h.end c.loop-i-test.true h.high _ h.key h.shape (sym c.rises.ensures ∙ c.if-not-rises.true) ∙ sym c.loop-i.invariant

pub loop-i-preserved : goal.loop-i-preserved
loop-i-preserved c =
    let h = here (goal.at.loop-i-preserved c).In-Some in
    c.loop-i.invariant ∙ passes.pass-next _ _ _ _ _ h.end c.loop-i-test.true h.high _ h.key h.shape (sym c.rises.ensures ∙ c.if-not-rises.false) ∙ next_row _ _ _ _ _

pub returns : goal.returns
returns c = passes.pass-end _ _ _ _ c.loop-i-test.false ∙ sym c.loop-i.invariant
