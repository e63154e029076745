-- `row_shapes::aliases::alias_line` meets its contract. Assumes nothing.
use native.Mathlib.Omega.{arith}
use mathlib.Core.Path.{sym, ◌∙◌}
use Prim.Native.Nat.{◌+◌}
use Rattle.byte_string.proofs.Ends.{Ends, ends}
use Rattle.row_shapes.proofs.Texts.{alias-no-kind, alias-no-tab, alias-one-tab, alias-two-tabs, alias-other}
use Rattle.row_shapes.proofs.aliases.alias_line.Goals as goal
use Rattle.row_shapes.proofs.aliases.alias_line.Goals.{After-end_of-tab}

bounds : (c : After-end_of-tab) → Ends 9 c.args.line.now (c.name_of-name.result.end + 1) c.end_of-tab.result
bounds c = ends _ _ _ _ c.end_of-tab.ensures (omega arith)

pub returns-in_err-kind : goal.returns-in_err-kind
returns-in_err-kind c = let n = c.name_of-name.ensures in rw c.from_residual.ensures (alias-no-kind _ _ n.0 (sym c.in_err-kind.was ∙ n.1))

pub returns-then-line-name : goal.returns-then-line-name
returns-then-line-name c = alias-no-tab _ _ c.name_of-name.ensures.0 c.if-line-name.true

pub returns-then-line-tab : goal.returns-then-line-tab
returns-then-line-tab c = alias-one-tab _ _ c.name_of-name.ensures.0 _ c.if-line-name.false c.end_of-tab.ensures c.if-line-tab.true

pub slice_bounds-alias_shape-count : goal.slice_bounds-alias_shape-count
slice_bounds-alias_shape-count c = omega (arith, bounds (goal.at.slice_bounds-alias_shape-count c).After-end_of-tab)

pub slice_bounds-alias_shape-start : goal.slice_bounds-alias_shape-start
slice_bounds-alias_shape-start c = omega (arith, bounds (goal.at.slice_bounds-alias_shape-start c).After-end_of-tab)

pub returns-then-alias_shape : goal.returns-then-alias_shape
returns-then-alias_shape c =
    let n = c.name_of-name in
    alias-two-tabs _ _ n.ensures.0 _ c.if-line-name.false c.end_of-tab.ensures _ c.if-line-tab.false (sym c.in_ok-kind.was ∙ n.ensures.1) (sym c.if-alias_shape.true ∙ c.alias_shape.ensures)

pub returns-else-alias_shape : goal.returns-else-alias_shape
returns-else-alias_shape c =
    let n = c.name_of-name in
    alias-other _ _ n.ensures.0 _ c.if-line-name.false c.end_of-tab.ensures _ c.if-line-tab.false (sym c.in_ok-kind.was ∙ n.ensures.1) (sym c.if-alias_shape.false ∙ c.alias_shape.ensures)
