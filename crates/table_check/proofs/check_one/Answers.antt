-- `table_check::check_one` meets its contract, test by test. Assumes nothing.
use mathlib.Core.Path.{sym, ap, ◌∙◌}
use Rattle.standard.specs.Table.{used}
use Rattle.row_shapes.specs.Rows.{kind_is}
use Rattle.table_check.specs.declared.Test.{Test}
use Rattle.table_check.specs.Verdicts.{fault_by}
use Rattle.table_check.proofs.Ordered.{unused, tested-one}
use Rattle.table_check.proofs.check_one.Goals as goal

pub returns-then-not-uses : goal.returns-then-not-uses
returns-then-not-uses c = unused _ _ _ _ (sym c.uses.ensures ∙ c.if-not-uses.true)

pub returns-in-Size : goal.returns-in-Size
unfolding fault_by
returns-in-Size c =
    let a = c.args in
    tested-one _ _ _ _ (sym c.uses.ensures ∙ c.if-not-uses.false)
    (c.check_size.ensures ∙ ap (λ (q : Test). fault_by q (used (kind_is a.table) a.t.now)) (sym c.in-Size.is))

pub returns-in-Shape : goal.returns-in-Shape
unfolding fault_by
returns-in-Shape c =
    let a = c.args in
    tested-one _ _ _ _ (sym c.uses.ensures ∙ c.if-not-uses.false)
    (c.check_shape.ensures ∙ ap (λ (q : Test). fault_by q (used (kind_is a.table) a.t.now)) (sym c.in-Shape.is))
