-- `table_check::check_shape` meets its contract. Assumes nothing.
use mathlib.Core.Path.{refl, sym, ap, ◌∙◌}
use Rattle.std.specs.Prelude.{Err}
use Rattle.row_shapes.specs.declared.RowFault.{RowFault}
use Rattle.row_shapes.specs.Rows.{fault_is}
use Rattle.standard.specs.Table.{shape_fault}
use Rattle.table_check.specs.declared.Kind.TheVariants.{Shape, Order}
use Rattle.table_check.proofs.Ordered.{in-none, in_some}
use Rattle.table_check.proofs.check_shape.Goals as goal

pub returns-in-Ok : goal.returns-in-Ok
unfolding shape_fault
returns-in-Ok c = in-none _ _ c.in-Ok.ensures

pub returns-in-Err-Shape : goal.returns-in-Err-Shape
unfolding shape_fault
returns-in-Err-Shape c = in_some _ _ Shape _ _ (sym (ap (λ (f : RowFault). fault_is (Err f)) c.in-Err-Shape.field-0-is) ∙ c.in-Err-Shape.ensures) refl

pub returns-in-Err-Order : goal.returns-in-Err-Order
unfolding shape_fault
returns-in-Err-Order c = in_some _ _ Order _ _ (sym (ap (λ (f : RowFault). fault_is (Err f)) c.in-Err-Order.field-0-is) ∙ c.in-Err-Order.ensures) refl
