-- `table_report::shape::shape_fault` meets its contract. Assumes nothing.
use native.Mathlib.Omega.{arith}
use mathlib.Core.Path.{sym, ◌∙◌}
use lib.Seq.{length-take-le}
use Rattle.table_report.proofs.Judged as judged
use Rattle.table_report.proofs.shape.shape_fault.Goals as goal

pub returns-then-rest-end : goal.returns-then-rest-end
returns-then-rest-end c = judged.shape-none _ _ _ c.end_of-end.ensures c.if-rest-end.true

pub slice_bounds-row_fault-end : goal.slice_bounds-row_fault-end
slice_bounds-row_fault-end c = sym (length-take-le _ _ (omega arith))

pub returns : goal.returns
returns c = c.row_fault.ensures ∙ judged.shape_row _ _ _ c.end_of-end.ensures c.if-rest-end.false
