-- `table_report::put_line` meets its contract. Assumes nothing.
use native.Mathlib.Omega.{arith}
use mathlib.Core.Path.{sym, ◌∙◌}
use lib.Seq.{length-take-le}
use Rattle.table_report.proofs.Written as written
use Rattle.table_report.proofs.put_line.Goals as goal

pub returns-then-not-names_row : goal.returns-then-not-names_row
returns-then-not-names_row c = rw (written.line-none _ _ _ (sym c.names_row.ensures ∙ c.if-not-names_row.true)) c.put_number.ensures

pub slice_bounds-count-end : goal.slice_bounds-count-end
slice_bounds-count-end c = sym (length-take-le _ _ c.requires.0)

pub overflow_add-before : goal.overflow_add-before
overflow_add-before c = let a = c.args in omega (arith, c.count-before.ensures.1, length-take-le a.place a.x.now c.requires.0)

pub returns : goal.returns
returns c = rw (written.line-some _ _ _ (sym c.names_row.ensures ∙ c.if-not-names_row.false) _ c.count-before.ensures.0) c.put_number-2.ensures
