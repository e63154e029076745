-- `table_report::put_row` meets its contract. Assumes nothing.
use native.Mathlib.Omega.{arith}
use mathlib.Core.Path.{sym, ◌∙◌}
use lib.Seq.{length-take-le}
use Rattle.byte_string.proofs.Ends.{end-le}
use Rattle.tsv.specs.Shown.{shown}
use Rattle.tsv.proofs.Laws.{field-length}
use Rattle.standard.specs.Tag.{text}
use Rattle.table_report.specs.Faults.{row_in}
use Rattle.table_report.specs.Line.{row_for}
use Rattle.table_report.proofs.put_row.Goals as goal

pub returns-then-not-names_row : goal.returns-then-not-names_row
unfolding row_for shown
returns-then-not-names_row c = let p = c.put.ensures in rw (sym c.names_row.ensures ∙ c.if-not-names_row.true) (p.0, p.1, omega (arith, p.0, field-length (text "-") 9))

pub slice_bounds-put_shown-end : goal.slice_bounds-put_shown-end
slice_bounds-put_shown-end c = let r = c.args.rest.now in sym (length-take-le _ _ (omega (arith, c.end_of-end.ensures, end-le 10 r 0)))

pub returns : goal.returns
unfolding row_for row_in
returns c = let p = c.put_shown.ensures in rw (sym c.names_row.ensures ∙ c.if-not-names_row.false, ← c.end_of-end.ensures) (p.0, p.1, omega (arith, p.2))
