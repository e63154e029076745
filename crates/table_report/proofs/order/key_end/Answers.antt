-- `table_report::order::key_end` meets its contract. Assumes nothing.
use native.Mathlib.Omega.{arith}
use mathlib.Core.Path.{sym, ap, ◌∙◌}
use mathlib.Core.Logic.{⊎_elim}
use Rattle.byte_string.proofs.Ends.{end-le}
use Rattle.row_shapes.specs.declared.Table.{Table}
use Rattle.row_shapes.specs.Rows.{key_end}
use Rattle.table_report.proofs.order.key_end.Goals as goal

pub returns-in-Likely : goal.returns-in-Likely
unfolding key_end
returns-in-Likely c =
    let line = c.args.line.now in
    (c.end_of.ensures ∙ sym (⊎_elim (λ e. ap (λ (t : Table). key_end t line) e) (λ e. ap (λ (t : Table). key_end t line) e) c.in-Likely.is), omega (arith, c.end_of.ensures, end-le 9 line 0))
