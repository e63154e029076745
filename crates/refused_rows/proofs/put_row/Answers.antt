-- `refused_rows::put_row` meets its contract. Assumes nothing.
use Rattle.std.proofs.Common.{rules}
use Rattle.refused_rows.specs.Rows.{line_row}
use Rattle.refused_rows.proofs.Rows as laws
use Rattle.refused_rows.proofs.put_row.Goals as goal

pub returns : goal.returns
unfolding line_row
returns c = rw (laws.first-kept c.args.line.now c.min.result (search rules)) at c.put_kept.ensures
