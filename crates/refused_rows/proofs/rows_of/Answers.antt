-- `refused_rows::rows_of` meets its contract. Assumes nothing.
use Rattle.operations.proofs.CompleteChecked.{tested-both}
use Rattle.refused_rows.proofs.Laws as laws
use Rattle.std.proofs.Common.{sym}
use Rattle.refused_rows.proofs.rows_of.Goals as goal

pub returns-in_err-check_likely-clause-given : goal.returns-in_err-check_likely-clause-given
returns-in_err-check_likely-clause-given c = laws.table-given _ _ _ _ _ _ c.in_err-check_likely.ensures _ c.from_residual.ensures.1

pub rows_tested-requires : goal.rows_tested-requires
rows_tested-requires c = tested-both _ _ (sym c.in_ok-check_likely.ensures)
