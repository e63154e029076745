-- `likely::lsr::completed` meets its contract. Assumes nothing.
use mathlib.Core.Path.{ap, ◌∙◌}
use Rattle.likely.specs.Lent.{filled_is}
use Rattle.likely.proofs.Lookups.{filled-whole, filled_none, filled_row, over-are}
use Rattle.likely.proofs.lsr.completed.Goals as goal

pub returns-then-is_complete : goal.returns-then-is_complete
returns-then-is_complete c = λ q. filled-whole _ _ c.is_complete.ensures c.if-is_complete.true

pub returns-in_err-find_row : goal.returns-in_err-find_row
returns-in_err-find_row c = λ q. ap filled_is c.from_residual.ensures ∙ filled_none _ _ c.is_complete.ensures c.if-is_complete.false (rw c.in_err-find_row.was at (c.find_row.ensures q))

pub returns : goal.returns
returns c = λ q.
    filled_row _ _ c.is_complete.ensures c.if-is_complete.false _ _ _ (rw c.in_ok-find_row.was at (c.find_row.ensures q)) c.cut_value-row.ensures (over-are _ _ _ _ _ c.language_of.ensures c.first_of.ensures c.first_of-2.ensures)
