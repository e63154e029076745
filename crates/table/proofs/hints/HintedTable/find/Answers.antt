-- `table::hints::HintedTable::find` meets its contract. Assumes nothing.
use Rattle.table.proofs.Hinting.{leads-at}
use Rattle.table.proofs.hints.HintedTable.find.Goals as goal

pub returns : goal.returns
returns c = (λ x. c.find_by.ensures.0 x.sorted (leads-at _ _ _ _ _ x.hinted c.slot_from.ensures.0 c.hint.ensures), c.find_by.ensures.1)
