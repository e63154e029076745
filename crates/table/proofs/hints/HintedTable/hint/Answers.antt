-- `table::hints::HintedTable::hint` meets its contract. Assumes nothing.
use Rattle.table.proofs.Hinting.{hint-missing, hint-there}
use Rattle.table.proofs.hints.HintedTable.hint.Goals as goal

pub returns-then-at-self : goal.returns-then-at-self
returns-then-at-self c = hint-there _ _ _ c.place_of-at.ensures c.if-at-self.true

pub returns-else-at-self : goal.returns-else-at-self
returns-else-at-self c = hint-missing _ _ _ c.place_of-at.ensures c.if-at-self.false
