-- `parents::walk::parent_of` meets its contract. Assumes nothing.
use Rattle.parents.proofs.Walks.{parent_row, parent_short}
use Rattle.parents.proofs.walk.parent_of.Goals as goal

pub returns-in-Some : goal.returns-in-Some
returns-in-Some c = parent_row _ c.requires.1 _ c.requires.0 _ c.in-Some.ensures

pub returns-in-None : goal.returns-in-None
returns-in-None c = parent_short _ c.requires.1 _ _ c.in-None.ensures c.shorter.ensures
