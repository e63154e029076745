-- The chain of a parent has one fewer step allowed. Assumes nothing.
use Rattle.parents.proofs.lines.+list.Given as goal

abbrev pub decreases-list : goal.decreases-list
decreases-list l = l.allowed
