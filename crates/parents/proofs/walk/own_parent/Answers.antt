-- `parents::walk::own_parent` meets its contract. Assumes nothing.
use Rattle.parents.proofs.OwnRows.{own_value}
use Rattle.parents.proofs.walk.own_parent.Goals as goal

pub returns-then-opens : goal.returns-then-opens
returns-then-opens c =
    own_value _ _ _ _ _ c.args.parents.indexed c.requires.0 c.requires.1 _ _ c.slot_from.ensures.0 c.hint-hint.ensures c.if-hint-i.true c.if-hint-le32767.true (rw c.if-opens.true at c.opens.ensures)
