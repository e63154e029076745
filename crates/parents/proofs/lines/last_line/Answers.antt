-- `parents::lines::last_line` meets its contract. Assumes nothing.
use Rattle.parents.proofs.Writing.{one-short, one-fits}
use Rattle.parents.proofs.lines.last_line.Goals as goal

pub returns-then-out-end : goal.returns-then-out-end
returns-then-out-end c = let k = one-short _ _ _ c.if-out-end.true in (k.listed, k.written)

pub returns : goal.returns
returns c = let k = one-fits _ _ _ _ c.if-out-end.false c.put_line.ensures in (k.listed, k.written)
