-- `encoding::has_return` meets its contract. Assumes nothing.
use Rattle.encoding.proofs.Laws as laws
use Rattle.encoding.proofs.has_return.Goals as goal

pub returns : goal.returns
returns c = laws.return-in _ _ _ c.end_of-cr.ensures c.end_of-lf.ensures
