-- `tsv::put_from` meets its contract. Assumes nothing.
use Rattle.byte_string.proofs.Stores.{all_from}
use Rattle.tsv.proofs.put_from.Goals as goal

pub returns : goal.returns
returns c = let a = c.args in rw (all_from a.from a.src.now) at c.put.ensures
