-- `c_api::pack` meets its contract. Assumes nothing.
use Rattle.c_api.specs.Packed.{packed}
use borrow.Author.Rules.{rules}
use Rattle.c_api.proofs.pack.Goals as goal

pub returns : goal.returns
unfolding packed
returns c = search rules
