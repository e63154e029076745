-- `c_api::altazhbey_chain` meets its contract. Assumes nothing.
use Rattle.c_api.proofs.Sizes.{list-small}
use Rattle.c_api.proofs.Packs.{unpacks}
use Rattle.c_api.proofs.altazhbey_chain.Goals as goal

pub returns : goal.returns
returns c =
    let a = c.args in
    unpacks _ c.chain.result c.packed_answer.result _ _ (list-small a.aliases.now a.parents.now a.id.now) c.packed_answer.ensures c.chain.ensures
