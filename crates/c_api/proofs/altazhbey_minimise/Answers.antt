-- `c_api::altazhbey_minimise` meets its contract. Assumes nothing.
use Rattle.c_api.proofs.Sizes.{minimise-small}
use Rattle.c_api.proofs.Packs.{unpacks}
use Rattle.c_api.proofs.altazhbey_minimise.Goals as goal

pub returns : goal.returns
returns c =
    let a = c.args in
    unpacks _ c.minimise.result c.packed_answer.result _ _ (minimise-small a.aliases.now a.likely.now a.id.now) c.packed_answer.ensures c.minimise.ensures
