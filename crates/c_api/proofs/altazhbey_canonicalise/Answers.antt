-- `c_api::altazhbey_canonicalise` meets its contract. Assumes nothing.
use Rattle.c_api.proofs.Sizes.{canonicalise-small}
use Rattle.c_api.proofs.Packs.{unpacks}
use Rattle.c_api.proofs.altazhbey_canonicalise.Goals as goal

pub returns : goal.returns
returns c =
    let a = c.args in
    unpacks _ c.canonicalise.result c.packed_answer.result _ _ (canonicalise-small a.aliases.now a.id.now) c.packed_answer.ensures c.canonicalise.ensures
