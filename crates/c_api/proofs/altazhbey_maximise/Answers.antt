-- `c_api::altazhbey_maximise` meets its contract. Assumes nothing.
use Rattle.c_api.proofs.Sizes.{maximise-small}
use Rattle.c_api.proofs.Packs.{unpacks}
use Rattle.c_api.proofs.altazhbey_maximise.Goals as goal

pub returns : goal.returns
returns c =
    let a = c.args in
    unpacks _ c.maximise.result c.packed_answer.result _ _ (maximise-small a.aliases.now a.likely.now a.id.now) c.packed_answer.ensures c.maximise.ensures
