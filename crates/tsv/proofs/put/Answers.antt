-- `tsv::put` meets its contract. Assumes nothing.
use Rattle.tsv.proofs.Laws as laws
use Rattle.tsv.proofs.put.Goals as goal

pub returns : goal.returns
returns c =
    let a = c.args in
    let p = c.put-end in
    laws.ended a.out.now _ a.at p.result a.src.now a.mark p.ensures.0 p.ensures.1
