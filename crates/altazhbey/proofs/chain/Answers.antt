-- `altazhbey::chain` meets its contract. Assumes nothing.
use mathlib.Core.Path.{◌≡◌}
use mathlib.Core.List.{[]}
use mathlib.Core.Option.{none}
use Rattle.std.proofs.lemmas.Result.{err_from_is_err_and}
use Rattle.standard.specs.Make.{list_made}
use Rattle.standard.specs.Table.{check, to_chain}
use Rattle.operations.proofs.Delivers.{table-stands, table-good}
use Rattle.operations.proofs.ChainChecked.{tested-chain, whole-answer}
use Rattle.altazhbey.proofs.chain.Goals as goal
use Rattle.altazhbey.proofs.chain.Goals.{In_ok-check_parents}

pub returns-in_err-check_parents : goal.returns-in_err-check_parents
unfolding list_made
returns-in_err-check_parents c =
    let e = err_from_is_err_and c.from_residual.result c.from_residual.ensures.1 in
    rw (e.1, e.2) (table-stands c.check_parents.result _ _ _ _ c.in_err-check_parents.was c.check_parents.ensures)

passes : (c : In_ok-check_parents) → check to_chain c.args.aliases.now [] c.args.parents.now ≡ none
passes c = table-good c.check_parents.result _ _ c.check_parents.ensures c.in_ok-check_parents.was

pub unhinted-requires : goal.unhinted-requires
unhinted-requires c = (tested-chain _ _ (passes (goal.at.unhinted-requires c).In_ok-check_parents)).aliases.sorted

pub chain_tested-requires : goal.chain_tested-requires
chain_tested-requires c = rw c.unhinted.ensures (tested-chain _ _ (passes (goal.at.chain_tested-requires c).In_ok-check_parents))

pub returns : goal.returns
returns c =
    let a = c.args in
    whole-answer a.aliases.now a.parents.now a.id.now c.chain_tested.result _ _ (passes (goal.at.returns c).In_ok-check_parents) (rw c.unhinted.ensures at c.chain_tested.ensures)
