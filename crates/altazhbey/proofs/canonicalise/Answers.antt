-- `altazhbey::canonicalise` meets its contract. Assumes nothing.
use mathlib.Core.Path.{◌≡◌, sym, ap, ◌∙◌}
use mathlib.Core.List.{[]}
use mathlib.Core.Option.{none}
use Rattle.std.proofs.lemmas.Result.{err_from_is_err_and}
use Rattle.standard.specs.Delivery.{Made, given}
use Rattle.standard.specs.Make.{canonicalise_made}
use Rattle.standard.specs.Table.{check, to_canonicalise}
use Rattle.operations.proofs.Delivers as delivers
use Rattle.operations.proofs.Wholes.{sorted-aliases}
use Rattle.altazhbey.proofs.canonicalise.Goals as goal
use Rattle.altazhbey.proofs.canonicalise.Goals.{In_ok-check_aliases}

pub returns-in_err-check_aliases : goal.returns-in_err-check_aliases
unfolding canonicalise_made
returns-in_err-check_aliases c =
    let e = err_from_is_err_and c.from_residual.result c.from_residual.ensures.1 in
    rw (e.1, e.2) (delivers.table-stands c.check_aliases.result _ _ _ _ c.in_err-check_aliases.was c.check_aliases.ensures)

passes : (c : In_ok-check_aliases) → check to_canonicalise c.args.aliases.now [] [] ≡ none
passes c = delivers.table-good c.check_aliases.result _ _ c.check_aliases.ensures c.in_ok-check_aliases.was

pub unhinted-requires : goal.unhinted-requires
unhinted-requires c = sorted-aliases c.args.aliases.now (passes (goal.at.unhinted-requires c).In_ok-check_aliases)

pub canonicalise_tested-requires : goal.canonicalise_tested-requires
canonicalise_tested-requires c = rw c.unhinted.ensures (passes (goal.at.canonicalise_tested-requires c).In_ok-check_aliases)

pub returns : goal.returns
returns c =
    let g = passes (goal.at.returns c).In_ok-check_aliases in
    rw c.unhinted.ensures at c.canonicalise_tested.ensures ∙ ap (λ (m : Made). given m c.args.out.now) (sym (delivers.after-good c.args.aliases.now c.args.id.now g))
