-- `altazhbey::operation` meets its contract. Assumes nothing.
use mathlib.Core.Path.{◌≡◌}
use mathlib.Core.List.{[]}
use mathlib.Core.Option.{none}
use Rattle.std.proofs.lemmas.Result.{err_from_is_err_and}
use Rattle.standard.specs.Table.{check, to_maximise}
use Rattle.operations.specs.Both.{whole_made}
use Rattle.operations.proofs.Delivers.{table-stands, table-good}
use Rattle.operations.proofs.CompleteChecked.{tested-both, whole-answer}
use Rattle.altazhbey.proofs.operation.Goals as goal
use Rattle.altazhbey.proofs.operation.Goals.{In_ok-check_likely}

pub returns-in_err-check_likely : goal.returns-in_err-check_likely
unfolding whole_made
returns-in_err-check_likely c =
    let e = err_from_is_err_and c.from_residual.result c.from_residual.ensures.1 in
    rw (e.1, e.2) (table-stands c.check_likely.result _ _ _ _ c.in_err-check_likely.was c.check_likely.ensures)

passes : (c : In_ok-check_likely) → check to_maximise c.args.aliases.now c.args.likely.now [] ≡ none
passes c = table-good c.check_likely.result _ _ c.check_likely.ensures c.in_ok-check_likely.was

pub unhinted-requires : goal.unhinted-requires
unhinted-requires c = (tested-both _ _ (passes (goal.at.unhinted-requires c).In_ok-check_likely)).aliases.sorted

pub unhinted-requires-2 : goal.unhinted-requires-2
unhinted-requires-2 c = (tested-both _ _ (passes (goal.at.unhinted-requires-2 c).In_ok-check_likely)).likely

pub tested-tables-requires : goal.tested-tables-requires
tested-tables-requires c = rw (c.unhinted.ensures, c.unhinted-2.ensures) (tested-both _ _ (passes (goal.at.tested-tables-requires c).In_ok-check_likely))

pub returns : goal.returns
returns c =
    let a = c.args in
    let t = c.tested-tables.ensures in
    let f = rw (t.0, t.1, c.unhinted.ensures, c.unhinted-2.ensures) at c.form_tested.ensures in
    whole-answer a.shorten a.aliases.now a.likely.now a.id.now c.form_tested.result _ _ (passes (goal.at.returns c).In_ok-check_likely) f
