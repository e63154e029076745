-- `key_rows::rows_of` meets its contract. Assumes nothing.
use mathlib.Core.Path.{◌≡◌, sym, ap, ◌∙◌}
use borrow.Author.Rules.{rules}
use Rattle.std.specs.Prelude.{Err}
use Rattle.operations.proofs.CompleteChecked.{tested-both}
use Rattle.table_check.specs.Verdicts.{verdict_is}
use Rattle.key_rows.proofs.Laws as laws
use Rattle.key_rows.proofs.rows_of.Goals as goal

pub returns-in_err-check_likely-clause-given : goal.returns-in_err-check_likely-clause-given
returns-in_err-check_likely-clause-given c =
    let f = c.in_err-check_likely.field-0.0 in
    let e : c.from_residual.result ≡ Err f = search rules in
    rw e (laws.table-given _ _ _ _ f (sym (ap verdict_is c.in_err-check_likely.was) ∙ c.check_likely.ensures))

pub rows_tested-requires : goal.rows_tested-requires
rows_tested-requires c = tested-both _ _ (sym c.check_likely.ensures ∙ ap verdict_is c.in_ok-check_likely.was)
