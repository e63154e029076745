-- `table_check::check_used` meets its contract. Assumes nothing.
use mathlib.Core.Path.{sym, ◌∙◌}
use Rattle.table_check.specs.Verdicts.{fault_by, use_is}
use Rattle.table_check.proofs.Ordered.{handed, first-bad, second-bad, third}
use Rattle.standard.proofs.Checks.{check-parts}
use Rattle.table_check.proofs.check_used.Goals as goal

pub returns-in_err-check_each : goal.returns-in_err-check_each
unfolding fault_by
returns-in_err-check_each c =
    let t = c.args.tables in
    handed _ _ c.from_residual.ensures.1 (first-bad _ _ _ _ c.in_err-check_each.ensures ∙ check-parts (use_is c.args.purpose) t.aliases.now t.likely.now t.parents.now)

pub returns-in_err-check_each-2 : goal.returns-in_err-check_each-2
unfolding fault_by
returns-in_err-check_each-2 c =
    let t = c.args.tables in
    handed _ _ c.from_residual-in_err-check_each-2.ensures.1 (second-bad _ _ _ c.in_ok-check_each.ensures _ c.in_err-check_each-2.ensures ∙ check-parts (use_is c.args.purpose) t.aliases.now t.likely.now t.parents.now)

pub check_clashes-requires : goal.check_clashes-requires
unfolding fault_by
check_clashes-requires c = sym c.in_ok-check_each-2.ensures

pub returns : goal.returns
unfolding fault_by
returns c = let t = c.args.tables in third _ _ _ c.in_ok-check_each.ensures c.in_ok-check_each-2.ensures _ c.check_clashes.ensures ∙ check-parts (use_is c.args.purpose) t.aliases.now t.likely.now t.parents.now
