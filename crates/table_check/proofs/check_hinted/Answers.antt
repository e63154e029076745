-- `table_check::check_hinted` meets its contract. Assumes nothing.
use mathlib.Core.Path.{sym, ◌∙◌}
use Rattle.table.proofs.Hinting.{hinted-empty}
use Rattle.standard.specs.Table.{aliases}
use Rattle.row_shapes.specs.Rows.{kind_is}
use Rattle.table_check.specs.Verdicts.{use_is}
use Rattle.table_check.proofs.Ordered.{handed, first-bad, second-bad, third, aliases-used, clear-one, each-table, shape-sorted, ShapedEach, shaped-each, clash-as, clash-aliases, clash-likely, clash-parents}
use Rattle.table_check.proofs.check_hinted.Goals as goal
use Rattle.table_check.proofs.check_hinted.Goals.{Start, After-fill_hints}

shaped : (b : Start) → let t = b.args.tables in ShapedEach (use_is b.args.purpose) t.aliases.now t.likely.now t.parents.now
shaped b = shaped-each _ _ _ _ b.requires.0

pub indexed-aliases-requires : goal.indexed-aliases-requires
indexed-aliases-requires c =
    record { sorted = shape-sorted aliases _ (clear-one _ _ _ _ (sym (aliases-used _)) (shaped (goal.at.indexed-aliases-requires c).Start).aliases); hinted = c.fill_hints.ensures }

pub check_free-requires : goal.check_free-requires
unfolding kind_is
check_free-requires c = ((shaped (goal.at.check_free-requires c).Start).aliases, c.fill_hints.ensures)

pub check_free-requires-2 : goal.check_free-requires-2
unfolding kind_is
check_free-requires-2 c = ((shaped (goal.at.check_free-requires-2 c).Start).likely, hinted-empty _)

pub check_walks-requires : goal.check_walks-requires
unfolding kind_is
check_walks-requires c = (shaped (goal.at.check_walks-requires c).Start).parents

pub returns : goal.returns
unfolding kind_is
returns c =
    let s = c.requires.0 in
    third _ _ _ (clash-as _ _ _ _ c.indexed-aliases.ensures.0 c.in_ok-check_free.ensures ∙ clash-aliases _ _ _ _ s) (clash-as _ _ _ _ c.indexed-aliases.ensures.0 c.in_ok-check_free-2.ensures ∙ clash-likely _ _ _ _ s) _ (clash-as _ _ _ _ c.indexed-aliases.ensures.0 c.check_walks.ensures ∙ clash-parents _ _ _ _ s) ∙ each-table _ _ _ _ _

pub returns-in_err-check_free : goal.returns-in_err-check_free
unfolding kind_is
returns-in_err-check_free c =
    let s = c.requires.0 in
    handed _ _ c.from_residual.ensures.1 (first-bad _ _ _ _ (clash-as _ _ _ _ c.indexed-aliases.ensures.0 c.in_err-check_free.ensures ∙ clash-aliases _ _ _ _ s) ∙ each-table _ _ _ _ _)

pub returns-in_err-check_free-2 : goal.returns-in_err-check_free-2
unfolding kind_is
returns-in_err-check_free-2 c =
    let s = c.requires.0 in
    handed _ _ c.from_residual-in_err-check_free-2.ensures.1 (second-bad _ _ _ (clash-as _ _ _ _ c.indexed-aliases.ensures.0 c.in_ok-check_free.ensures ∙ clash-aliases _ _ _ _ s) _ (clash-as _ _ _ _ c.indexed-aliases.ensures.0 c.in_err-check_free-2.ensures ∙ clash-likely _ _ _ _ s) ∙ each-table _ _ _ _ _)
