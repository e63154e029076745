-- `reader::report::read` meets its contract. Assumes nothing.
use mathlib.Core.Path.{sym, ap, ◌∙◌}
use Rattle.std.proofs.lemmas.Result.{err_from_is_err_and}
use Rattle.reader.specs.Parts.{outcome_of}
use Rattle.reader.specs.Words.{report_is}
use Rattle.reader.proofs.Reports as reports
use Rattle.reader.proofs.report.read.Goals as goal

pub returns-in_err-p : goal.returns-in_err-p
unfolding report_is outcome_of
returns-in_err-p c =
    let e = err_from_is_err_and c.from_residual.result c.from_residual.ensures.1 in
    rw (e.1, e.2) (reports.report-bad _ _ _ (ap outcome_of (sym c.in_err-p.was) ∙ c.read_parts.ensures))

pub report_parts-requires : goal.report_parts-requires
unfolding outcome_of
report_parts-requires c = reports.accepted-outcome _ _ (ap outcome_of (sym c.in_ok-p.was) ∙ c.read_parts.ensures)

pub returns : goal.returns
unfolding report_is outcome_of
returns c = c.report_parts.ensures ∙ reports.report-good _ _ (ap outcome_of (sym c.in_ok-p.was) ∙ c.read_parts.ensures)
