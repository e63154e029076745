-- `test_api::reads::probe_read` meets its contract. Assumes nothing.
use mathlib.Core.Path.{◌≡◌}
use Rattle.standard.specs.Report.{report}
use Rattle.test_api.specs.Codes.{report_code}
use Rattle.test_api.proofs.reads.probe_read.Given as goal

abbrev pub invariant-loop : goal.invariant-loop
invariant-loop l = l.r ≡ report_code (report l.id)
