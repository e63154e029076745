-- `test_api::reads::read_once` meets its contract. Assumes nothing.
use mathlib.Core.Path.{sym, ap, ap₂, ◌∙◌}
use Prim.Native.Nat.{ℕ, ◌+◌, ◌*◌, ◌%◌}
use Rattle.standard.specs.Report.{report_of}
use Rattle.reader.specs.Words.{report_is, accepted_is, refused_report}
use Rattle.test_api.specs.Codes.{report_code}
use Rattle.test_api.proofs.reads.read_once.Goals as goal

pub returns-in-Ok : goal.returns-in-Ok
unfolding report_code report_is accepted_is
returns-in-Ok c = ap report_code (ap report_is (sym c.in-Ok.is) ∙ c.read.ensures)

pub returns-in-Err : goal.returns-in-Err
unfolding report_code report_is refused_report report_of
returns-in-Err c =
    let f = c.fault_of-fault.ensures in
    ap₂ (λ (n p : ℕ). n + p % 65536 * 65536) (c.from.ensures ∙ f.0) f.1 ∙ ap report_code (ap report_is (sym c.in-Err.is) ∙ c.read.ensures)
