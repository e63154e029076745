-- `inspect::run_keyed` meets its contract. Assumes nothing.
use mathlib.Core.Path.{sym, ap, ◌∙◌}
use Rattle.table_check.specs.Verdicts.{verdict_is}
use Rattle.operations.proofs.CompleteChecked.{tested-both}
use Rattle.program_io.specs.declared.output.Output.{Output}
use Rattle.program_io.proofs.Printing.{headed-printed}
use Rattle.program_io.proofs.Runs.{runs-unheaded, runs-replies, runs-refuses}
use Rattle.inspect.proofs.run_keyed.Goals as goal

pub returns-then-has_failed : goal.returns-then-has_failed
returns-then-has_failed c =
    let u = c.unread.ensures in
    runs-unheaded _ _ _ _ u.input u.number (ap (λ (o : Output). o.failed) u.output ∙ sym c.has_failed.ensures ∙ c.if-has_failed.true)

pub answer_keyed-requires : goal.answer_keyed-requires
answer_keyed-requires c =
    let v = c.check_likely in
    let h = c.print_header-o.ensures in (
      tested-both _ _ (sym v.ensures ∙ ap verdict_is c.in-Ok.is),
      headed-printed _ h.0 c.print_header-o.result h.1 h.2 (sym c.has_failed.ensures ∙ c.if-has_failed.false),
    )

pub returns-in-Ok : goal.returns-in-Ok
returns-in-Ok c =
    let v = c.check_likely in
    let a = c.answer_keyed.ensures in
    runs-replies _ _ _ _ (sym v.ensures ∙ ap verdict_is c.in-Ok.is) a.number a.blocks a.given

pub returns-in-Err : goal.returns-in-Err
returns-in-Err c =
    let v = c.check_likely in
    let h = c.print_header-o.ensures in
    let r = c.refuse.ensures in
    runs-refuses _ _ _ _ _ (sym v.ensures ∙ ap verdict_is c.in-Err.is) r.number r.input h.0 c.print_header-o.result h.1 h.2
    (sym c.has_failed.ensures ∙ c.if-has_failed.false) r.printed
