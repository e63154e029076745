-- `keys::run` meets its contract. Assumes nothing.
use mathlib.Core.Path.{sym, ap, ◌∙◌}
use Rattle.table_check.specs.Verdicts.{verdict_is}
use Rattle.operations.proofs.CompleteChecked.{tested-both}
use Rattle.program_io.specs.declared.output.Output.{Output}
use Rattle.program_io.proofs.Printing.{headed-printed}
use Rattle.program_io.proofs.Runs.{runs-unheaded, runs-replies, runs-refuses}
use Rattle.keys.specs.Header.{header}
use Rattle.keys.proofs.run.Goals as goal

pub returns-then-has_failed : goal.returns-then-has_failed
returns-then-has_failed c =
    let u = c.unread.ensures in
    runs-unheaded _ _ _ _ u.input u.number (ap (λ (o : Output). o.failed) u.output ∙ sym c.has_failed.ensures ∙ c.if-has_failed.true)

pub answer-requires : goal.answer-requires
unfolding header
answer-requires c =
    let v = c.check_likely in
    let p = c.print-o in
    let b = c.begin in (
      tested-both _ _ (sym v.ensures ∙ ap verdict_is c.in-Ok.is),
      headed-printed _ b.result p.result b.ensures.0 p.ensures (sym c.has_failed.ensures ∙ c.if-has_failed.false),
    )

pub returns-in-Ok : goal.returns-in-Ok
returns-in-Ok c =
    let v = c.check_likely in
    let a = c.answer.ensures in
    runs-replies _ _ _ _ (sym v.ensures ∙ ap verdict_is c.in-Ok.is) a.number a.blocks a.given

pub returns-in-Err : goal.returns-in-Err
unfolding header
returns-in-Err c =
    let v = c.check_likely in
    let p = c.print-o in
    let b = c.begin in
    let r = c.refuse.ensures in
    runs-refuses _ _ _ _ _ (sym v.ensures ∙ ap verdict_is c.in-Err.is) r.number r.input b.result p.result b.ensures.0 p.ensures
    (sym c.has_failed.ensures ∙ c.if-has_failed.false) r.printed
