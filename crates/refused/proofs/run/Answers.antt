-- `refused::run` meets its contract. Assumes nothing.
use mathlib.Core.Path.{refl, sym, ◌∙◌}
use Rattle.operations.proofs.CompleteChecked.{tested-both}
use Rattle.program_io.proofs.Printing.{headed-printed}
use Rattle.program_io.proofs.Runs.{runs-unheaded, runs-replies, runs-refuses}
use Rattle.refused.specs.Header.{header}
use Rattle.refused.proofs.run.Goals as goal

pub returns-then-has_failed : goal.returns-then-has_failed
returns-then-has_failed c = runs-unheaded _ _ _ _ c.begin-then-has_failed.ensures.1 refl (sym c.has_failed.ensures ∙ c.if-has_failed.true)

pub returns-in-Err : goal.returns-in-Err
unfolding header
returns-in-Err c =
    let p = c.print-o in
    let b = c.begin in
    runs-refuses _ _ _ _ _ (sym c.in-Err.ensures) c.number-number.ensures c.begin-in-Err.ensures.1 b.result p.result b.ensures.0 p.ensures
    (sym c.has_failed.ensures ∙ c.if-has_failed.false) (rw (← c.number-number.ensures, ← c.table_number.ensures) c.print_table-output.ensures)

pub answer-requires : goal.answer-requires
unfolding header
answer-requires c =
    let p = c.print-o in
    let b = c.begin in
    (tested-both _ _ (sym c.in-Ok.ensures), headed-printed _ b.result p.result b.ensures.0 p.ensures (sym c.has_failed.ensures ∙ c.if-has_failed.false))

pub returns-in-Ok : goal.returns-in-Ok
returns-in-Ok c = let a = c.answer.ensures in runs-replies _ _ _ _ (sym c.in-Ok.ensures) a.number a.blocks a.given
