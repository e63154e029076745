-- `program_io::status_of` meets its contract. Assumes nothing.
use Rattle.std.proofs.Common.{sym, ◌∙◌}
use Rattle.program_io.proofs.Laws.{status-refused, status-failed, status-done}
use Rattle.program_io.proofs.status_of.Goals as goal

pub returns-then-r-ne0 : goal.returns-then-r-ne0
returns-then-r-ne0 c =
    let r = c.args.r in
    status-refused r.number r.input.last r.output.failed (sym c.has_failed.ensures ∙ c.if-has_failed.false) c.if-r-ne0.true

pub returns-then-has_failed-2 : goal.returns-then-has_failed-2
returns-then-has_failed-2 c =
    let r = c.args.r in
    status-failed r.number r.input.last r.output.failed c.if-r-ne0.false (sym c.has_failed-2.ensures ∙ c.if-has_failed-2.true)

pub returns : goal.returns
returns c =
    let r = c.args.r in
    status-done r.number r.input.last r.output.failed (sym c.has_failed.ensures ∙ c.if-has_failed.false) c.if-r-ne0.false (sym c.has_failed-2.ensures ∙ c.if-has_failed-2.false)
