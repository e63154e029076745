-- `answer_lines::unread` meets its contract. Assumes nothing.
use mathlib.Core.Path.{refl}
use Rattle.answer_lines.proofs.unread.Goals as goal

pub returns : goal.returns
returns c =
    let r = c.replied-run.ensures in
    record { number = refl; input = λ piece. rw r.input (c.begin.ensures.1 piece); output = r.output }
