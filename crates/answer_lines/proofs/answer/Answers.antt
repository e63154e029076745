-- `answer_lines::answer` meets its contract. Assumes nothing.
use native.Mathlib.Omega.{arith}
use Rattle.answer_lines.proofs.answer.Goals as goal

pub answer_input-requires-clause-buffers : goal.answer_input-requires-clause-buffers
answer_input-requires-clause-buffers g c =
    let b = c.block_buffer-block.ensures in
    let p = c.piece_buffer-piece.ensures in
    record { some = omega (arith, b); behind = omega (arith, b, p) }
