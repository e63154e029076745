-- `refused::answer` meets its contract. Assumes nothing.
use mathlib.Core.Path.{◌∙◌}
use native.Mathlib.Omega.{arith}
use Rattle.refused.proofs.answer.Goals as goal

pub answer_input-requires : goal.answer_input-requires
answer_input-requires c =
    let b = c.block_buffer-block.ensures in
    let p = c.piece_buffer-piece.ensures in
    let o = c.out_buffer-out.ensures in (
      c.form_buffer-form.ensures,
      record { some = omega (arith, b); behind = omega (arith, b, p) },
      omega (arith, o),
      c.requires.1,
    )

pub returns : goal.returns
returns c = rw (c.tested-tables.ensures.0 ∙ c.indexed.ensures.0, c.tested-tables.ensures.1 ∙ c.indexed-2.ensures.0) at c.answer_input.ensures
