-- `keys::answer` meets its contract. Assumes nothing.
use mathlib.Core.Path.{◌≡◌, ◌∙◌}
use native.Mathlib.Omega.{arith}
use Rattle.keys.proofs.answer.Goals as goal

pub answer-requires : goal.answer-requires
answer-requires c = record { room = omega (arith, c.out_buffer-out.ensures); unfailed = c.requires.1.printed }

pub returns : goal.returns
returns c =
    let a : c.tested-tables.result.aliases.rows.now ≡ c.args.aliases.now = c.tested-tables.ensures.0 ∙ c.indexed.ensures.0 in
    let l : c.tested-tables.result.likely.rows.now ≡ c.args.likely.now = c.tested-tables.ensures.1 ∙ c.indexed-2.ensures.0 in
    rw (a, l) at (c.answer.ensures _ c.requires.1)
