-- `lines::next_piece` meets its contract. Assumes nothing.
use mathlib.Core.Path.{◌≡◌, sym, ◌∙◌}
use native.Mathlib.Omega.{arith}
use lib.ListN.{length}
use Rattle.lines.specs.Reader.{Carries}
use Rattle.lines.proofs.Blocks.{front-line, hands_more, hands-last}
use borrow.Author.Rules.{rules}
use Rattle.lines.proofs.next_piece.Goals as goal

pub returns-then-block-eq0 : goal.returns-then-block-eq0
unfolding Carries
returns-then-block-eq0 c =
    let k = c.keep_rest-kept in
    let n = k.ensures.0 in (
      record { behind = omega arith; few = omega arith; within = omega arith },
      λ bs l. hands-last bs c.args.block.now _ _ (front-line c.args.piece.now _ c.args.t k.result c.requires.0 n k.ensures.1 ∙ l) c.if-block-eq0.true,
    )

pub returns : goal.returns
unfolding Carries
returns c =
    let t = c.take_in in
    let k = c.keep_rest-kept in
    let n = k.ensures.0 in
    let same : length k.new.piece ≡ length c.args.piece.now = search rules in
    let e = t.ensures in (
      record { behind = omega (arith, e.1); few = omega (arith, e.4); within = omega (arith, e.3) },
      λ bs l. hands_more _ k.new.piece c.args.block.now k.result (omega arith)
          (front-line c.args.piece.now _ c.args.t k.result c.requires.0 n k.ensures.1) _ t.result e.0 e.1 e.2 (omega (arith, e.3)) bs (sym l) (omega (arith, c.if-block-eq0.false)),
    )
