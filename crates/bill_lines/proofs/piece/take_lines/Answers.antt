-- `bill_lines::piece::take_lines` meets its contract. Assumes nothing.
use mathlib.Core.Path.{refl, sym, ◌∙◌}
use native.Mathlib.Omega.{arith}
use borrow.Author.Rules.{rules}
use Rattle.lines.proofs.Pieces.{Line, line, next-above}
use Rattle.bill_lines.proofs.Taking.{taken_none, taken_more, taken_next, taken-stopped, taken-all}
use Rattle.bill_lines.proofs.piece.take_lines.Goals as goal
use Rattle.bill_lines.proofs.piece.take_lines.Goals.{After-end_of-e}

pub loop-at-init : goal.loop-at-init
loop-at-init c =
    (refl, refl, refl, c.requires.1, c.requires.2, λ ls g. taken_none _ _ ls _ _ _ g)

pub returns-then-c-ne0 : goal.returns-then-c-ne0
returns-then-c-ne0 c =
    let l = c.loop-at in
    (l.invariant.3, l.invariant.4, λ ls g. taken-stopped _ _ ls _ _ _ _ c.if-c-ne0.true (l.invariant.5 ls g))

-- the line: where it starts and ends
the-line : (c : After-end_of-e) → Line c.args.piece.now c.loop-at.at c.end_of-e.result
the-line c = line c.args.piece.now c.loop-at.at c.end_of-e.result c.loop-at-test.true c.end_of-e.ensures

pub slice_bounds-take_line-count : goal.slice_bounds-take_line-count
slice_bounds-take_line-count c = let l = the-line (goal.at.slice_bounds-take_line-count c).After-end_of-e in omega (arith, l.low, l.high)

pub slice_bounds-take_line-start : goal.slice_bounds-take_line-start
slice_bounds-take_line-start c = let l = the-line (goal.at.slice_bounds-take_line-start c).After-end_of-e in omega (arith, l.low, l.high)

pub slice_bounds-take_line-end : goal.slice_bounds-take_line-end
slice_bounds-take_line-end c = let l = the-line (goal.at.slice_bounds-take_line-end c).After-end_of-e in omega (arith, l.low, l.high)

pub take_line-c-requires : goal.take_line-c-requires
take_line-c-requires c =
    let l = c.loop-at in
    (omega (arith, c.requires.0, l.invariant.2), l.invariant.3, l.invariant.4)

pub loop-at-smaller : goal.loop-at-smaller
loop-at-smaller c = omega (arith, next-above c.args.piece.now c.loop-at.at c.end_of-e.result c.next_line-at.result c.loop-at-test.true c.end_of-e.ensures c.next_line-at.ensures, c.loop-at-test.true)

pub loop-at-preserved : goal.loop-at-preserved
loop-at-preserved c =
    let v = c.take_line-c in
    let l = c.loop-at in (
      v.ensures.1.keys ∙ sym c.requires.2.keys,
      v.ensures.1.counts ∙ sym c.requires.2.counts,
      search rules,
      v.ensures.0,
      v.ensures.1,
      λ ls g. taken_next _ _ ls c.end_of-e.result _ _ _ _ c.next_line-at.ensures
          (taken_more _ _ ls l.at c.end_of-e.result l.c _ _ v.result _ _ c.loop-at-test.true c.end_of-e.ensures c.if-c-ne0.false (l.invariant.5 ls g) v.ensures.2),
    )

pub returns : goal.returns
returns c =
    let l = c.loop-at in
    (l.invariant.3, l.invariant.4, λ ls g. taken-all _ _ ls _ _ _ _ c.loop-at-test.false (l.invariant.5 ls g))
