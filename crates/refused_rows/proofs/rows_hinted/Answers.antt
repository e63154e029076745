-- `refused_rows::rows_hinted` meets its contract. Assumes nothing.
use Rattle.std.proofs.Common.{arith, rules}
use Rattle.lines.proofs.Pieces as pieces
use Rattle.refused_rows.specs.Numbered.{next_number}
use Rattle.refused_rows.specs.Rows.{line_row}
use Rattle.refused_rows.proofs.Numbered as numbered
use Rattle.refused_rows.proofs.Laws as laws
use borrow.Author.Rules.{rules}
use native.Mathlib.Omega.{arith}
use Rattle.refused_rows.proofs.rows_hinted.Goals as goal
use Rattle.refused_rows.proofs.rows_hinted.Goals.{After-end_of-e}

pub loop-at-init : goal.loop-at-init
loop-at-init c = (numbered.going_start _ 2400 _ _ _, c.requires, c.requires)

pub overflow_sub-out : goal.overflow_sub-out
overflow_sub-out c = omega (arith, c.loop-at.invariant.0.room, c.loop-at.invariant.0.same)

pub returns-then-out-len-lt2400 : goal.returns-then-out-len-lt2400
returns-then-out-len-lt2400 c =
    let l = c.loop-at in
    let g = l.invariant.0 in
    let d = numbered.going-full (line_row c.args.tables.aliases.rows.now c.args.tables.likely.rows.now) 2400 c.args.first c.args.piece.now c.args.out.now l.out l.at l.next l.len g (omega (arith, g.same)) in
    record { given = laws.rows-given c.args.tables.aliases.rows.now c.args.tables.likely.rows.now c.args.first c.args.piece.now c.args.tables.tested.passes c.args.out.now l.out _ d.used d.number d.size d.bytes g.room; in_piece = g.within; in_out = g.room }

-- the line that starts at `at`
line : (c : After-end_of-e) → pieces.Line c.args.piece.now c.loop-at.at c.end_of-e.result
line c = pieces.line _ _ _ c.loop-at-test.true c.end_of-e.ensures

pub slice_bounds-put_row-count : goal.slice_bounds-put_row-count
slice_bounds-put_row-count c = (line (goal.at.slice_bounds-put_row-count c).After-end_of-e).low

pub slice_bounds-put_row-start : goal.slice_bounds-put_row-start
slice_bounds-put_row-start c = omega (arith, line (goal.at.slice_bounds-put_row-start c).After-end_of-e)

pub slice_bounds-put_row-end : goal.slice_bounds-put_row-end
slice_bounds-put_row-end c = omega (arith, line (goal.at.slice_bounds-put_row-end c).After-end_of-e)

pub put_row-len-requires : goal.put_row-len-requires
put_row-len-requires c =
    let g = c.loop-at.invariant in
    (g.1, omega (arith, g.0.same, g.0.room))

pub loop-at-smaller : goal.loop-at-smaller
loop-at-smaller c =
    let l = c.loop-at in
    omega (arith, pieces.next-above c.args.piece.now l.at c.end_of-e.result c.next_line-at.result c.loop-at-test.true c.end_of-e.ensures c.next_line-at.ensures)

pub loop-at-preserved : goal.loop-at-preserved
unfolding next_number
loop-at-preserved c =
    let l = c.loop-at in
    let g = l.invariant.0 in
    let p = c.put_row-len in (
      numbered.going_more (line_row c.args.tables.aliases.rows.now c.args.tables.likely.rows.now) 2400 c.args.first c.args.piece.now c.args.out.now l.out _ l.at c.next_line-at.result c.end_of-e.result l.next _ l.len p.result g
          c.loop-at-test.true c.end_of-e.ensures c.next_line-at.ensures (omega (arith, g.same, g.room)) p.ensures.0 p.ensures.1 p.ensures.2 c.wrapping_add_usize-next.ensures.value,
      search rules,
      l.invariant.2,
    )

pub returns : goal.returns
returns c =
    let l = c.loop-at in
    let g = l.invariant.0 in
    let d = numbered.going_end (line_row c.args.tables.aliases.rows.now c.args.tables.likely.rows.now) 2400 c.args.first c.args.piece.now c.args.out.now l.out l.at l.next l.len g c.loop-at-test.false in
    record { given = laws.rows-given c.args.tables.aliases.rows.now c.args.tables.likely.rows.now c.args.first c.args.piece.now c.args.tables.tested.passes c.args.out.now l.out _ d.used d.number d.size d.bytes g.room; in_piece = g.within; in_out = g.room }
