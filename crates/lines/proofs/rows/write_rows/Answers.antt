-- `lines::rows::write_rows` meets its contract. Assumes nothing.
use native.Mathlib.Omega.{arith}
use Rattle.lines.proofs.Pieces as pieces
use Rattle.lines.proofs.rows.write_rows.Goals as goal
use Rattle.lines.proofs.rows.write_rows.Goals.{After-end_of-e}

pub loop-at-init : goal.loop-at-init
loop-at-init g c = pieces.going_start _ _ _ _

pub overflow_sub-out : goal.overflow_sub-out
overflow_sub-out g c = omega (arith, c.loop-at.invariant.room, c.loop-at.invariant.same)

line : (g : _) (c : After-end_of-e g) → pieces.Line c.args.piece.now c.loop-at.at c.end_of-e.result
line g c = pieces.line _ _ _ c.loop-at-test.true c.end_of-e.ensures

pub slice_bounds-put-count : goal.slice_bounds-put-count
slice_bounds-put-count g c = (line g (goal.at.slice_bounds-put-count g c).After-end_of-e).low

pub slice_bounds-put-start : goal.slice_bounds-put-start
slice_bounds-put-start g c = omega (arith, line g (goal.at.slice_bounds-put-start g c).After-end_of-e)

pub slice_bounds-put-end : goal.slice_bounds-put-end
slice_bounds-put-end g c = omega (arith, line g (goal.at.slice_bounds-put-end g c).After-end_of-e)

pub put-len-requires : goal.put-len-requires
put-len-requires g c = omega (arith, c.loop-at.invariant.same, c.loop-at.invariant.room)

pub loop-at-smaller : goal.loop-at-smaller
loop-at-smaller g c =
    let l = c.loop-at in
    omega (arith, pieces.next-above c.args.piece.now l.at c.end_of-e.result c.next_line-at.result c.loop-at-test.true c.end_of-e.ensures c.next_line-at.ensures)

pub loop-at-preserved : goal.loop-at-preserved
loop-at-preserved g c =
    let l = c.loop-at in
    let i = l.invariant in
    let p = c.put-len in
    pieces.going_more _ _ c.args.piece.now c.args.out.now l.out p.new.out l.at c.next_line-at.result c.end_of-e.result l.len p.result i
    c.loop-at-test.true c.end_of-e.ensures c.next_line-at.ensures (omega (arith, i.same, i.room)) p.ensures.0 p.ensures.1 p.ensures.2

pub returns-then-out-len : goal.returns-then-out-len
returns-then-out-len g c =
    let l = c.loop-at in
    let i = l.invariant in
    let d = pieces.going-full _ _ c.args.piece.now c.args.out.now l.out l.at l.len i (let r = c.room.ensures in omega (arith, i.same)) in
    record { used = d.0; len = d.1; text = d.2; in_piece = i.within; in_out = i.room }

pub returns : goal.returns
returns g c =
    let l = c.loop-at in
    let i = l.invariant in
    let d = pieces.going_end _ _ c.args.piece.now c.args.out.now l.out l.at l.len i c.loop-at-test.false in
    record { used = d.0; len = d.1; text = d.2; in_piece = i.within; in_out = i.room }
