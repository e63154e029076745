-- `answer_lines::print_rows` meets its contract. Assumes nothing.
use mathlib.Core.Path.{◌≡◌, refl, sym, ◌∙◌}
use Prim.Native.Nat.{◌-◌, ◌≤◌, ◌<◌}
use lib.ListN.{length, take}
use lib.Seq.{length-take-le}
use Rattle.lines.proofs.Pieces.{rest-length, used-rest}
use Rattle.program_io.proofs.Printing.{printing-start, printing-end, printing-failed, printing-piece}
use native.Mathlib.Omega.{arith}
use borrow.Author.Rules.{rules}
use Rattle.answer_lines.proofs.print_rows.Goals as goal
use Rattle.answer_lines.proofs.print_rows.Goals.{After-write_rows-written}

pub loop-at-init : goal.loop-at-init
loop-at-init g c = (refl, printing-start _ _ _ c.args.from c.requires.unfailed (omega arith))

pub slice_bounds-write_rows-count : goal.slice_bounds-write_rows-count
slice_bounds-write_rows-count g c = omega (arith, c.loop-at.invariant.1.within)

pub slice_bounds-write_rows-start : goal.slice_bounds-write_rows-start
slice_bounds-write_rows-start g c = omega (arith, c.loop-at.invariant.1.within)

pub slice_bounds-write_rows-end : goal.slice_bounds-write_rows-end
slice_bounds-write_rows-end g c = omega (arith, c.loop-at.invariant.1.within)

-- the rows of a call, and how much of the piece they answer
within : (g : _) (c : After-write_rows-written g) → c.write_rows-written.result.used ≤ length c.args.piece.now - c.loop-at.at
within g c = omega (arith, c.write_rows-written.ensures.in_piece, rest-length c.args.piece.now c.loop-at.at)

further : (g : _) (c : After-write_rows-written g) → 0 < c.write_rows-written.result.used
further g c =
    let l = c.loop-at in
    omega (arith, c.write_rows-written.ensures.used, used-rest (g.R.LineRows.row_of c.args.rows.now) g.R.LineRows.most (length l.out) c.args.piece.now l.at (omega (arith, l.invariant.0, c.requires.room)) c.loop-at-test.true)

pub slice_bounds-print-end : goal.slice_bounds-print-end
slice_bounds-print-end g c = omega (arith, c.write_rows-written.ensures.in_out, c.write_rows-written.auto)

-- what was printed is what the call wrote
size : (g : _) (c : After-write_rows-written g) → c.write_rows-written.result.len ≡ length (take c.write_rows-written.result.len c.write_rows-written.new.out)
size g c = let e : length c.write_rows-written.new.out ≡ length c.loop-at.out = search rules in sym (length-take-le _ _ (omega (arith, c.write_rows-written.ensures.in_out)))

pub slice_bounds-print-end-in-loop-at : goal.slice_bounds-print-end-in-loop-at
slice_bounds-print-end-in-loop-at g c = size g (goal.at.slice_bounds-print-end-in-loop-at g c).After-write_rows-written

pub returns-then-has_failed : goal.returns-then-has_failed
returns-then-has_failed g c =
    let l = c.loop-at in
    printing-failed _ _ _ _ l.o _ l.at _ l.invariant.1 c.print-o.ensures (sym c.has_failed.ensures ∙ c.if-has_failed.true)

pub overflow_add-at : goal.overflow_add-at
overflow_add-at g c = let g = within g (goal.at.overflow_add-at g c).After-write_rows-written in omega arith

pub loop-at-smaller : goal.loop-at-smaller
loop-at-smaller g c = let w = within g (goal.at.loop-at-smaller g c).After-write_rows-written in let f = further g (goal.at.loop-at-smaller g c).After-write_rows-written in omega arith

pub loop-at-preserved : goal.loop-at-preserved
loop-at-preserved g c =
    let l = c.loop-at in
    let w = c.write_rows-written in
    (search rules, printing-piece _ g.R.LineRows.most (length l.out) _ _ l.o _ l.at w.result.used w.result.len _ l.invariant.1 w.ensures.used (within g (goal.at.loop-at-preserved g c).After-write_rows-written) w.ensures.len (sym (size g (goal.at.loop-at-preserved g c).After-write_rows-written)) c.print-o.ensures (sym c.has_failed.ensures ∙ c.if-has_failed.false))

pub returns : goal.returns
returns g c = printing-end _ _ _ _ _ c.loop-at.at c.loop-at.invariant.1 c.loop-at-test.false
