-- `refused::print_rows` meets its contract. Assumes nothing.
use mathlib.Core.Path.{◌≡◌, refl, sym, ◌∙◌}
use Prim.Native.Nat.{◌-◌, ◌≤◌, ◌<◌}
use native.Mathlib.Omega.{arith}
use lib.ListN.{length, take, drop}
use lib.Seq.{length-take-le}
use Rattle.lines.proofs.Pieces.{rest-length}
use Rattle.refused_rows.proofs.Laws as laws
use Rattle.refused.proofs.Numbers.{numbering_start, numbering-more, numbering-end, numbering-failed}
use borrow.Author.Rules.{rules}
use Rattle.refused.proofs.print_rows.Goals as goal
use Rattle.refused.proofs.print_rows.Goals.{After-rows_hinted-k}

pub loop-at-init : goal.loop-at-init
loop-at-init c = (c.requires.0, refl, numbering_start _ c.args.first _ c.args.from c.requires.2 (omega arith))

pub slice_bounds-rows_hinted-count : goal.slice_bounds-rows_hinted-count
slice_bounds-rows_hinted-count c = omega (arith, c.loop-at.invariant.2.within)

pub slice_bounds-rows_hinted-start : goal.slice_bounds-rows_hinted-start
slice_bounds-rows_hinted-start c = omega (arith, c.loop-at.invariant.2.within)

pub slice_bounds-rows_hinted-end : goal.slice_bounds-rows_hinted-end
slice_bounds-rows_hinted-end c = omega (arith, c.loop-at.invariant.2.within)

-- the rows of a call, how much of the piece they answer, and the number behind it
good : (c : goal.After-rows_hinted-k) → laws.Good c.args.tables.aliases.rows.now c.args.tables.likely.rows.now c.loop-at.next (take (length c.args.piece.now - c.loop-at.at) (drop c.loop-at.at c.args.piece.now)) c.loop-at.out _ c.rows_hinted-k.result c.rows_hinted-k.ensures.given
good c = laws.good-rowed _ _ _ _ c.loop-at.out _ c.rows_hinted-k.result c.rows_hinted-k.ensures.given c.args.tables.tested.passes

-- a call uses no more than there is, and something where there is something
within : (c : goal.After-rows_hinted-k) → c.rows_hinted-k.result.used ≤ length c.args.piece.now - c.loop-at.at
within c = omega (arith, c.rows_hinted-k.ensures.in_piece, rest-length c.args.piece.now c.loop-at.at)

further : (c : goal.After-rows_hinted-k) → 0 < c.rows_hinted-k.result.used
further c =
    let l = c.loop-at in
    let r = rest-length c.args.piece.now l.at in
    let h = l.invariant.1 in
    laws.further _ _ l.next (take (length c.args.piece.now - l.at) (drop l.at c.args.piece.now)) l.out _ c.rows_hinted-k.result c.rows_hinted-k.ensures.given (omega (arith, h, c.requires.1)) (omega (arith, r, c.loop-at-test.true))

-- what was printed is what the call wrote
size : (c : goal.After-rows_hinted-k) → c.rows_hinted-k.result.len ≡ length (take c.rows_hinted-k.result.len c.rows_hinted-k.new.out)
size c = let e : length c.rows_hinted-k.new.out ≡ length c.loop-at.out = search rules in sym (length-take-le _ _ (omega (arith, c.rows_hinted-k.ensures.in_out)))

pub slice_bounds-print-end : goal.slice_bounds-print-end
slice_bounds-print-end c = omega (arith, c.rows_hinted-k.ensures.in_out, c.rows_hinted-k.auto)

pub slice_bounds-print-end-in-loop-at : goal.slice_bounds-print-end-in-loop-at
slice_bounds-print-end-in-loop-at c = size (goal.at.slice_bounds-print-end-in-loop-at c).After-rows_hinted-k

pub returns-then-has_failed : goal.returns-then-has_failed
returns-then-has_failed c =
    let l = c.loop-at in
    numbering-failed _ _ _ _ l.o _ l.at l.next _ _ l.invariant.2 c.print-o.ensures (sym c.has_failed.ensures ∙ c.if-has_failed.true)

pub overflow_add-at : goal.overflow_add-at
overflow_add-at c = let g = within (goal.at.overflow_add-at c).After-rows_hinted-k in omega arith

pub loop-at-smaller : goal.loop-at-smaller
loop-at-smaller c = let w = within (goal.at.loop-at-smaller c).After-rows_hinted-k in let f = further (goal.at.loop-at-smaller c).After-rows_hinted-k in omega arith

pub loop-at-preserved : goal.loop-at-preserved
loop-at-preserved c =
    let l = c.loop-at in
    let g = good (goal.at.loop-at-preserved c).After-rows_hinted-k in
    (search rules, search rules, numbering-more _ _ 2400 (length l.out) _ _ l.o _ l.at l.next c.rows_hinted-k.result.used _ c.rows_hinted-k.result.len _ l.invariant.2 g.used (within (goal.at.loop-at-preserved c).After-rows_hinted-k) g.next g.len (sym (size (goal.at.loop-at-preserved c).After-rows_hinted-k)) c.print-o.ensures (sym c.has_failed.ensures ∙ c.if-has_failed.false))

pub returns : goal.returns
returns c = numbering-end _ _ _ _ _ c.loop-at.at c.loop-at.next c.loop-at.invariant.2 c.loop-at-test.false
