-- `refused::answer_input` meets its contract: the rows of what was handed over so far are printed. Assumes nothing.
use mathlib.Core.Path.{◌≡◌, refl, sym, ◌∙◌, subst}
use mathlib.Core.Bool.{false}
use mathlib.Core.List.{[], ◌∷◌, ◌++◌}
use Prim.Native.Nat.{ℕ}
use native.Mathlib.Omega.{arith}
use lib.ListN.{take}
use lib.Seq.{length-take-le}
use Rattle.table.specs.Lines.{lines}
use Rattle.program_io.specs.Printed.{PrintsLines}
use Rattle.program_io.proofs.Laws.{block_of, end_of, failure-of}
use Rattle.program_io.proofs.Printing.{printed-header, headed-behind, headed-first, printed-more, handed-piece, answers-unread, answers-unwritten, answers-end}
use Rattle.refused_rows.specs.Numbered.{rows_from, number_after}
use Rattle.refused_rows.specs.Rows.{line_row}
use Rattle.refused_rows.proofs.Inputs.{first_rows}
use Rattle.refused.proofs.Listing.{lists}
use Rattle.refused.proofs.Numbers.{none, behind, number_more, number-none}
use borrow.Author.Rules.{rules}
use Rattle.refused.proofs.answer_input.Goals as goal
use Rattle.refused.proofs.answer_input.Goals.{After-print_rows-p}

pub loop-streams-init : goal.loop-streams-init
loop-streams-init c =
    let b = c.begin-input.ensures in
    (refl, refl, refl, refl, record { behind = b.0.behind; few = b.0.few; within = omega (arith, b.0.within) }, ([], b.1 _, printed-header _ _ (none _ 1) _ c.requires.3, number-none))

pub returns-then-has_failed : goal.returns-then-has_failed
returns-then-has_failed c =
    let n = c.next-input in
    let l = c.loop-streams in
    let h = n.ensures.2 l.invariant.5.0 l.invariant.5.1 in
    record { number = refl; blocks = l.invariant.5.0; given = lists _ _ _ _ _ n.ensures.1.most (answers-unread _ l.invariant.5.0 l.output _ l.invariant.5.2 (h.broken (failure-of n.result.last (sym c.has_failed.ensures ∙ c.if-has_failed.true)))) }

pub slice_bounds-say_first-end-in-loop-streams : goal.slice_bounds-say_first-end-in-loop-streams
slice_bounds-say_first-end-in-loop-streams c = let h = sym (length-take-le c.whole-whole.result c.next-input.new.piece (search rules)) in search rules

pub slice_bounds-print_rows-end-in-loop-streams : goal.slice_bounds-print_rows-end-in-loop-streams
slice_bounds-print_rows-end-in-loop-streams c = let h = sym (length-take-le c.whole-whole.result c.next-input.new.piece (search rules)) in search rules

pub print_rows-p-requires : goal.print_rows-p-requires
print_rows-p-requires c =
    let l = c.loop-streams in
    (l.invariant.0 ∙ c.requires.0, (let k = l.invariant.3 in omega (arith, k, c.requires.2)), l.invariant.5.2.going)

-- what was printed of the piece that was handed over, and the number behind it
piece-rows : (c : goal.After-print_rows-p)
    → PrintsLines (rows_from (line_row c.args.tables.aliases.rows.now c.args.tables.likely.rows.now) c.loop-streams.next) (lines (take c.next-input.result.taken.whole c.next-input.new.piece)) c.loop-streams.output c.print_rows-p.result.output × (c.print_rows-p.result.output.failed ≡ false → c.print_rows-p.result.next ≡ number_after c.loop-streams.next (lines (take c.next-input.result.taken.whole c.next-input.new.piece)))
piece-rows c =
    subst (λ (k : ℕ). PrintsLines (rows_from (line_row c.args.tables.aliases.rows.now c.args.tables.likely.rows.now) c.loop-streams.next) (lines (take k c.next-input.new.piece)) c.loop-streams.output c.print_rows-p.result.output × (c.print_rows-p.result.output.failed ≡ false → c.print_rows-p.result.next ≡ number_after c.loop-streams.next (lines (take k c.next-input.new.piece))))
    c.whole-whole.ensures c.print_rows-p.ensures

pub returns-then-has_failed-2 : goal.returns-then-has_failed-2
returns-then-has_failed-2 c =
    let n = c.next-input in
    let l = c.loop-streams in
    let bs = l.invariant.5.0 in
    let h = n.ensures.2 bs l.invariant.5.1 in
    let p = piece-rows (goal.at.returns-then-has_failed-2 c).After-print_rows-p in
    let w = handed-piece bs _ n.result _ h (sym c.has_failed.ensures ∙ c.if-has_failed.false) in
    record { number = refl; blocks = w.0; given = lists _ _ _ _ _ n.ensures.1.most (answers-unwritten _ bs _ l.output _ _ l.invariant.5.2 p.0 (headed-behind _ _ _ _ (behind bs l.next l.invariant.5.3 _)) w.0 _ w.1 w.2 (sym c.has_failed-in-loop-streams.ensures ∙ c.if-has_failed-2.true)) }

pub returns-then-is_ended : goal.returns-then-is_ended
returns-then-is_ended c =
    let n = c.next-input in
    let l = c.loop-streams in
    let bs = l.invariant.5.0 in
    let h = n.ensures.2 bs l.invariant.5.1 in
    let p = piece-rows (goal.at.returns-then-is_ended c).After-print_rows-p in
    let e = end_of n.result.last (sym c.is_ended.ensures ∙ c.if-is_ended.true) in
    record { number = refl; blocks = bs; given = lists _ _ _ _ _ n.ensures.1.most (answers-end _ bs _ l.output _ _ l.invariant.5.2 p.0 (headed-behind _ _ _ _ (behind bs l.next l.invariant.5.3 _)) (headed-first _ _ (first_rows _ _ 1)) _ (h.last e) (h.ended e) (sym c.has_failed-in-loop-streams.ensures ∙ c.if-has_failed-2.false)) }

pub loop-streams-smaller : goal.loop-streams-smaller
loop-streams-smaller c =
    let n = c.next-input in
    let k = n.ensures.1 in
    let s = k.some (block_of n.result.last (sym c.has_failed.ensures ∙ c.if-has_failed.false) (sym c.is_ended.ensures ∙ c.if-is_ended.false)) in
    omega (arith, k.bytes, k.most)

pub loop-streams-preserved : goal.loop-streams-preserved
loop-streams-preserved c =
    let n = c.next-input in
    let l = c.loop-streams in
    let bs = l.invariant.5.0 in
    let h = n.ensures.2 bs l.invariant.5.1 in
    let p = piece-rows (goal.at.loop-streams-preserved c).After-print_rows-p in
    let cs = bs ++ (take n.result.got n.new.block ∷ []) in
    let e = block_of n.result.last (sym c.has_failed.ensures ∙ c.if-has_failed.false) (sym c.is_ended.ensures ∙ c.if-is_ended.false) in
    let f = sym c.has_failed-in-loop-streams.ensures ∙ c.if-has_failed-2.false in
    let m = l.invariant.5.3 in
    let i = l.invariant in
    let j = i.0 in
    let k = i.1 in
    let o = i.2 in
    let u = i.3 in
    (search rules, search rules, search rules, search rules, search rules, (cs, h.going e, printed-more _ bs _ l.output _ _ l.invariant.5.2 p.0 (headed-behind _ _ _ _ (behind bs l.next m _)) cs (h.lines e) f, number_more bs l.next m _ cs _ (h.lines e) (p.1 f)))
