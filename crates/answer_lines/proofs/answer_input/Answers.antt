-- `answer_lines::answer_input` meets its contract: the rows of what was handed over so far are printed. Assumes nothing.
use mathlib.Core.Path.{refl, sym, ◌∙◌, subst}
use mathlib.Core.List.{[], ◌∷◌, ◌++◌}
use Prim.Native.Nat.{ℕ}
use native.Mathlib.Omega.{arith}
use lib.ListN.{take}
use lib.Seq.{length-take-le}
use Rattle.table.specs.Lines.{lines}
use Rattle.lines.specs.Pieces.{rows_text}
use Rattle.lines.proofs.Pieces.{rows_none, rows_append, rows-first}
use Rattle.program_io.specs.Printed.{PrintsLines}
use Rattle.program_io.proofs.Laws.{block_of, end_of, failure-of}
use Rattle.program_io.proofs.Printing.{printed-header, headed-behind, headed-first, printed-more, handed-piece, answers-unread, answers-unwritten, answers-end}
use borrow.Author.Rules.{rules}
use Rattle.answer_lines.proofs.answer_input.Goals as goal
use Rattle.answer_lines.proofs.answer_input.Goals.{After-print_rows-output}

pub loop-streams-init : goal.loop-streams-init
loop-streams-init g c =
    let b = c.begin-input.ensures in
    (refl, refl, refl, record { behind = b.0.behind; few = b.0.few; within = omega (arith, b.0.within) }, c.requires.unfailed, ([], b.1 _, λ header h. printed-header _ _ (rows_none _) _ h))

pub returns-then-has_failed : goal.returns-then-has_failed
returns-then-has_failed g c = λ header e.
    let n = c.next-input in
    let v = c.loop-streams.invariant.5 in
    let h = n.ensures.2 v.0 v.1 in
    let r = c.replied.ensures in
    record { number = r.number; blocks = v.0; given = rw (r.input, r.output) (answers-unread _ v.0 c.loop-streams.output _ (v.2 header e) (h.broken (failure-of n.result.last (sym c.has_failed.ensures ∙ c.if-has_failed.true)))) }

pub slice_bounds-print_rows-end-in-loop-streams : goal.slice_bounds-print_rows-end-in-loop-streams
slice_bounds-print_rows-end-in-loop-streams g c = let h = sym (length-take-le c.whole-whole.result c.next-input.new.piece (search rules)) in search rules

pub print_rows-output-requires : goal.print_rows-output-requires
print_rows-output-requires g c =
    let l = c.loop-streams in
    record { room = (let k = l.invariant.2 in omega (arith, k, c.requires.room)); unfailed = l.invariant.4 }

piece-rows : (g : _) (c : After-print_rows-output g)
    → PrintsLines (rows_text (g.R.LineRows.row_of c.args.rows.now)) (lines (take c.next-input.result.taken.whole c.next-input.new.piece)) c.loop-streams.output c.print_rows-output.result
piece-rows g c =
    subst (λ (k : ℕ). PrintsLines (rows_text (g.R.LineRows.row_of c.args.rows.now)) (lines (take k c.next-input.new.piece)) c.loop-streams.output c.print_rows-output.result)
    c.whole-whole.ensures c.print_rows-output.ensures

pub returns-then-has_failed-2 : goal.returns-then-has_failed-2
returns-then-has_failed-2 g c = λ header e.
    let n = c.next-input in
    let v = c.loop-streams.invariant.5 in
    let bs = v.0 in
    let h = n.ensures.2 bs v.1 in
    let p = piece-rows g (goal.at.returns-then-has_failed-2 g c).After-print_rows-output in
    let w = handed-piece bs _ n.result _ h (sym c.has_failed.ensures ∙ c.if-has_failed.false) in
    let r = c.replied-then-has_failed-2.ensures in
    record { number = r.number; blocks = w.0; given = rw (r.input, r.output) (answers-unwritten _ bs _ c.loop-streams.output _ _ (v.2 header e) p (headed-behind _ _ _ _ (rows_append _ _)) w.0 _ w.1 w.2 (sym c.has_failed-in-loop-streams.ensures ∙ c.if-has_failed-2.true)) }

pub returns-then-is_ended : goal.returns-then-is_ended
returns-then-is_ended g c = λ header e.
    let n = c.next-input in
    let v = c.loop-streams.invariant.5 in
    let bs = v.0 in
    let h = n.ensures.2 bs v.1 in
    let p = piece-rows g (goal.at.returns-then-is_ended g c).After-print_rows-output in
    let i = end_of n.result.last (sym c.is_ended.ensures ∙ c.if-is_ended.true) in
    let r = c.replied-then-is_ended.ensures in
    record { number = r.number; blocks = bs; given = rw (r.input, r.output) (answers-end _ bs _ c.loop-streams.output _ _ (v.2 header e) p (headed-behind _ _ _ _ (rows_append _ _)) (headed-first _ _ (rows-first _ (g.met.R.LineRows.first c.args.rows.now))) _ (h.last i) (h.ended i) (sym c.has_failed-in-loop-streams.ensures ∙ c.if-has_failed-2.false)) }

pub loop-streams-smaller : goal.loop-streams-smaller
loop-streams-smaller g c =
    let n = c.next-input in
    let k = n.ensures.1 in
    let s = k.some (block_of n.result.last (sym c.has_failed.ensures ∙ c.if-has_failed.false) (sym c.is_ended.ensures ∙ c.if-is_ended.false)) in
    omega (arith, k.bytes, k.most)

pub loop-streams-preserved : goal.loop-streams-preserved
loop-streams-preserved g c =
    let n = c.next-input in
    let v = c.loop-streams.invariant.5 in
    let bs = v.0 in
    let h = n.ensures.2 bs v.1 in
    let p = piece-rows g (goal.at.loop-streams-preserved g c).After-print_rows-output in
    let cs = bs ++ (take n.result.got n.new.block ∷ []) in
    let f = sym c.has_failed-in-loop-streams.ensures ∙ c.if-has_failed-2.false in
    let e = block_of n.result.last (sym c.has_failed.ensures ∙ c.if-has_failed.false) (sym c.is_ended.ensures ∙ c.if-is_ended.false) in
    (search rules, search rules, search rules, search rules, f, (cs, h.going e, λ header q. printed-more _ bs _ c.loop-streams.output _ _ (v.2 header q) p (headed-behind _ _ _ _ (rows_append _ _)) cs (h.lines e) f))
