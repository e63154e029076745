-- `bill::take_input` meets its contract: the bill holds the lines that were handed over so far. Assumes nothing.
use mathlib.Core.Path.{refl, sym, ◌∙◌, subst}
use mathlib.Core.List.{[], ◌∷◌, ◌++◌}
use Prim.Native.Nat.{ℕ}
use native.Mathlib.Omega.{arith}
use lib.ListN.{take}
use lib.Seq.{length-take-le}
use Rattle.table.specs.Lines.{lines}
use Rattle.lines.specs.Squeeze.{handed_over, all_lines}
use Rattle.program_io.proofs.Laws.{block_of, end_of, failure-of}
use Rattle.bill_lines.specs.Held.{Held}
use Rattle.bill_lines.proofs.Blocks.{held_none, held-piece}
use Rattle.bill.proofs.Laws.{bills-whole, bills-refused, bills-broken}
use borrow.Author.Rules.{rules}
use Rattle.bill.proofs.take_input.Goals as goal
use Rattle.bill.proofs.take_input.Goals.{After-add_hinted-c}

pub loop-streams-init : goal.loop-streams-init
loop-streams-init c =
    let b = c.begin-input.ensures in
    (refl, refl, refl, refl, refl, record { behind = b.0.behind; few = b.0.few; within = omega (arith, b.0.within) }, c.requires.2, ([], b.1 _, held_none _ _ _ _ _ c.requires.3))

pub returns-then-has_failed : goal.returns-then-has_failed
returns-then-has_failed c =
    let n = c.next-input in
    let l = c.loop-streams in
    let h = n.ensures.2 l.invariant.7.0 l.invariant.7.1 in
    (l.invariant.7.0, bills-broken _ _ _ _ _ _ (h.broken (failure-of n.result.last (sym c.has_failed.ensures ∙ c.if-has_failed.true))))

pub slice_bounds-mention-end-in-loop-streams : goal.slice_bounds-mention-end-in-loop-streams
slice_bounds-mention-end-in-loop-streams c = let h = sym (length-take-le c.whole-whole.result c.next-input.new.piece (search rules)) in search rules

pub slice_bounds-add_hinted-end-in-loop-streams : goal.slice_bounds-add_hinted-end-in-loop-streams
slice_bounds-add_hinted-end-in-loop-streams c = let h = sym (length-take-le c.whole-whole.result c.next-input.new.piece (search rules)) in search rules

pub add_hinted-c-requires : goal.add_hinted-c-requires
add_hinted-c-requires c =
    let l = c.loop-streams in
    let h = l.invariant.7.2 in
    ((let k = l.invariant.4 in omega (arith, k, c.requires.0)), record { number = l.invariant.6; bounded = h.bounded; sized = h.sized })

-- the bill after the piece that was handed over
piece-held : (c : goal.After-add_hinted-c)
    → Held c.args.tables.aliases.rows.now c.args.tables.likely.rows.now (all_lines (handed_over [] c.loop-streams.invariant.7.0) ++ lines (take c.next-input.result.taken.whole c.next-input.new.piece)) c.add_hinted-c.result c.add_hinted-c.new.keys c.add_hinted-c.new.counts
piece-held c =
    let l = c.loop-streams in
    subst (λ (k : ℕ). Held c.args.tables.aliases.rows.now c.args.tables.likely.rows.now (all_lines (handed_over [] l.invariant.7.0) ++ lines (take k c.next-input.new.piece)) c.add_hinted-c.result c.add_hinted-c.new.keys c.add_hinted-c.new.counts)
    c.whole-whole.ensures (c.add_hinted-c.ensures.0 _ l.invariant.7.2)

pub returns-then-c-ne0 : goal.returns-then-c-ne0
returns-then-c-ne0 c =
    let n = c.next-input in
    let l = c.loop-streams in
    let bs = l.invariant.7.0 in
    let h = n.ensures.2 bs l.invariant.7.1 in
    let p = piece-held (goal.at.returns-then-c-ne0 c).After-add_hinted-c in
    bills-refused _ _ bs _ _ _ _ _ h p _ _ _ l.invariant.7.2 l.invariant.6 (sym c.has_failed.ensures ∙ c.if-has_failed.false) c.if-c-ne0.true

pub returns-then-is_ended : goal.returns-then-is_ended
returns-then-is_ended c =
    let n = c.next-input in
    let l = c.loop-streams in
    let bs = l.invariant.7.0 in
    let h = n.ensures.2 bs l.invariant.7.1 in
    let p = piece-held (goal.at.returns-then-is_ended c).After-add_hinted-c in
    (bs, bills-whole _ _ bs _ _ _ _ _ h p (end_of n.result.last (sym c.is_ended.ensures ∙ c.if-is_ended.true)))

pub loop-streams-smaller : goal.loop-streams-smaller
loop-streams-smaller c =
    let n = c.next-input in
    let k = n.ensures.1 in
    let s = k.some (block_of n.result.last (sym c.has_failed.ensures ∙ c.if-has_failed.false) (sym c.is_ended.ensures ∙ c.if-is_ended.false)) in
    omega (arith, k.bytes, k.most)

pub loop-streams-preserved : goal.loop-streams-preserved
loop-streams-preserved c =
    let n = c.next-input in
    let l = c.loop-streams in
    let bs = l.invariant.7.0 in
    let h = n.ensures.2 bs l.invariant.7.1 in
    let p = piece-held (goal.at.loop-streams-preserved c).After-add_hinted-c in
    let cs = bs ++ (take n.result.got n.new.block ∷ []) in
    let e = block_of n.result.last (sym c.has_failed.ensures ∙ c.if-has_failed.false) (sym c.is_ended.ensures ∙ c.if-is_ended.false) in
    let k = n.auto in
    let a = c.add_hinted-c.auto in
    let i = l.invariant in
    (search rules, search rules, search rules, search rules, search rules, (let q = n.ensures.0 in search rules), c.if-c-ne0.false, (cs, h.going e, held-piece _ _ (handed_over [] bs) _ _ _ _ _ (h.lines e) p))
