-- `canonical_order::heads::next_of` meets its contract. Assumes nothing.
use mathlib.Core.Path.{sym, ap, ◌∙◌}
use native.Mathlib.Numerals.{add-one}
use lib.Seq.{drop-cons}
use Rattle.canonical_order.specs.Heads.{pick_by}
use Rattle.canonical_order.proofs.Scanned.{pick-more, pick-over}
use Rattle.canonical_order.proofs.heads.next_of.Goals as goal

pub loop-head-init : goal.loop-head-init
loop-head-init c = ap (λ b. pick_by c.args.last b c.args.heads.now) (sym c.no_head-best.ensures)

pub loop-head-preserved : goal.loop-head-preserved
loop-head-preserved c =
    let d = drop-cons c.args.heads.now c.loop-head.head-index _ c.loop-head-test.true in
    c.loop-head.invariant ∙ pick-more _ _ _ c.args.heads.now c.loop-head.head-index _ (rw add-one d) c.better-best.ensures

pub returns : goal.returns
returns c = sym (c.loop-head.invariant ∙ pick-over _ _ c.args.heads.now _ c.loop-head-test.false)
