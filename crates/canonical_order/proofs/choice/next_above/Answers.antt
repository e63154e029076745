-- `canonical_order::choice::next_above` meets its contract. Assumes nothing.
use native.Mathlib.Omega.{arith}
use mathlib.Core.Path.{◌≡◌, sym, ap, ◌∙◌}
use Prim.Native.Nat.{◌+◌}
use Rattle.subtag.specs.Sections.{tags_of}
use Rattle.canonical_order.specs.Section.{pick_from}
use Rattle.canonical_order.specs.Heads.{better_by}
use Rattle.canonical_order.proofs.Picks as picks
use Rattle.canonical_order.proofs.Scanned.{better-same, ends-behind}
use Rattle.canonical_order.proofs.choice.next_above.Goals as goal
use Rattle.canonical_order.proofs.choice.next_above.Goals.{After-scan, After-head_of-head, After-better-best}

pub loop-at-init : goal.loop-at-init
loop-at-init c = (omega arith, c.requires.0, ap (λ b. pick_from c.args.width c.args.last 0 b (tags_of c.args.s.now)) (sym c.no_head-best.ensures))

stepped : (c : After-scan) → picks.Stepped c.args.s.now c.loop-at.at c.scan.result
stepped c = picks.stepped _ _ _ c.loop-at-test.true c.loop-at.invariant.1 c.scan.ensures

pub head_of-head-requires : goal.head_of-head-requires
head_of-head-requires c = omega (arith, (stepped (goal.at.head_of-head-requires c).After-scan).on.fits)

behind : (c : After-better-best) → c.head_of-head.result.next ≡ c.loop-at.at + 1 + c.scan.result.len
behind c = ends-behind _ _ _ _ c.head_of-head.ensures

pub loop-at-smaller : goal.loop-at-smaller
loop-at-smaller c =
    omega (arith, (stepped (goal.at.loop-at-smaller c).After-scan).on.fits, behind (goal.at.loop-at-smaller c).After-better-best)

pub loop-at-preserved : goal.loop-at-preserved
loop-at-preserved c =
    let w = stepped (goal.at.loop-at-preserved c).After-scan in
    let e = c.better-best.ensures ∙ ap (λ h. better_by c.args.last h c.loop-at.best) c.head_of-head.ensures ∙ sym (better-same _ _ _ _ _) in
    rw (behind (goal.at.loop-at-preserved c).After-better-best) (w.on.fits, w.on.begins, c.loop-at.invariant.2 ∙ picks.pick_next _ _ _ w _ _ _ _ e)

pub returns : goal.returns
returns c = sym (c.loop-at.invariant.2 ∙ picks.pick-done _ _ _ _ _ c.loop-at-test.false)
