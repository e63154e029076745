-- `canonical_order::section::place_of` meets its contract. Assumes nothing.
use mathlib.Core.Path.{sym, refl, ◌∙◌}
use native.Mathlib.Omega.{arith}
use Rattle.canonical_order.proofs.Picks as picks
use Rattle.canonical_order.proofs.Tests as tests
use Rattle.canonical_order.proofs.section.place_of.Goals as goal
use Rattle.canonical_order.proofs.section.place_of.Goals.{After-scan-t}

pub loop-at-init : goal.loop-at-init
loop-at-init g c = (c.requires.begins.0, c.requires.begins.1, λ p e. refl)

stepped : (g : _) (c : After-scan-t g) → picks.Stepped c.args.s.now c.loop-at.at c.scan-t.result
stepped g c = picks.stepped _ _ _ c.loop-at-test.true c.loop-at.invariant.1 c.scan-t.ensures

pub returns-then-test : goal.returns-then-test
returns-then-test g c = λ p e. sym (c.loop-at.invariant.2 p e ∙ tests.place_here _ _ _ (stepped g (goal.at.returns-then-test g c).After-scan-t) _ (sym (e _ _ c.test.ensures) ∙ c.if-test.true))

pub overflow_add-at : goal.overflow_add-at
overflow_add-at g c = omega (arith, (stepped g (goal.at.overflow_add-at g c).After-scan-t).on.fits)

pub loop-at-smaller : goal.loop-at-smaller
loop-at-smaller g c = omega (arith, (stepped g (goal.at.loop-at-smaller g c).After-scan-t).on.fits)

pub loop-at-preserved : goal.loop-at-preserved
loop-at-preserved g c =
    let w = stepped g (goal.at.loop-at-preserved g c).After-scan-t in
    (w.on.fits, w.on.begins, λ p e. c.loop-at.invariant.2 p e ∙ tests.place-next _ _ _ w p (sym (e _ _ c.test.ensures) ∙ c.if-test.false))

pub returns : goal.returns
returns g c = λ p e. sym (c.loop-at.invariant.2 p e ∙ tests.place-done _ _ _ c.loop-at-test.false)
