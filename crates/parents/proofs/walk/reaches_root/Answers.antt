-- `parents::walk::reaches_root` meets its contract. The invariant: the walk from the text at hand, with the steps that are left,
-- decides. Assumes nothing.
use native.Mathlib.Omega.{arith}
use mathlib.Core.Path.{◌≡◌, sym, ap, ◌∙◌}
use Prim.Native.Nat.{ℕ, ◌+◌, ◌-◌}
use Rattle.parents.specs.Walk.{reaches_from}
use Rattle.parents.proofs.Walks.{reach-root, reach-end, reach-und, reach-next, value-ok-of}
use Rattle.parents.proofs.walk.reaches_root.Goals as goal

pub returns-then-same : goal.returns-then-same
returns-then-same c = let l = c.loop-step.invariant in reach-root _ l.0 _ _ (sym c.same.ensures ∙ c.if-same.true) ∙ sym l.1

pub returns-in_default : goal.returns-in_default
returns-in_default c =
    let l = c.loop-step.invariant in
    reach-und _ l.0 _ _ (omega arith) (sym c.same.ensures ∙ c.if-same.false) c.in_default.ensures ∙ sym l.1

pub loop-step-preserved : goal.loop-step-preserved
loop-step-preserved c =
    let l = c.loop-step.invariant in
    let k = c.in-Some.ensures in
    let z : c.args.steps - c.loop-step._step - 1 ≡ c.args.steps - (c.loop-step._step + 1) = omega arith in
    (value-ok-of _ _ _ k, l.1 ∙ reach-next _ l.0 _ _ (omega arith) (sym c.same.ensures ∙ c.if-same.false) _ k ∙ ap (λ (n : ℕ). reaches_from c.args.parents.rows.now n c.in-Some.parent.now) z)

pub returns : goal.returns
returns c = let l = c.loop-step.invariant in c.same-2.ensures ∙ reach-end _ l.0 _ _ (omega arith) ∙ sym l.1
