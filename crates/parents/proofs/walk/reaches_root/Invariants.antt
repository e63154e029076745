-- `parents::walk::reaches_root` meets its contract. The invariant: the walk from the text at hand, with the steps that are left,
-- decides. Assumes nothing.
use mathlib.Core.Path.{◌≡◌}
use Prim.Native.Nat.{◌-◌}
use Rattle.parents.specs.Walk.{ValueOk, reaches_from}
use Rattle.parents.proofs.walk.reaches_root.Given as goal

abbrev pub invariant-loop-step : goal.invariant-loop-step
invariant-loop-step l = ValueOk l.text × (reaches_from l.parents.rows.now l.steps l.from ≡ reaches_from l.parents.rows.now (l.steps - l._step) l.text)
