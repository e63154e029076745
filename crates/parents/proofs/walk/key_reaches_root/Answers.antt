-- `parents::walk::key_reaches_root` meets its contract. Assumes nothing.
use mathlib.Core.Path.{sym, ◌∙◌}
use native.Mathlib.Omega.{arith}
use Rattle.parents.proofs.Walks.{reach-root, reach-und, reach-next, value-ok-of}
use Rattle.parents.proofs.walk.key_reaches_root.Goals as goal

pub returns-then-same : goal.returns-then-same
returns-then-same c = reach-root _ c.requires.1.key _ 8 (sym c.same.ensures ∙ c.if-same.true)

pub reaches_root-requires : goal.reaches_root-requires
reaches_root-requires c = (c.requires.0, value-ok-of _ _ _ c.in-Some.ensures)

pub returns-in-Some : goal.returns-in-Some
returns-in-Some c =
    c.reaches_root.ensures ∙ sym (reach-next _ c.requires.1.key _ 8 (omega arith) (sym c.same.ensures ∙ c.if-same.false) _ c.in-Some.ensures)

pub returns-in-None : goal.returns-in-None
returns-in-None c = reach-und _ c.requires.1.key _ 8 (omega arith) (sym c.same.ensures ∙ c.if-same.false) c.in-None.ensures
