-- `table::hints::slot_from` meets its contract. Assumes nothing.
use mathlib.Core.Path.{sym, ◌∙◌}
use Rattle.table.proofs.Hinting.{slot-end, slot_next}
use Rattle.table.proofs.hints.slot_from.Goals as goal

pub loop-b-preserved : goal.loop-b-preserved
loop-b-preserved c = (c.step-slot.ensures.1, c.loop-b.invariant.1 ∙ slot_next _ _ _ _ c.loop-b-test.true c.step-slot.ensures.0)

pub returns : goal.returns
returns c = let l = c.loop-b in (slot-end _ _ _ c.loop-b-test.false ∙ sym l.invariant.1, l.invariant.0)
