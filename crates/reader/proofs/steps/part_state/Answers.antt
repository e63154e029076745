-- `reader::steps::part_state` meets its contract. Assumes nothing.
use Rattle.reader.specs.declared.steps.State.TheVariants.{Part}
use Rattle.reader.proofs.Choices as choices
use Rattle.reader.proofs.steps.part_state.Goals as goal

pub returns-then-is_field_key : goal.returns-then-is_field_key
returns-then-is_field_key c = choices.part-key _ _ _ c.is_field_key.ensures c.if-is_field_key.true

pub returns-then-accepts : goal.returns-then-accepts
returns-then-accepts c = choices.part-stage _ _ _ c.is_field_key.ensures c.if-is_field_key.false _ (choices.stage-taken Part _ _ _ c.kind_of-k.ensures _ c.accepts.ensures c.if-accepts.true _ c.stage_by.ensures)

pub returns-else-accepts : goal.returns-else-accepts
returns-else-accepts c = choices.part-stage _ _ _ c.is_field_key.ensures c.if-is_field_key.false _ (choices.stage-left Part _ _ _ c.kind_of-k.ensures _ c.accepts.ensures c.if-accepts.false)
