-- `reader::steps::main_state` meets its contract. Assumes nothing.
use Rattle.reader.specs.declared.steps.State.TheVariants.{Main}
use Rattle.reader.proofs.Choices as choices
use Rattle.reader.proofs.steps.main_state.Goals as goal

pub returns-then-accepts : goal.returns-then-accepts
returns-then-accepts c = choices.stage-taken Main _ _ _ c.kind_of-k.ensures _ c.accepts.ensures c.if-accepts.true _ c.stage_by.ensures

pub returns-else-accepts : goal.returns-else-accepts
returns-else-accepts c = choices.stage-left Main _ _ _ c.kind_of-k.ensures _ c.accepts.ensures c.if-accepts.false
