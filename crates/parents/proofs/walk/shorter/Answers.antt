-- `parents::walk::shorter` meets its contract. Assumes nothing.
use Rattle.parents.proofs.Walks.{shorter-region, shorter-script, shorter-root}
use Rattle.parents.proofs.walk.shorter.Goals as goal

pub returns-then-ends-text : goal.returns-then-ends-text
returns-then-ends-text c = shorter-region _ c.requires _ c.ends_of-ends.ensures c.if-ends-text.true

pub returns-then-ends : goal.returns-then-ends
returns-then-ends c = shorter-script _ c.requires _ c.ends_of-ends.ensures c.if-ends-text.false c.if-ends.true

pub returns-else-ends : goal.returns-else-ends
returns-else-ends c = shorter-root _ c.requires _ c.ends_of-ends.ensures c.if-ends-text.false c.if-ends.false
