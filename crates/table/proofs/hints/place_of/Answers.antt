-- `table::hints::place_of` meets its contract. Assumes nothing.
use Rattle.table.proofs.Hinting.{place-few, place-many}
use Rattle.table.proofs.hints.place_of.Goals as goal

pub returns-then-n-eq1024 : goal.returns-then-n-eq1024
returns-then-n-eq1024 c = place-few _ _ c.if-n-eq1024.true

pub returns-else-n-eq1024 : goal.returns-else-n-eq1024
returns-else-n-eq1024 c = place-many _ _ c.if-n-eq1024.false
