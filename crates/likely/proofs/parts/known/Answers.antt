-- `likely::parts::known` meets its contract. Assumes nothing.
use Rattle.likely.proofs.Lookups.{known-gone, known_kept}
use Rattle.likely.proofs.parts.known.Goals as goal

pub returns-then-same : goal.returns-then-same
returns-then-same c = known-gone _ _ c.same.ensures c.if-same.true

pub returns-else-same : goal.returns-else-same
returns-else-same c = known_kept _ _ c.same.ensures c.if-same.false
