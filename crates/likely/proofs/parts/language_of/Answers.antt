-- `likely::parts::language_of` meets its contract. Assumes nothing.
use Rattle.likely.proofs.Lookups.{language-other, language-kept}
use Rattle.likely.proofs.parts.language_of.Goals as goal

pub returns-then-same : goal.returns-then-same
returns-then-same c = language-other _ _ c.same.ensures c.if-same.true

pub returns-else-same : goal.returns-else-same
returns-else-same c = language-kept _ _ c.same.ensures c.if-same.false
