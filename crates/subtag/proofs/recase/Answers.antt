-- `subtag::recase` meets its contract. Assumes nothing.
use Rattle.subtag.proofs.Cased as cased-laws
use Rattle.subtag.proofs.recase.Goals as goal

pub returns-then-i-count : goal.returns-then-i-count
returns-then-i-count c = cased-laws.cased-yes _ _ _ _ c.if-i-count.true c.upper.ensures

pub returns-else-i-count : goal.returns-else-i-count
returns-else-i-count c = cased-laws.cased-no _ _ _ c.if-i-count.false
