-- `likely::parts::first_of` meets its contract. Assumes nothing.
use Rattle.std.proofs.Common.{rules, tests}
use Rattle.likely.proofs.Lookups.{pick-none, pick_some}
use Rattle.likely.proofs.parts.first_of.Goals as goal

pub returns-then-is_empty : goal.returns-then-is_empty
returns-then-is_empty c = pick-none _ _ (search (rules, tests))

pub returns-else-is_empty : goal.returns-else-is_empty
returns-else-is_empty c = pick_some _ _ (search (rules, tests))
