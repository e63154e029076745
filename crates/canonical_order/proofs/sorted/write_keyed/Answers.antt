-- `canonical_order::sorted::write_keyed` meets its contract. Assumes nothing.
use borrow.Author.Rules.{rules}
use Rattle.canonical_order.proofs.Scanned.{picked}
use Rattle.canonical_order.proofs.sorted.write_keyed.Goals as goal

pub write_groups-requires-clause-least : goal.write_groups-requires-clause-least
write_groups-requires-clause-least c = λ last head e. picked _ _ _ _ _ _ c.scan_all-count.ensures.1 (search rules)
