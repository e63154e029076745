-- `aliases::keys::is_key` meets its contract. Assumes nothing.
use Rattle.aliases.proofs.Slots.{key-leads, no_key}
use Rattle.aliases.proofs.keys.is_key.Goals as goal

pub search-requires : goal.search-requires
search-requires c =
    (c.requires, key-leads _ _ _ _ _ _ _ c.args.aliases.indexed.hinted c.seed.ensures.0 c.slot_from.ensures.0 c.hint-hint.ensures)

pub returns-else-hint-ne0 : goal.returns-else-hint-ne0
returns-else-hint-ne0 c =
    let e = c.if-hint-ne0.false in
    rw e (no_key _ _ _ _ _ _ _ c.args.aliases.indexed.hinted c.seed.ensures.0 c.slot_from.ensures.0 c.hint-hint.ensures e)
