-- `place_column::put_places` meets its contract. Assumes nothing.
use Rattle.place_column.proofs.Laws as laws
use Rattle.place_column.proofs.put_places.Goals as goal

pub returns : goal.returns
returns c =
    laws.places-written _ _ _ _ _ _ _ _ _ _ _ _ _ c.requires.0 c.mark_behind.ensures c.put_span-p.ensures c.put_span-q.ensures c.put_span-r.ensures c.put_variants.ensures
