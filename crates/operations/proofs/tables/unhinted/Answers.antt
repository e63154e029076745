-- `operations::tables::unhinted` meets its contract. Assumes nothing.
use Rattle.table.proofs.Hinting.{hinted-empty}
use Rattle.operations.proofs.tables.unhinted.Goals as goal

pub indexed-requires : goal.indexed-requires
indexed-requires c = record { sorted = c.requires; hinted = hinted-empty _ }
