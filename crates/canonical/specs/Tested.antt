-- A table of aliases that passed the check, and so ascends. Assumes nothing.
use Rattle.std.specs.Prelude.{◌≡◌, List, [], ℕ}
use Rattle.std.proofs.Math.Option.{none}
use Rattle.standard.specs.Table.{check, to_canonicalise}
use Rattle.table.specs.Search.{Sorted}

-- aliases that passed the check, and so ascend
pub record Tested (A : List ℕ) : Type 0 where
  pub passes : check to_canonicalise A [] [] ≡ none
  pub sorted : Sorted A
