-- Tables that were tested for maximising and minimising, and which of the two is done. Assumes nothing.
use Rattle.std.specs.Prelude.{◌≡◌, Bool, true, false, []}
use Rattle.std.proofs.Math.Option.{none}
use Rattle.standard.specs.Delivery.{Bytes, Made as Making}
use Rattle.standard.specs.Calls.{Operation, maximise, minimise}
use Rattle.standard.specs.Table.{check, to_maximise, tables_of}
use Rattle.table.specs.Search.{Sorted}
use Rattle.canonical.specs.Tested.{Tested}
use Rattle.standard.specs.Make.{make, after_check}

-- tables of aliases and of likely rows that passed the check, and so ascend
pub record TestedBoth (A L : Bytes) : Type 0 where
  pub passes : check to_maximise A L [] ≡ none
  pub aliases : Tested A
  pub likely : Sorted L

-- maximising, or with true minimising
unfoldable pub operation_of : Bool → Operation
operation_of false = maximise
operation_of true = minimise

-- maximising, or minimising, with the refusals of the tables in front
unfoldable pub whole_made : Bool → Bytes → Bytes → Bytes → Making
whole_made b A L x = after_check (check to_maximise A L []) (make (tables_of A L []) (operation_of b) x)
