-- The exported operations by a number, and the tables that each tests: 0 canonicalise, 1 maximise, 2 minimise, else the
-- chain. Assumes nothing.
use Rattle.std.specs.Prelude.{cond, [], ℕ, eqb}
use Rattle.std.proofs.Math.Option.{Option}
use Rattle.standard.specs.Delivery.{Bytes, Made}
use Rattle.standard.specs.Table.{TableFault, check, to_canonicalise, to_maximise, to_chain}
use Rattle.standard.specs.Make.{canonicalise_made, maximise_made, minimise_made, list_made}

unfoldable pub check_for : ℕ → Bytes → Bytes → Option TableFault
check_for o A B =
    cond (eqb o 0) (check to_canonicalise A [] []) (cond (eqb o 1) (check to_maximise A B []) (cond (eqb o 2) (check to_maximise A B []) (check to_chain A [] B)))

unfoldable pub made_for : ℕ → Bytes → Bytes → Bytes → Made
made_for o A B x = cond (eqb o 0) (canonicalise_made A x) (cond (eqb o 1) (maximise_made A B x) (cond (eqb o 2) (minimise_made A B x) (list_made A B x)))
