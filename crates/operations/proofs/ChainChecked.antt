-- From the tables' check to the whole chain. Assumes nothing.
use mathlib.Core.Path.{◌≡◌, ◌∙◌}
use mathlib.Core.List.{[]}
use mathlib.Core.Option.{none}
use Prim.Native.Nat.{◌≤◌}
use lib.ListN.{length}
use Rattle.standard.specs.Delivery.{Bytes, given}
use Rattle.standard.specs.Reading.{read}
use Rattle.standard.specs.Table.{tables_of, check, to_chain, in_use, size_fault}
use Rattle.standard.specs.Make.{chain_from, list_made}
use Rattle.standard.specs.Tag.{All}
use Rattle.standard.proofs.Checks.{in_table-none, tested-none, AllClear, Clear}
use Rattle.standard.proofs.Bounds.{big-none}
use Rattle.standard.proofs.Whole.{narrow-parents}
use Rattle.table_check.proofs.Ordered.{SortedTable, check-sorted}
use Rattle.std.specs.Prelude.{Result}
use Rattle.operations.specs.Answer.{given_is}
use Rattle.operations.specs.declared.delivery.Done.{Done}
use Rattle.operations.specs.declared.delivery.Refusal.{Refusal}
use Rattle.operations.specs.Chained.{TestedChain}
use Rattle.operations.proofs.Wholes.{tested-among, passed-stands}

parents-small : (A P : Bytes) → check to_chain A [] P ≡ none → length P ≤ 32768
unfolding check in_use size_fault All AllClear Clear
parents-small A P e = let h = tested-none _ (in_use to_chain A [] P) e in big-none P (in_table-none _ _ h.0.1.0)

-- tables that pass are as the inner operation asks
pub tested-chain : (A P : Bytes) → check to_chain A [] P ≡ none → TestedChain A P
unfolding in_use All SortedTable
tested-chain A P e =
    record {
      passes = e;
      aliases = tested-among A [] P (narrow-parents A P ∙ e);
      parents = (check-sorted to_chain A [] P e).1.0;
      small = parents-small A P e;
    }

-- what was listed over tables that pass is the whole answer
pub whole-answer : (A P x : Bytes) (r : Result Done Refusal) (out out' : Bytes) → check to_chain A [] P ≡ none
    → given_is r out' ≡ given (chain_from (tables_of A [] P) (read x)) out → given_is r out' ≡ given (list_made A P x) out
unfolding list_made
whole-answer A P x r out out' e g = passed-stands (check to_chain A [] P) (chain_from (tables_of A [] P) (read x)) out out' r e g
