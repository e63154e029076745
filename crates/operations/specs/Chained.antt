-- The tables that a chain goes by, and how a listing of parents is answered. Assumes nothing.
use Rattle.std.specs.Prelude.{◌≡◌, [], ◌≤◌, length, Result, Ok, Err}
use Rattle.std.proofs.Math.Option.{none}
use Rattle.standard.specs.Delivery.{Bytes}
use Rattle.standard.specs.Table.{check, to_chain}
use Rattle.table.specs.Search.{Sorted}
use Rattle.canonical.specs.Tested.{Tested}
use Rattle.parents.specs.declared.lines.Listed.{Listed}
use Rattle.operations.specs.declared.delivery.Done.{Done}
use Rattle.operations.specs.declared.delivery.Refusal.{Refusal}
use Rattle.operations.specs.declared.delivery.Refusal.TheVariants.{Short}

-- tables of aliases and of parents that passed the check, and so ascend
pub record TestedChain (A P : Bytes) : Type 0 where
  pub passes : check to_chain A [] P ≡ none
  pub aliases : Tested A
  pub parents : Sorted P
  pub small : length P ≤ 32768

-- a listing that fits, or that the output is too short
unfoldable pub listed_is : Result Listed Listed → Result Done Refusal
listed_is (Ok l) = Ok (record { len = l.end; steps = l.steps })
listed_is (Err l) = Err Short
