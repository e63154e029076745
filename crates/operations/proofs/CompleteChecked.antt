-- From the tables' check to maximising and minimising whole. Assumes nothing.
use mathlib.Core.Path.{◌≡◌, refl, sym, ap, ◌∙◌, subst}
use mathlib.Core.Bool.{Bool, true, false}
use mathlib.Core.List.{[]}
use mathlib.Core.Option.{Option, none}
use Rattle.standard.specs.Delivery.{Bytes, given}
use Rattle.standard.specs.Calls.{minimise}
use Rattle.standard.specs.Table.{TableFault, tables_of, in_use, check, to_maximise}
use Rattle.standard.specs.Make.{make, after_check, maximise_made, minimise_made, whole}
use Rattle.standard.specs.Tag.{All}
use Rattle.standard.proofs.Numbers.{Proper, whole-proper}
use Rattle.standard.proofs.Whole.{narrow-likely}
use Rattle.table_check.proofs.Ordered.{SortedTable, check-sorted}
use Rattle.std.specs.Prelude.{Result}
use Rattle.operations.specs.Answer.{given_is}
use Rattle.operations.specs.declared.delivery.Done.{Done}
use Rattle.operations.specs.declared.delivery.Refusal.{Refusal}
use Rattle.operations.proofs.Wholes.{tested-among, passed-stands}
use Rattle.operations.specs.Both.{TestedBoth, operation_of, whole_made}

-- tables that pass are as the inner operation asks
pub tested-both : (A L : Bytes) → check to_maximise A L [] ≡ none → TestedBoth A L
unfolding in_use All SortedTable
tested-both A L e =
    record {
      passes = e;
      aliases = tested-among A L [] (narrow-likely A L ∙ e);
      likely = (check-sorted to_maximise A L [] e).1.0;
    }

-- nothing is refused for tables that pass
whole-good : (b : Bool) (A L x : Bytes) → check to_maximise A L [] ≡ none → whole_made b A L x ≡ make (tables_of A L []) (operation_of b) x
unfolding whole_made after_check
whole-good b A L x e = ap (λ (o : Option TableFault). after_check o (make (tables_of A L []) (operation_of b) x)) e

pub whole-maximised : (A L x : Bytes) → whole_made false A L x ≡ maximise_made A L x
unfolding whole_made maximise_made operation_of
whole-maximised A L x = refl

pub whole-minimised : (A L x : Bytes) → whole_made true A L x ≡ minimise_made A L x
unfolding whole_made minimise_made operation_of
whole-minimised A L x = refl

-- a refusal of minimising has a number
pub minimised-proper : (A L x : Bytes) → check to_maximise A L [] ≡ none → Proper (make (tables_of A L []) (operation_of true) x)
unfolding whole
minimised-proper A L x e = subst Proper (sym (whole-minimised A L x) ∙ whole-good true A L x e) (whole-proper A L [] minimise x)

-- what was made over tables that pass is the whole answer
pub whole-answer : (b : Bool) (A L x : Bytes) (r : Result Done Refusal) (out out' : Bytes) → check to_maximise A L [] ≡ none
    → given_is r out' ≡ given (make (tables_of A L []) (operation_of b) x) out → given_is r out' ≡ given (whole_made b A L x) out
unfolding whole_made
whole-answer b A L x r out out' e g = passed-stands (check to_maximise A L []) (make (tables_of A L []) (operation_of b) x) out out' r e g
