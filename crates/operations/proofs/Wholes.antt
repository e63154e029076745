-- Operations over tables that passed the check: what they make is printable, the aliases among the tables passed alone, and
-- what is answered is the whole operation's answer. Assumes nothing.
use mathlib.Core.Path.{◌≡◌, sym, ap, ◌∙◌}
use mathlib.Core.List.{List, []}
use mathlib.Core.Option.{Option, none}
use Prim.Native.Nat.{ℕ}
use Rattle.standard.specs.Delivery.{Made, given}
use Rattle.standard.specs.Identifier.{Identifier, done}
use Rattle.standard.specs.Reading.{read, good}
use Rattle.standard.specs.Calls.{Operation}
use Rattle.standard.specs.Table.{TableFault, tables_of, check, to_canonicalise, to_check}
use Rattle.standard.specs.Make.{operate, after_check}
use Rattle.standard.proofs.Sound.{read-raw}
use Rattle.standard.proofs.Round.{Printable}
use Rattle.standard.proofs.Demand.{printable-of}
use Rattle.standard.proofs.Table.{passed, good-tables, shaped-tables}
use Rattle.standard.proofs.Checks.{check-less}
use Rattle.standard.proofs.Whole.{aliases-only}
use Rattle.std.specs.Prelude.{Result}
use Rattle.operations.specs.declared.delivery.Done.{Done}
use Rattle.operations.specs.declared.delivery.Refusal.{Refusal}
use Rattle.operations.specs.Answer.{given_is}
use Rattle.table.specs.Search.{Sorted}
use Rattle.canonical.specs.Tested.{Tested}
use Rattle.canonical.proofs.TestedAliases.{tested}

-- what an operation makes of a read identifier is printable
pub printable-among : (A L P x : List ℕ) (o : Operation) (i c : Identifier) → check to_check A L P ≡ none → read x ≡ good i → operate (tables_of A L P) o i ≡ done c
    → Printable c
printable-among A L P x o i c e r d =
    let k = passed A L P e in
    printable-of (tables_of A L P) (good-tables A L P k) (shaped-tables A L P k) o i c (read-raw x i r) d

pub tested-among : (A L P : List ℕ) → check to_check A L P ≡ none → Tested A
tested-among A L P e = tested A (aliases-only A L P ∙ check-less to_canonicalise A L P e)

-- aliases that pass alone ascend
pub sorted-aliases : (A : List ℕ) → check to_canonicalise A [] [] ≡ none → Sorted A
sorted-aliases A e = (tested A e).sorted

pub passed-stands : (o : Option TableFault) (m : Made) (out out' : List ℕ) (r : Result Done Refusal) → o ≡ none → given_is r out' ≡ given m out
    → given_is r out' ≡ given (after_check o m) out
unfolding after_check
passed-stands o m out out' r e g = g ∙ ap (λ (w : Option TableFault). given (after_check w m) out) (sym e)
