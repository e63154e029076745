-- Laws of delivery; what canonicalising over tested aliases makes; and the tables' refusals before it. Assumes nothing.
use mathlib.Core.Path.{◌≡◌, refl, sym, ap, ◌∙◌}
use mathlib.Core.List.{List, [], ◌++◌}
use mathlib.Core.Option.{Option, none}
use Prim.Native.Nat.{ℕ, ◌+◌, ◌≤◌, ◌<◌}
use native.Mathlib.Omega.{arith}
use lib.ListN.{length, take, drop}
use lib.Seq.{sets, sets-eq}
use borrow.Author.Tests.{le-leb, lt-leb}
use Rattle.standard.specs.Delivery.{Made, result, refusal as refusal_made, given}
use Rattle.standard.specs.Identifier.{Answer as StandardAnswer, done, refused, canonical}
use Rattle.standard.specs.Reading.{Read, good, bad, read}
use Rattle.standard.specs.Calls.{canonicalise}
use Rattle.standard.specs.Table.{to_canonicalise, to_check, tables_of, TableFault, check}
use Rattle.standard.specs.Make.{made, operate, make_of, make, after_check, canonicalise_made, check_made}
use Rattle.std.specs.Prelude.{Result, Ok, Err, ⊤}
use Rattle.table_check.specs.declared.Fault.{Fault}
use Rattle.table_check.specs.Verdicts.{verdict_is}
use Rattle.operations.specs.declared.delivery.Done.{Done}
use Rattle.operations.specs.declared.delivery.Refusal.{Refusal}
use Rattle.operations.specs.declared.delivery.Refusal.TheVariants.{Table, Short}
use Rattle.canonical.specs.declared.form.Form.{Form}
use Rattle.canonical.specs.declared.form.NoForm.{NoForm}
use Rattle.canonical.specs.declared.form.NoForm.TheVariants.{Unread, Overlong}
use Rattle.canonical.specs.Form.{Outcome, form, refusal, no_form_is, outcome_of, formed, canonical_of, outcome}
use Rattle.operations.specs.Answer.{answer_of, given_is, not_formed, checked_is}
use Rattle.operations.proofs.Canonicalised.{refused-by}

pub too_short : (b out : List ℕ) (steps : ℕ) → length out < length b → given_is (Err Short) out ≡ given (result b steps) out
unfolding given_is answer_of given
too_short b out steps h = rw (lt-leb (length b) (length out) h)

pub delivered : (b out out' : List ℕ) (steps n : ℕ) → length b ≤ length out → n ≡ 0 + length b → out' ≡ sets out 0 b
    → given_is (Ok (record { len = n; steps = steps })) out' ≡ given (result b steps) out
unfolding given_is answer_of given
delivered b out out' steps n h e f =
    let k : n ≡ length b = omega arith in
    let w : out' ≡ b ++ drop (length b) out = f ∙ sets-eq b out 0 (omega arith) ∙ ap (λ (m : ℕ). b ++ drop m out) (let z : 0 + length b ≡ length b = omega arith in z) in
    rw (le-leb (length b) (length out) h) (λ j. record { number = 0; place = 0; table = 0; len = k j; steps = steps; output = w j })

-- a refusal of canonicalising
pub refused-given : (why : NoForm) (out : List ℕ) → given_is (Err (not_formed why)) out ≡ given (refusal_made (no_form_is why).number (no_form_is why).place 0) out
unfolding given_is answer_of given
refused-given (Unread r) out = refl
refused-given Overlong out = refl

-- What an outcome of canonicalising makes: the form's bytes, or the refusal.
made_of : Outcome → Made
made_of (form f b) = result b 0
made_of (refusal n p) = refusal_made n p 0

answered : (a : StandardAnswer) → made_of (formed a) ≡ made a
unfolding made_of formed made
answered (done c) = refl
answered (refused n) = refl

made-outcome : (A x : List ℕ) → made_of (outcome A x) ≡ make (tables_of A [] []) canonicalise x
unfolding outcome make canonical_of make_of operate made_of
made-outcome A x = go (read x)
  where
    go : (r : Read) → made_of (canonical_of (tables_of A [] []) r) ≡ make_of (tables_of A [] []) canonicalise r
    go (good i) = answered (canonical (tables_of A [] []) i)
    go (bad n p) = refl

-- a refusal of canonicalising, delivered
pub refused-stands : (A x b out : List ℕ) (c : Result Form NoForm) (why : NoForm) → c ≡ Err why → outcome_of c b ≡ outcome A x
    → given_is (Err (not_formed why)) out ≡ given (make (tables_of A [] []) canonicalise x) out
unfolding made_of
refused-stands A x b out c why k f =
    refused-given why out
    ∙ ap (λ (o : Outcome). given (made_of o) out) (sym (refused-by A x b k f)) ∙ ap (λ (m : Made). given m out) (made-outcome A x)

-- a form, delivered
pub form-delivered : (A x b out out' : List ℕ) (c : Result Form NoForm) (f : Form) (r : Result Done Refusal) → c ≡ Ok f → outcome_of c b ≡ outcome A x
    → given_is r out' ≡ given (result (take f.len b) 0) out → given_is r out' ≡ given (make (tables_of A [] []) canonicalise x) out
unfolding outcome_of made_of
form-delivered A x b out out' c f r e g h =
    h ∙ ap (λ (o : Outcome). given (made_of o) out) (sym (ap (λ (d : Result Form NoForm). outcome_of d b) e) ∙ g) ∙ ap (λ (m : Made). given m out) (made-outcome A x)

-- The check comes first.
pub table-stands : (v : Result ⊤ Fault) (f : Fault) (o : Option TableFault) (m : Made) (out : List ℕ) → v ≡ Err f → verdict_is v ≡ o → given_is (Err (Table f)) out ≡ given (after_check o m) out
unfolding given_is answer_of given after_check
table-stands v f o m out g e = ap (λ (w : Option TableFault). given (after_check w m) out) (sym (ap verdict_is g) ∙ e)

pub table-good : (v : Result ⊤ Fault) (u : ⊤) (o : Option TableFault) → verdict_is v ≡ o → v ≡ Ok u → o ≡ none
table-good v u o e f = sym e ∙ ap verdict_is f

pub after-good : (A x : List ℕ) → check to_canonicalise A [] [] ≡ none → canonicalise_made A x ≡ make (tables_of A [] []) canonicalise x
unfolding canonicalise_made after_check
after-good A x e = ap (λ (o : Option TableFault). after_check o (make (tables_of A [] []) canonicalise x)) e

-- the check alone
pub checked : (A L P : List ℕ) (v : Result ⊤ Fault) → verdict_is v ≡ check to_check A L P → given_is (checked_is v) [] ≡ given (check_made A L P) []
unfolding given_is answer_of given check_made after_check
checked A L P v e = go v e
  where
    go : (v : Result ⊤ Fault) → verdict_is v ≡ check to_check A L P → given_is (checked_is v) [] ≡ given (check_made A L P) []
    go (Ok u) e = rw (← e)
    go (Err f) e = rw (← e)
