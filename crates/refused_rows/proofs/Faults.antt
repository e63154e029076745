-- Laws of what is wrong with a usage line. Assumes nothing.
use Rattle.std.proofs.Common.{◌≡◌, ℕ, ◌+◌, ◌-◌, ◌<◌, ◌≤◌, true, leb, [], length, take, drop, sym, refl, ap, ◌∙◌, ap₂, arith, length-take-le, le-leb}
use mathlib.Core.Option.{Option, none, some}
use Rattle.standard.specs.Identifier.{Tables, Answer, done, refused, minimised}
use Rattle.standard.specs.Reading.{Fault, fault_of, read_as, read, identifier_of, split}
use Rattle.standard.specs.Delivery.{Bytes, Made, result, refusal, Given, given}
use Rattle.standard.specs.Calls.{minimise}
use Rattle.standard.specs.Table.{tables_of, check, to_maximise}
use Rattle.standard.specs.Make.{operate, made, make_of, make}
use Rattle.standard.proofs.Bounds.{Below, fault-below}
use Rattle.standard.proofs.Demand.{result-of}
use Rattle.standard.proofs.Numbers.{Proper}
use Rattle.standard.proofs.Table.{passed, good-tables, shaped-tables}
use Rattle.standard.proofs.Whole.{narrow-likely}
use Rattle.standard.proofs.Long.{read_short}
use Rattle.byte_string.specs.Strings.{end_of}
use Rattle.byte_string.proofs.Stores.{all_from}
use Rattle.std.specs.Prelude.{⊤, Result, Ok, Err}
use Rattle.std.specs.Prelude.{Result as Checked}
use Rattle.std.specs.Result.{IsErrAnd}
use Rattle.refused_rows.specs.declared.fault.LineFault.{LineFault as LineWrong}
use Rattle.refused_rows.specs.declared.fault.LineFault.TheVariants.{OfMember}
use Rattle.refused_rows.specs.declared.member.MemberFault.{MemberFault as MemberWrong}
use Rattle.refused_rows.specs.Faults.{wrong_is, fault_is}
use Rattle.operations.specs.Answer.{answer_of, answer_by, given_is}
use Rattle.operations.specs.Both.{operation_of}
use Rattle.operations.specs.declared.delivery.Answer.{Answer as Answered}
use Rattle.operations.specs.declared.delivery.Done.{Done}
use Rattle.operations.specs.declared.delivery.Refusal.{Refusal}
use Rattle.operations.proofs.CompleteChecked.{minimised-proper}
use Rattle.bill_rules.specs.Bill.{before_tab, after_tab}
use Rattle.bill_rules.specs.Refusals.{MemberFault, no_tab, LineFault, of_member, of_identifier, member_fault, made_fault, member_first, fault_at, line_fault}
use Rattle.bill_lines.proofs.Shapes.{tab-before, tab-after, tab-none}

-- the place of a refusal, which stays near the identifier
unfoldable Near : Made → Type 0
Near (result r s) = Unit {0}
Near (refusal n p t) = p < 600

answer-near : (a : Answer) → Near (made a)
unfolding Near made
answer-near (done i) = tt
answer-near (refused n) = omega arith

read-near : (x : Bytes) (T : Tables) (o : Option Fault) → Below 600 o → Near (make_of T minimise (read_as o (identifier_of (split x))))
unfolding Near Below read_as make_of operate
read-near x T none h = answer-near (minimised T (identifier_of (split x)))
read-near x T (some f) h = h

made-near : (T : Tables) (x : Bytes) → Near (make T minimise x)
unfolding make read
made-near T x = read-near x T (fault_of x) (fault-below x)

-- What an answer says of an identifier that starts at this place.
pub record Told (start : ℕ) (m : Made) (a : Answered) : Type 0 where
  pub fine : a.number ≡ 0 → none ≡ made_fault start m
  pub wrong : (a.number ≡ 0 → ⊥) → some (of_identifier a.number (start + a.place)) ≡ made_fault start m
  pub near : a.place < 600

module _ (A L x : Bytes) (pass : check to_maximise A L [] ≡ none) (start : ℕ) where
  form-short : (r : Bytes) (w : ℕ) → make (tables_of A L []) minimise x ≡ result r w → length r ≤ 255
  form-short r w e =
      let k = passed A L [] (narrow-likely A L ∙ pass) in
      let q = result-of (tables_of A L []) (good-tables A L [] k) (shaped-tables A L [] k) minimise x r w e in
      read_short r q.output q.back

  told-as : (a : Answered) (form form₀ : Bytes) (m : Made) → make (tables_of A L []) minimise x ≡ m → length form₀ ≡ 256 → answer_of a form ≡ given m form₀ → Proper m → Near m → Told start m a
  unfolding given answer_of made_fault Proper Near
  told-as a form form₀ (result r s) e n g p d =
      let f = form-short r s e in
      let b : leb (length r) (length form₀) ≡ true = le-leb (length r) (length form₀) (omega arith) in
      let h = rw b at g in
      let number : a.number ≡ 0 = ap (λ (q : Given). q.number) h in
      let place : a.place ≡ 0 = ap (λ (q : Given). q.place) h in
      record { fine = λ z. refl; wrong = λ z. absurd (z number); near = omega arith }
  told-as a form form₀ (refusal n p t) e k g q d =
      let number : a.number ≡ n = ap (λ (q : Given). q.number) g in
      let place : a.place ≡ p = ap (λ (q : Given). q.place) g in
      record {
        fine = λ z. absurd (omega (arith, q.0, number, z));
        wrong = λ z. ap₂ (λ (i j : ℕ). some (of_identifier i (start + j))) number place;
        near = omega (arith, d, place);
      }

  pub told : (r : Result Done Refusal) (a : Answered) (form form₀ : Bytes) → length form₀ ≡ 256 → a ≡ answer_by r
      → given_is r form ≡ given (make (tables_of A L []) (operation_of true) x) form₀ → Told start (make (tables_of A L []) minimise x) a
  unfolding operation_of given_is
  told r a form form₀ n e g =
      told-as a form form₀ (make (tables_of A L []) minimise x) refl n (ap (λ (q : Answered). answer_of q form) e ∙ g) (minimised-proper A L x pass) (made-near (tables_of A L []) x)

-- a line without a tab
pub no-tab : (T : Tables) (l : Bytes) → length l ≤ end_of 9 l 0 → some (of_member no_tab) ≡ line_fault T l
unfolding line_fault fault_at
no-tab T l h = sym (ap (fault_at T (before_tab l)) (tab-none l h))

-- a line with one: its member, then its identifier
module _ (T : Tables) (l : Bytes) (t : ℕ) (e : t ≡ end_of 9 l 0) (h : t < length l) where
  tabbed : line_fault T l ≡ member_first (member_fault (take t l)) (made_fault (t + 1) (make T minimise (drop (t + 1) l)))
  unfolding line_fault fault_at
  tabbed =
      let b : before_tab l ≡ take t l = tab-before l ∙ ap (λ (k : ℕ). take k l) (sym e) in
      let k : end_of 9 l 0 < length l = omega arith in
      let a : after_tab l ≡ some (drop (t + 1) l) = tab-after l k ∙ ap (λ (k : ℕ). some (drop (k + 1) l)) (sym e) in
      ap₂ (fault_at T) b a ∙ ap (λ (k : ℕ). member_first (member_fault (take t l)) (made_fault (k + 1) (make T minimise (drop (t + 1) l)))) (length-take-le t l (omega arith))

  pub member-wrong : (f : MemberFault) → some f ≡ member_fault (take t l) → some (of_member f) ≡ line_fault T l
  unfolding member_first
  member-wrong f g = sym (tabbed ∙ ap (λ (o : Option MemberFault). member_first o (made_fault (t + 1) (make T minimise (drop (t + 1) l)))) (sym g))

  pub identifier-only : (r : Option LineFault) → none ≡ member_fault (take t l) → r ≡ made_fault (t + 1) (make T minimise (take (length l - (t + 1)) (drop (t + 1) l))) → r ≡ line_fault T l
  unfolding member_first
  identifier-only r g q =
      q ∙ ap (λ (y : Bytes). made_fault (t + 1) (make T minimise y)) (all_from (t + 1) l)
      ∙ sym (tabbed ∙ ap (λ (o : Option MemberFault). member_first o (made_fault (t + 1) (make T minimise (drop (t + 1) l)))) (sym g))

-- a member's fault that is handed on
pub handed : (r : Checked ⊤ LineWrong) (w : MemberWrong) → IsErrAnd r (λ (f : LineWrong). f ≡ OfMember w) → {o : Option LineFault} → some (of_member (wrong_is w)) ≡ o → fault_is r ≡ o
unfolding fault_is
handed (Ok u) w e f = absurd e
handed (Err x) w e f = ap (λ (y : LineWrong). fault_is (Err y)) e ∙ f
