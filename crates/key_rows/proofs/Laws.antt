-- Laws of the rows of `keys`. Assumes nothing.
use mathlib.Core.Path.{◌≡◌, refl, sym, ap, ◌∙◌}
use mathlib.Core.Bool.{true}
use mathlib.Core.List.{List, [], ◌∷◌, ◌++◌}
use mathlib.Core.Option.{none}
use Prim.Native.Nat.{ℕ, ◌+◌, ◌≤◌}
use native.Mathlib.Omega.{arith}
use lib.Dec.{leb}
use lib.ListN.{length, take, drop}
use lib.Seq.{sets, sets-eq, take_at}
use borrow.Author.Tests.{eq-eqb, ne_eqb, le-leb}
use Rattle.standard.specs.Delivery.{Bytes, Made, result, refusal, Given, given}
use Rattle.standard.specs.Calls.{minimise}
use Rattle.standard.specs.Table.{tables_of, check, to_maximise}
use Rattle.standard.specs.Make.{make}
use Rattle.standard.proofs.Demand.{result-of}
use Rattle.standard.proofs.Numbers.{Proper}
use Rattle.standard.proofs.Table.{passed, good-tables, shaped-tables}
use Rattle.standard.proofs.Whole.{narrow-likely}
use Rattle.standard.proofs.Long.{read_short}
use Rattle.key_rows.specs.First.{made-long, row_first}
use Rattle.operations.specs.Answer.{answer_of, answer_by, given_is}
use Rattle.operations.specs.declared.delivery.Done.{Done}
use Rattle.operations.specs.declared.delivery.Refusal.{Refusal}
use Rattle.std.specs.Prelude.{Result, Ok, Err}
use Rattle.lines.specs.declared.rows.Written.{Written}
use Rattle.table_check.specs.declared.Fault.{Fault}
use Rattle.operations.specs.Both.{TestedBoth, operation_of}
use Rattle.operations.proofs.CompleteChecked.{minimised-proper}
use Rattle.tsv.specs.Fields.{asked_of}
use Rattle.tsv.proofs.Laws.{asked-fits}
use Rattle.lines.specs.Pieces.{rows_text, piece_text, piece_used}
use Rattle.lines.specs.Squeeze.{handed, all_lines, together}
use Rattle.lines.proofs.Pieces.{rest-rows, rows-handed}
use Rattle.table.specs.Lines.{lines}
use Rattle.table_check.specs.Verdicts.{verdict_is}
use Rattle.key_rows.specs.Keys.{number_of, kept_of, answer_text, made_key, key_row, kept_text, rows_given, after_tables, keys_given, keyed_is}
use Rattle.operations.specs.declared.delivery.Answer.{Answer as Answered}

-- A line of more than 255 bytes is refused with 2.
sets-front : (text out : Bytes) → length text ≤ length out → sets out 0 text ≡ text ++ drop (length text) out
sets-front text out h = sets-eq text out 0 (omega arith) ∙ (let z : 0 + length text ≡ length text = omega arith in rw z refl)

-- A form has at most 255 bytes: it is read back.
module _ (A L x : Bytes) (pass : check to_maximise A L [] ≡ none) where
  form-short : (r : Bytes) (w : ℕ) → made_key A L x ≡ result r w → length r ≤ 255
  unfolding made_key
  form-short r w e =
      let k = passed A L [] (narrow-likely A L ∙ pass) in
      let q = result-of (tables_of A L []) (good-tables A L [] k) (shaped-tables A L [] k) minimise x r w e in
      read_short r q.output q.back

  made-proper : Proper (made_key A L x)
  unfolding made_key operation_of
  made-proper = minimised-proper A L x pass

  -- what was made, once it is in the buffer, is the row
  pub record Told (a : Answered) (form : Bytes) : Type 0 where
    pub number : a.number ≡ number_of (made_key A L x)
    pub asked : length (asked_of a.number x) ≤ 255
    pub few : a.len ≤ 255
    pub text : answer_text a.number x (kept_text a.number (take a.len form)) ≡ key_row A L x

  asked-small : (n : ℕ) → n ≡ number_of (made_key A L x) → length (asked_of n x) ≤ 255
  unfolding number_of
  asked-small n e = asked-fits n x (λ h. e ∙ ap number_of (made-long A L x h))

  told-as : (a : Answered) (form form₀ : Bytes) (m : Made) → made_key A L x ≡ m → length form₀ ≡ 256 → answer_of a form ≡ given m form₀ → Proper m → Told a form
  unfolding given answer_of key_row number_of kept_of kept_text Proper
  told-as a form form₀ (result r s) e n g p =
      let f = form-short r s e in
      let b : leb (length r) (length form₀) ≡ true = le-leb (length r) (length form₀) (omega arith) in
      let h = rw b at g in
      let number : a.number ≡ 0 = ap (λ (q : Given). q.number) h in
      let len : a.len ≡ length r = ap (λ (q : Given). q.len) h in
      let bytes : form ≡ r ++ drop (length r) form₀ = ap (λ (q : Given). q.output) h in
      let same : a.number ≡ number_of (made_key A L x) = number ∙ sym (ap number_of e) in
      record {
        number = same;
        asked = asked-small a.number same;
        few = omega arith;
        text = rw (number, len, bytes, take_at r (drop (length r) form₀) (length r) refl, e);
      }
  told-as a form form₀ (refusal n p t) e k g q =
      let number : a.number ≡ n = ap (λ (q : Given). q.number) g in
      let len : a.len ≡ 0 = ap (λ (q : Given). q.len) g in
      let same : a.number ≡ number_of (made_key A L x) = number ∙ sym (ap number_of e) in
      record {
        number = same;
        asked = asked-small a.number same;
        few = omega arith;
        text = rw (number, ne_eqb n 0 (λ z. omega (arith, q.0)), e);
      }

  pub told : (a : Answered) (form form₀ : Bytes) → length form₀ ≡ 256 → answer_of a form ≡ given (made_key A L x) form₀ → Told a form
  told a form form₀ n g = told-as a form form₀ (made_key A L x) refl n g made-proper

pub told-row : (A L x : Bytes) (t : TestedBoth A L) (r : Result Done Refusal) (a : Answered) (form form₀ : Bytes) → length form₀ ≡ 256 → a ≡ answer_by r
    → given_is r form ≡ given (make (tables_of A L []) (operation_of true) x) form₀ → Told A L x t.passes a form
unfolding made_key operation_of given_is
told-row A L x t r a form form₀ n e g = told A L x t.passes a form form₀ n (ap (λ (q : Answered). answer_of q form) e ∙ g)

pub kept-form : (n : ℕ) (form : Bytes) → n ≡ 0 → kept_text n form ≡ form
unfolding kept_text
kept-form n form e = rw (eq-eqb n 0 e)

pub kept-none : (n : ℕ) (form : Bytes) → (n ≡ 0 → ⊥) → kept_text n form ≡ 45 ∷ []
unfolding kept_text
kept-none n form f = rw (ne_eqb n 0 f)

-- The rows of a piece, once they are written.
module _ (A L x : Bytes) (pass : check to_maximise A L [] ≡ none) (out₀ out : Bytes) (w : Written) where
  pub rows-given : w.used ≡ piece_used (key_row A L) 540 (length out₀) x → w.len ≡ length (piece_text (key_row A L) 540 (length out₀) x)
      → out ≡ sets out₀ 0 (piece_text (key_row A L) 540 (length out₀) x) → w.len ≤ length out₀ → keyed_is (Ok w) out ≡ keys_given A L x out₀
  unfolding keys_given after_tables rows_given keyed_is
  rows-given u l o h =
      let text = piece_text (key_row A L) 540 (length out₀) x in
      let s : out ≡ text ++ drop (length text) out₀ = o ∙ sets-front text out₀ (omega arith) in
      rw (pass, u, l, s)

pub table-given : (A L x out : Bytes) (f : Fault) → verdict_is (Err f) ≡ check to_maximise A L [] → keyed_is (Err f) out ≡ keys_given A L x out
unfolding keys_given after_tables keyed_is
table-given A L x out f g = rw (← g)

pub all-rows : (A L : Bytes) (bs : List Bytes) → rows_text (key_row A L) (all_lines (handed [] bs)) ≡ rows_text (key_row A L) (lines (together bs))
all-rows A L bs = rows-handed (key_row A L) (row_first A L) bs

-- and those of the lines that are answered, then those of the rest of a piece, are the rows of all its lines
pub rest_of : (A L : Bytes) (room : ℕ) (x : Bytes) → piece_text (key_row A L) 540 room x ++ rows_text (key_row A L) (lines (drop (piece_used (key_row A L) 540 room x) x)) ≡ rows_text (key_row A L) (lines x)
rest_of A L room x = rest-rows (key_row A L) 540 room x
