-- An operation done again on its own output gives the same answer and leaves the same bytes. Assumes nothing.
use mathlib.Core.Path.{◌≡◌, refl, sym, ap, ◌∙◌}
use mathlib.Core.Bool.{Bool, true, false, cond}
use mathlib.Core.List.{[], ◌++◌}
use mathlib.Core.Option.{none}
use Prim.Native.Nat.{ℕ, ◌≤◌}
use native.Mathlib.Omega.{arith}
use lib.Dec.{eqb, leb, leb→le}
use lib.ListN.{length, drop, length-append, length-drop}
use lib.Seq.{drop-append_seam}
use borrow.Author.Tests.{eq-eqb, ne_eqb}
use Rattle.standard.specs.Delivery.{Bytes, Made, result, refusal, Given, given}
use Rattle.standard.specs.Calls.{canonicalise, maximise, minimise}
use Rattle.standard.specs.Reading.{read}
use Rattle.standard.specs.Table.{tables_of, check, to_canonicalise, to_maximise, to_chain}
use Rattle.standard.specs.Make.{make, chain_from, canonicalise_made, maximise_made, minimise_made, list_made, after_check}
use Rattle.standard.proofs.General.{true→T}
use Rattle.std.specs.Prelude.{Result, Err, ⊤}
use Rattle.table.specs.Search.{Sorted}
use Rattle.table_check.specs.declared.Fault.{Fault}
use Rattle.table_check.specs.Verdicts.{verdict_is}
use Rattle.operations.specs.declared.delivery.Done.{Done}
use Rattle.operations.specs.declared.delivery.Refusal.{Refusal}
use Rattle.operations.specs.declared.delivery.Refusal.TheVariants.{Table}
use Rattle.operations.specs.Answer.{answer_by, given_is}
use Rattle.operations.proofs.Wholes.{sorted-aliases}
use Rattle.operations.proofs.Delivers.{after-good, table-stands}
use Rattle.operations.specs.Both.{operation_of}
use Rattle.operations.proofs.CompleteChecked as likely
use Rattle.operations.proofs.ChainChecked as parents
use Rattle.c_api.specs.Packed.{packed, unpacked}
use Rattle.c_api.proofs.Sizes.{Small, canonicalise-small, maximise-small, minimise-small, list-small}
use Rattle.c_api.proofs.Packs.{unpacks}
use Rattle.test_api.specs.Exported.{check_for, made_for}

given-twice : (m : Made) (out : Bytes) → given m (given m out).output ≡ given m out
unfolding given
given-twice (refusal n p t) out = refl
given-twice (result r s) out = go (leb (length r) (length out)) refl
  where
    go : (b : Bool) → leb (length r) (length out) ≡ b → given (result r s) (given (result r s) out).output ≡ given (result r s) out
    go false e = rw (e, e)
    go true e =
        let h : length r ≤ length out = leb→le _ _ (true→T _ e) in
        let a = length-append r (drop (length r) out) in
        let b = length-drop (length r) out in
        let n : length (r ++ drop (length r) out) ≡ length out = omega (arith, a, b) in
        let f : leb (length r) (length (r ++ drop (length r) out)) ≡ true = ap (leb (length r)) n ∙ e in
        rw (e, f, drop-append_seam r (drop (length r) out))

pub again : (m : Made) (r r' : ℕ) (out o₁ o₂ : Bytes) → unpacked r o₁ ≡ given m out → unpacked r' o₂ ≡ given m o₁ → unpacked r' o₂ ≡ given m out
unfolding unpacked
again m r r' out o₁ o₂ e f = f ∙ (ap (given m) (ap (λ (g : Given). g.output) e) ∙ given-twice m out)

-- The tables that an operation tests, and what it makes.
module _ (o : ℕ) (A B : Bytes) where
  pub check-0 : o ≡ 0 → check_for o A B ≡ check to_canonicalise A [] []
  unfolding check_for
  check-0 e = rw (eq-eqb o 0 e)

  pub check-1 : (o ≡ 0 → ⊥) → o ≡ 1 → check_for o A B ≡ check to_maximise A B []
  unfolding check_for
  check-1 h e = rw (ne_eqb o 0 h, eq-eqb o 1 e)

  pub check-2 : (o ≡ 0 → ⊥) → (o ≡ 1 → ⊥) → o ≡ 2 → check_for o A B ≡ check to_maximise A B []
  unfolding check_for
  check-2 h k e = rw (ne_eqb o 0 h, ne_eqb o 1 k, eq-eqb o 2 e)

  pub check-3 : (o ≡ 0 → ⊥) → (o ≡ 1 → ⊥) → (o ≡ 2 → ⊥) → check_for o A B ≡ check to_chain A [] B
  unfolding check_for
  check-3 h k l = rw (ne_eqb o 0 h, ne_eqb o 1 k, ne_eqb o 2 l)

  module _ (x out out' : Bytes) (a : Result Done Refusal) (r : ℕ) (p : r ≡ packed (answer_by a)) (pass : check_for o A B ≡ none) where
    pub once-0 : o ≡ 0 → given_is a out' ≡ given (make (tables_of A [] []) canonicalise x) out → unpacked r out' ≡ given (made_for o A B x) out
    unfolding made_for
    once-0 e f =
        let g = sym (check-0 e) ∙ pass in
        unpacks _ a r out out' (canonicalise-small A x) p (f ∙ ap (λ (m : Made). given m out) (sym (after-good A x g))) ∙ ap (λ (m : Made). given m out) (sym (rw (eq-eqb o 0 e)))

    pub once-1 : (o ≡ 0 → ⊥) → o ≡ 1 → given_is a out' ≡ given (make (tables_of A B []) (operation_of false) x) out → unpacked r out' ≡ given (made_for o A B x) out
    unfolding made_for
    once-1 h e f =
        let g = sym (check-1 h e) ∙ pass in
        unpacks _ a r out out' (maximise-small A B x) p (likely.whole-answer false A B x a out out' g f ∙ ap (λ (m : Made). given m out) (likely.whole-maximised A B x))
        ∙ ap (λ (m : Made). given m out) (sym (rw (ne_eqb o 0 h, eq-eqb o 1 e)))

    pub once-2 : (o ≡ 0 → ⊥) → (o ≡ 1 → ⊥) → o ≡ 2 → given_is a out' ≡ given (make (tables_of A B []) (operation_of true) x) out → unpacked r out' ≡ given (made_for o A B x) out
    unfolding made_for
    once-2 h k e f =
        let g = sym (check-2 h k e) ∙ pass in
        unpacks _ a r out out' (minimise-small A B x) p (likely.whole-answer true A B x a out out' g f ∙ ap (λ (m : Made). given m out) (likely.whole-minimised A B x))
        ∙ ap (λ (m : Made). given m out) (sym (rw (ne_eqb o 0 h, ne_eqb o 1 k, eq-eqb o 2 e)))

    pub once-3 : (o ≡ 0 → ⊥) → (o ≡ 1 → ⊥) → (o ≡ 2 → ⊥) → given_is a out' ≡ given (chain_from (tables_of A [] B) (read x)) out → unpacked r out' ≡ given (made_for o A B x) out
    unfolding made_for
    once-3 h k l f =
        let g = sym (check-3 h k l) ∙ pass in
        unpacks _ a r out out' (list-small A B x) p (parents.whole-answer A B x a out out' g f) ∙ ap (λ (m : Made). given m out) (sym (rw (ne_eqb o 0 h, ne_eqb o 1 k, ne_eqb o 2 l)))

  -- the aliases, which each operation tests, ascend
  pub sorted-for : check_for o A B ≡ none → Sorted A
  unfolding check_for
  sorted-for e = go (eqb o 0) (eqb o 1) (eqb o 2) e
    where
      go : (a b c : Bool) → cond a (check to_canonicalise A [] []) (cond b (check to_maximise A B []) (cond c (check to_maximise A B []) (check to_chain A [] B))) ≡ none → Sorted A
      go true b c q = sorted-aliases A q
      go false true c q = (likely.tested-both A B q).aliases.sorted
      go false false true q = (likely.tested-both A B q).aliases.sorted
      go false false false q = (parents.tested-chain A B q).aliases.sorted

-- What an operation makes, its tables' refusals in front.
unfoldable Afters : ℕ → Bytes → Bytes → Bytes → Type 0
Afters o A B x = (m : Made) × (made_for o A B x ≡ after_check (check_for o A B) m)

after-for : (o : ℕ) (A B x : Bytes) → Afters o A B x
unfolding Afters made_for check_for canonicalise_made maximise_made minimise_made list_made
after-for o A B x = go (eqb o 0) (eqb o 1) (eqb o 2) refl refl refl
  where
    go : (a b c : Bool) → eqb o 0 ≡ a → eqb o 1 ≡ b → eqb o 2 ≡ c → (m : Made) × (made_for o A B x ≡ after_check (check_for o A B) m)
    go true b c e f g = (make (tables_of A [] []) canonicalise x, rw e)
    go false true c e f g = (make (tables_of A B []) maximise x, rw (e, f))
    go false false true e f g = (make (tables_of A B []) minimise x, rw (e, f, g))
    go false false false e f g = (chain_from (tables_of A [] B) (read x), rw (e, f, g))

small-for : (o : ℕ) (A B x : Bytes) → Small (made_for o A B x)
unfolding made_for
small-for o A B x = go (eqb o 0) (eqb o 1) (eqb o 2) refl refl refl
  where
    go : (a b c : Bool) → eqb o 0 ≡ a → eqb o 1 ≡ b → eqb o 2 ≡ c → Small (made_for o A B x)
    go true b c e f g = rw e (canonicalise-small A x)
    go false true c e f g = rw (e, f) (maximise-small A B x)
    go false false true e f g = rw (e, f, g) (minimise-small A B x)
    go false false false e f g = rw (e, f, g) (list-small A B x)

-- a table's refusal stands
pub refused-for : (o : ℕ) (A B x out : Bytes) (v : Result ⊤ Fault) (f : Fault) (r : ℕ) → v ≡ Err f → r ≡ packed (answer_by (Err (Table f))) → verdict_is v ≡ check_for o A B
    → unpacked r out ≡ given (made_for o A B x) out
unfolding Afters
refused-for o A B x out v f r e p q =
    let w = after-for o A B x in
    unpacks (made_for o A B x) (Err (Table f)) r out out (small-for o A B x) p (table-stands v f (check_for o A B) w.0 out e q ∙ ap (λ (m : Made). given m out) (sym w.1))
