-- The key in an output is the key of the identifier. Assumes nothing.
use mathlib.Core.Path.{◌≡◌, refl, sym, ap, ◌∙◌, subst}
use mathlib.Core.Bool.{true}
use mathlib.Core.List.{[], ◌++◌, append_assoc}
use mathlib.Core.Option.{none, some}
use Prim.Native.Nat.{ℕ, ◌+◌, ◌-◌, ◌≤◌, ◌<◌}
use native.Mathlib.Omega.{arith}
use lib.Dec.{leb}
use lib.ListN.{length, take, drop, length-append}
use lib.Seq.{take-append_seam}
use borrow.Author.Tests.{le-leb, leb-true}
use Rattle.standard.specs.Delivery.{Bytes, Made, result, refusal, Given, given}
use Rattle.standard.specs.Calls.{minimise}
use Rattle.standard.specs.Identifier.{Three, Identifier, Tables, Answer, done, refused, canonical, canonical_form, minimised, minimal_three, with_three, printed_length}
use Rattle.standard.specs.Reading.{Read, good, bad, read, print}
use Rattle.standard.specs.Table.{tables_of, check, to_maximise}
use Rattle.standard.specs.Make.{operate, made, make_of, make}
use Rattle.standard.proofs.Numbers.{Proper, refusal-not}
use Rattle.standard.proofs.Operations.{bounded-done, maximised-form, maximised-maximal, minimised-done, shrunk, shrunk-canonical}
use Rattle.standard.proofs.Round.{length-print}
use Rattle.standard.proofs.Table.{Passed, passed, good-tables}
use Rattle.standard.proofs.Whole.{narrow-likely}
use Rattle.canonical.specs.declared.form.NoForm.{NoForm}
use Rattle.canonical.specs.declared.form.Form.{Form}
use Rattle.canonical.specs.Form.{no_form_is, outcome_of, outcome}
use Rattle.std.specs.Prelude.{Some, Result, Ok, Err}
use Rattle.likely.specs.declared.forms.NoForm.{NoForm as NotMade}
use Rattle.likely.specs.declared.forms.NoForm.TheVariants.{NoRow, Overlong, Short}
use Rattle.likely.specs.Forms.{given_by, bytes_of, made_parts, RoomFor}
use Rattle.likely.specs.Parts.{Parts, parts_of, joined_parts}
use Rattle.operations.specs.Slices.{Slices}
use Rattle.operations.specs.Both.{operation_of}
use Rattle.operations.proofs.CompleteChecked.{minimised-proper}
use Rattle.likely.proofs.Laws.{print-parts}
use Rattle.operations.proofs.CompleteMakes.{rest_of, print-rest, shaped-short}
use Rattle.operations.proofs.Canonicalised.{Canonicalised, refused-by}
use Rattle.operations.proofs.Wholes.{printable-among}
use Rattle.operations.proofs.CompleteForms.{refused-made, canonicalises, rest-length, cuts, ready, made_by}
use Rattle.bill_rules.specs.Bill.{key_of_answer, key_of_read, key_of}
use Rattle.bill_lines.specs.Keys.{key_is}

-- a refused identifier has no key
key-refused : (T : Tables) (x : Bytes) (n p : ℕ) → make T (operation_of true) x ≡ refusal n p 0 → key_of T x ≡ none
unfolding make make_of made operate operation_of key_of key_of_read key_of_answer
key-refused T x n p e = go (read x) e
  where
    by : (a : Answer) → made a ≡ refusal n p 0 → key_of_answer a ≡ none
    by (done m) q = refusal-not (sym q)
    by (refused k) q = refl

    go : (r : Read) → make_of T (operation_of true) r ≡ refusal n p 0 → key_of_read T r ≡ none
    go (bad k q) w = refl
    go (good i) w = by (minimised T i) w

pub refused-key : (A L x buf : Bytes) (c : Result Form NoForm) (r : NoForm) → c ≡ Err r → outcome_of c buf ≡ outcome A x → key_of (tables_of A L []) x ≡ none
refused-key A L x buf c r k e =
    let n = (no_form_is r).number in
    let p = (no_form_is r).place in
    key-refused (tables_of A L []) x n p (refused-made A L x true n p (refused-by A x buf k e))

-- a key at the front
key-front : (P R Z : Bytes) → key_is (Some (length P)) ((P ++ R) ++ Z) ≡ some P
unfolding key_is
key-front P R Z = ap some (ap (take (length P)) (append_assoc P R Z) ∙ take-append_seam P (R ++ Z))

-- number 0 is a form's alone
done-only : (o : Result ℕ NotMade) (out' : Bytes) (n : ℕ) (r : Bytes) → given_by o out' ≡ record { number = 0; place = 0; table = 0; len = n; steps = 0; output = r } → (o ≡ Ok n) × (out' ≡ r)
unfolding given_by
done-only (Ok k) out' n r e = (ap Ok (ap (λ (g : Given). g.len) e), ap (λ (g : Given). g.output) e)
done-only (Err NoRow) out' n r e = absurd (let z = ap (λ (g : Given). g.number) e in omega (arith, z))
done-only (Err Overlong) out' n r e = absurd (let z = ap (λ (g : Given). g.number) e in omega (arith, z))
done-only (Err Short) out' n r e = absurd (let z = ap (λ (g : Given). g.number) e in omega (arith, z))

not-done : (k : ℕ) (out' : Bytes) (n p t : ℕ) (out : Bytes) → 0 < n → given_by (Ok k) out' ≡ given (refusal n p t) out → ⊥
unfolding given_by given
not-done k out' n p t out h e = let z = ap (λ (g : Given). g.number) e in omega (arith, z)

number-eq : {E : Type 0} {m n : ℕ} → ◌≡◌ {A = Result ℕ E} (Ok m) (Ok n) → m ≡ n
number-eq e = cc

err-not : {E : Type 0} {m : ℕ} {r : E} → ◌≡◌ {A = Result ℕ E} (Err r) (Ok m) → ⊥
err-not e = cc

joined_length : (p : Parts) → length (joined_parts p) ≡ length p.language + length p.script + length p.region
unfolding joined_parts
joined_length p = length-append p.language (p.script ++ p.region) ∙ (let a = length-append p.script p.region in omega arith)

proper-number : (n p t : ℕ) (m : Made) → Proper m → m ≡ refusal n p t → 0 < n
unfolding Proper
proper-number n p t m h e = (subst Proper e h).0

given-form : (y out : Bytes) → length y ≤ length out → given (result y 0) out ≡ record { number = 0; place = 0; table = 0; len = length y; steps = 0; output = y ++ drop (length y) out }
unfolding given
given-form y out h = rw (le-leb (length y) (length out) h)

-- what is known of the minimised form
module _ (A L : Bytes) (pass : check to_maximise A L [] ≡ none) (x : Bytes) (f : Form) (buf : Bytes) (w : Canonicalised A x f buf) where
  abbrev T : Tables
  T = tables_of A L []

  abbrev ok : Passed A L []
  ok = passed A L [] (narrow-likely A L ∙ pass)

  record Minimised (m : Identifier) : Type 0 where
    prints : print m ≡ joined_parts (parts_of m.core) ++ rest_of w.form
    short : length (print m) ≤ 255
    most : length (joined_parts (parts_of m.core)) ≤ 26

  rest-same : (c d m n : Identifier) (t u : Three) → c ≡ d → with_three c t ≡ m → with_three m u ≡ n → rest_of n ≡ rest_of d
  unfolding with_three rest_of
  rest-same c d m n t u e f g = sym (ap rest_of g) ∙ sym (ap rest_of f) ∙ ap rest_of e

  minimised-is : (m : Identifier) → minimised T w.input ≡ done m → Minimised m
  unfolding operate canonical shrunk bytes_of
  minimised-is m e =
      let g = good-tables A L [] ok in
      let p = printable-among A L [] x minimise w.input m (narrow-likely A L ∙ pass) w.reads e in
      let d = minimised-done T g w.input m e in
      let q = maximised-form T g w.input d.0 d.1 in
      let k = (bounded-done (canonical_form T w.input) w.form (canonicalises A L pass x f buf w)).0 in
      let s = subst (λ (i : Identifier). canonical T i ≡ done i) d.2 (shrunk-canonical T g d.0 (maximised-maximal T g w.input d.0 d.1)) in
      let b = bounded-done (canonical_form T m) m s in
      let n = length-print m p in
      let z : leb (printed_length m) 255 ≡ true = subst (λ (i : Identifier). leb (printed_length i) 255 ≡ true) b.0 b.1 in
      let h = shaped-short m.core p.core in
      let j = joined_length (parts_of m.core) in
      record {
        prints = print-rest m ∙ ap (λ (r : Bytes). joined_parts (parts_of m.core) ++ r) (rest-same (canonical_form T w.input) w.form d.0 m q.0 (minimal_three T d.0.core) k q.2 d.2);
        short = omega (arith, n, leb-true (printed_length m) 255 z);
        most = omega arith;
      }

  module _ (o : Result ℕ NotMade) (out out' : Bytes)
      (h : (p : Parts) → (rest : Bytes) → Slices buf p.language p.script p.region rest f.language f.script f.region f.len → RoomFor L p → given_by o out' ≡ given (made_parts true L rest p) out) where
    g : given_by o out' ≡ given (make T (operation_of true) x) out
    g = h (parts_of w.form.core) (rest_of w.form) (cuts A L pass x f buf w) (ready A L pass x f buf w) ∙ ap (λ (m : Made). given m out) (sym (made_by A L pass x f buf w true))

    makes : (a : Answer) → minimised T w.input ≡ a → make T (operation_of true) x ≡ made a
    unfolding make make_of operate operation_of made
    makes a e = rw (w.reads, e)

    keys : (a : Answer) → minimised T w.input ≡ a → key_of T x ≡ key_of_answer a
    unfolding key_of key_of_read
    keys a e = rw (w.reads, e)

    proper : Proper (make T (operation_of true) x)
    proper = minimised-proper A L x pass

    -- what was made
    record Whole (m : Identifier) : Type 0 where
      is : Minimised m
      all : (o ≡ Ok (length (print m))) × (out' ≡ print m ++ drop (length (print m)) out)

    all_of : 255 ≤ length out → (m : Identifier) → minimised T w.input ≡ done m → Whole m
    unfolding made
    all_of l m e =
        let i = minimised-is m e in
        record { is = i; all = done-only o out' (length (print m)) (print m ++ drop (length (print m)) out) (g ∙ ap (λ (q : Made). given q out) (makes (done m) e) ∙ given-form (print m) out (omega (arith, i.short))) }

    pub no_key : {r : NotMade} → 255 ≤ length out → o ≡ Err r → none ≡ key_of T x
    unfolding key_of_answer
    no_key {r} l e = go (minimised T w.input) refl
      where
        go : (a : Answer) → minimised T w.input ≡ a → none ≡ key_of T x
        go (refused n) q = sym (keys (refused n) q)
        go (done m) q = absurd (err-not (sym e ∙ (all_of l m q).all.0))

    pub made-key : (k : ℕ) → 255 ≤ length out → o ≡ Ok k → (key_is (Some (k - (f.len - f.region))) out' ≡ key_of T x) × (k - (f.len - f.region) ≤ 26)
    unfolding made key_of_answer
    made-key k l e = go (minimised T w.input) refl
      where
        go : (a : Answer) → minimised T w.input ≡ a → (key_is (Some (k - (f.len - f.region))) out' ≡ key_of T x) × (k - (f.len - f.region) ≤ 26)
        go (refused n) q =
            absurd (not-done k out' n 0 0 out (proper-number n 0 0 (make T (operation_of true) x) proper (makes (refused n) q)) (ap (λ (v : Result ℕ NotMade). given_by v out') (sym e) ∙ g ∙ ap (λ (m : Made). given m out) (makes (refused n) q)))
        go (done m) q =
            let d = all_of l m q in
            let i = d.is in
            let P = joined_parts (parts_of m.core) in
            let R = rest_of w.form in
            let a : k ≡ length (print m) = number-eq (sym e ∙ d.all.0) in
            let b = rest-length A L pass x f buf w in
            let n = ap length i.prints ∙ length-append P R in
            let z : k - (f.len - f.region) ≡ length P = omega (arith, a, b, n) in
            let v : out' ≡ (P ++ R) ++ drop (length (print m)) out = d.all.1 ∙ ap (λ (y : Bytes). y ++ drop (length (print m)) out) i.prints in
            (ap (λ (c : ℕ). key_is (Some c) out') z ∙ ap (key_is (Some (length P))) v ∙ key-front P R (drop (length (print m)) out) ∙ ap some (sym (print-parts m.core)) ∙ sym (keys (done m) q), omega (arith, z, i.most))
