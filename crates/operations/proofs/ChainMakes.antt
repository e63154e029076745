-- From the canonical form in a buffer to the listing of its chain. Assumes nothing.
use mathlib.Core.Path.{◌≡◌, refl, sym, ap, ap₂, ◌∙◌, subst}
use mathlib.Core.Bool.{Bool, true, false}
use mathlib.Core.List.{List, [], ◌∷◌, ◌++◌, append-nil, append_assoc}
use mathlib.Core.Option.{none}
use Prim.Native.Nat.{ℕ, ◌+◌, ◌≤◌}
use native.Mathlib.Omega.{arith}
use borrow.Author.Tests.{leb-true}
use lib.Dec.{leb}
use lib.ListN.{length, take, drop, length-append}
use lib.Seq.{sets, sets-eq, take-take, take-append_seam}
use Rattle.standard.specs.Tag.{Tag}
use Rattle.standard.specs.Grammar.{flat}
use Rattle.standard.specs.Delivery.{Bytes, Made, refusal, given}
use Rattle.standard.specs.Calls.{canonicalise}
use Rattle.standard.specs.Identifier.{Identifier, Tables, Answer, done, refused, canonical, part, parts, printed_length}
use Rattle.standard.specs.Reading.{Read, good, bad, read, print, optional}
use Rattle.standard.specs.Chain.{line}
use Rattle.standard.specs.Table.{tables_of, check, to_chain, to_check, listing}
use Rattle.standard.specs.Make.{operate, identifier, print_line, chain_of, listed, chain_made, chain_from}
use Rattle.standard.proofs.Lines.{Plain}
use Rattle.standard.proofs.Whole.{same-canonical, narrow-parents}
use Rattle.canonical.specs.declared.form.Form.{Form}
use Rattle.std.specs.Prelude.{Result, Err}
use Rattle.canonical.specs.declared.form.NoForm.{NoForm}
use Rattle.subtag.specs.Sections.{led}
use Rattle.canonical.specs.Form.{refusal as refused_as, form_of, formed, canonical_of, no_form_is, outcome_of, outcome}
use Rattle.canonical.proofs.Print.{print-led}
use Rattle.operations.specs.Answer.{answer_of, given_is, not_formed}
use Rattle.operations.proofs.Canonicalised.{Canonicalised, refused-by, refusal-one, form-not}
use Rattle.operations.proofs.Delivers.{refused-given}
use Rattle.operations.proofs.Wholes.{printable-among}
use Rattle.parents.specs.declared.lines.Listed.{Listed}
use Rattle.parents.specs.Texts.{chain_text}
use Rattle.parents.specs.Listed.{Lists, listed_of, out_after}
use Rattle.operations.specs.Chained.{listed_is}
use Rattle.parents.proofs.Laws.{first_plain, chain-text}

-- a refusal of canonicalising stands
refused-chain : (A P x : Bytes) (n p : ℕ) → outcome A x ≡ refused_as n p → chain_from (tables_of A [] P) (read x) ≡ refusal n p 0
unfolding outcome canonical_of formed chain_from chain_made
refused-chain A P x n p e = go (read x) e
  where
    by : (i : Identifier) (a : Answer) → canonical (tables_of A [] []) i ≡ a → formed a ≡ refused_as n p → chain_made (tables_of A [] P) (canonical (tables_of A [] P) i) ≡ refusal n p 0
    by i (done c) q k = form-not k
    by i (refused m) q k = let z = refusal-one k in rw (same-canonical A [] P [] [] i ∙ q, z.0, ← z.1)

    go : (a : Read) → canonical_of (tables_of A [] []) a ≡ refused_as n p → chain_from (tables_of A [] P) a ≡ refusal n p 0
    go (bad m q) k = let z = refusal-one k in rw (z.0, z.1)
    go (good i) k = by i (canonical (tables_of A [] []) i) refl k

pub chain-stands : (A P x : Bytes) (c : Result Form NoForm) (r : NoForm) (buf out : Bytes) → c ≡ Err r → outcome_of c buf ≡ outcome A x
    → given_is (Err (not_formed r)) out ≡ given (chain_from (tables_of A [] P) (read x)) out
chain-stands A P x c r buf out k e =
    refused-given r out
    ∙ ap (λ (m : Made). given m out) (sym (refused-chain A P x (no_form_is r).number (no_form_is r).place (refused-by A x buf k e)))

-- a line is the front of the form that it was made of
led-length : (ts : List Tag) → length (led ts) ≡ parts ts
unfolding led parts
led-length [] = refl
led-length (t ∷ ts) = let a = length-append t (led ts) in let b = led-length ts in omega (arith, a, b)

led-part : (t : Tag) → length (led (optional t)) ≡ part t
unfolding led optional part
led-part [] = refl
led-part (b ∷ bs) = let a = length-append bs [] in omega (arith, a)

abbrev front_of : Identifier → Bytes
front_of c = c.core.language ++ (led (optional c.core.script) ++ (led (optional c.core.region) ++ led c.variants))

front-print : (c : Identifier) → print c ≡ front_of c ++ (led (flat c.extensions) ++ led c.private)
front-print c =
    let l = c.core.language in
    let s = led (optional c.core.script) in
    let r = led (optional c.core.region) in
    let v = led c.variants in
    let x = led (flat c.extensions) ++ led c.private in
    print-led c ∙ sym (append_assoc l (s ++ (r ++ v)) x ∙ ap (λ (y : Bytes). l ++ y) (append_assoc s (r ++ v) x ∙ ap (λ (y : Bytes). s ++ y) (append_assoc r v x)))

front-line : (c : Identifier) → print_line (line c.core c.variants) ≡ front_of c
unfolding print_line identifier flat led
front-line c = front-print (identifier (line c.core c.variants)) ∙ append-nil (front_of c)

front_length : (c : Identifier) → length (front_of c) ≡ length c.core.language + part c.core.script + part c.core.region + parts c.variants
front_length c =
    let s = led (optional c.core.script) in
    let r = led (optional c.core.region) in
    let v = led c.variants in
    let a = length-append c.core.language (s ++ (r ++ v)) in
    let b = length-append s (r ++ v) in
    let d = length-append r v in
    let e = led-part c.core.script in
    let f = led-part c.core.region in
    let g = led-length c.variants in
    omega arith

variants-few : (vs : List Tag) → length vs ≤ parts vs
unfolding parts
variants-few [] = omega arith
variants-few (v ∷ vs) = let k = variants-few vs in omega (arith, k)

module _ (A P x : Bytes) (f : Form) (buf : Bytes) (w : Canonicalised A x f buf) where
  abbrev c : Identifier
  c = w.form

  pub form-bounds : (f.variants ≤ f.len) × (f.count ≤ f.len)
  unfolding form_of printed_length
  form-bounds =
      let a = ap (λ (g : Form). g.variants) w.ends in
      let b = ap (λ (g : Form). g.count) w.ends in
      let d = ap (λ (g : Form). g.len) w.ends in
      let k = variants-few c.variants in
      (omega (arith, a, d), omega (arith, b, d, k))

  line-is : take f.variants buf ≡ print_line (line c.core c.variants)
  unfolding form_of
  line-is =
      let a = ap (λ (g : Form). g.variants) w.ends in
      let n : f.variants ≡ length (front_of c) = a ∙ sym (front_length c) in
      sym (take-take f.variants f.len buf form-bounds.0) ∙ (ap (take f.variants) (w.bytes ∙ front-print c) ∙ (ap (λ (m : ℕ). take m (front_of c ++ (led (flat c.extensions) ++ led c.private))) n ∙ (take-append_seam (front_of c) (led (flat c.extensions) ++ led c.private) ∙ sym (front-line c))))

  module _ (pass : check to_chain A [] P ≡ none) where
    abbrev T : Tables
    T = tables_of A [] P

    abbrev whole : check to_check A [] P ≡ none
    whole = narrow-parents A P ∙ pass

    canonicalises : canonical T w.input ≡ done c
    canonicalises = same-canonical A [] P [] [] w.input ∙ w.does

    plain : Plain (line c.core c.variants)
    unfolding operate
    plain = first_plain c (printable-among A [] P x canonicalise w.input c whole w.reads canonicalises)

    lines_are : chain_text P (f.count + 10) f.count (take f.variants buf) ≡ chain_of T c
    unfolding chain_of form_of
    lines_are =
        let n : f.count ≡ length c.variants = ap (λ (g : Form). g.count) w.ends in
        ap₂ (λ (m : ℕ) (y : Bytes). chain_text P (m + 10) m y) n line-is ∙ sym (chain-text A [] P whole (length c.variants + 10) (line c.core c.variants) plain)

    chain-makes : chain_from T (read x) ≡ listed (chain_of T c)
    unfolding chain_from chain_made
    chain-makes = rw (w.reads, canonicalises)

    pub chain-answer : (r : Result Listed Listed) (out out' : Bytes) → Lists 0 out (chain_text P (f.count + 10) f.count (take f.variants buf)) r out'
        → given_is (listed_is r) out' ≡ given (chain_from T (read x)) out
    unfolding given_is answer_of listed_is given listed listed_of out_after
    chain-answer r out out' h =
        let ls = chain_of T c in
        let k : Lists 0 out ls r out' = subst (λ (y : List Bytes). Lists 0 out y r out') lines_are h in
        go ls k (leb (length (listing ls)) (length out)) refl ∙ ap (λ (m : Made). given m out) (sym chain-makes)
      where
        zero-plus : (n : ℕ) → 0 + n ≡ n
        zero-plus n = omega arith

        go : (ls : List Bytes) → Lists 0 out ls r out' → (b : Bool) → leb (length (listing ls)) (length out) ≡ b → given_is (listed_is r) out' ≡ given (listed ls) out
        go ls k false e = let z = zero-plus (length (listing ls)) in rw (k.listed, k.written, z, e)
        go ls k true e =
            let z = zero-plus (length (listing ls)) in
            let h : length (listing ls) ≤ length out = leb-true _ _ e in
            let q : sets out 0 (listing ls) ≡ listing ls ++ drop (length (listing ls)) out = sets-eq (listing ls) out 0 (omega arith) ∙ ap (λ (m : ℕ). listing ls ++ drop m out) z in
            rw (k.listed, k.written, z, e, q)
