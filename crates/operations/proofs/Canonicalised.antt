-- What canonicalising into a buffer gives, for the operations that go on from there: a form with its identifier, or a
-- refusal, which stands. Assumes nothing.
use mathlib.Core.Path.{◌≡◌, refl, sym, ap, ◌∙◌, subst}
use mathlib.Core.List.{[]}
use Prim.Native.Nat.{ℕ, ◌≤◌}
use native.Mathlib.Omega.{arith}
use lib.ListN.{take}
use Rattle.standard.specs.Delivery.{Bytes}
use Rattle.standard.specs.Identifier.{Identifier, Answer, done, refused, canonical, printed_length}
use Rattle.standard.specs.Reading.{Read, good, bad, read, print}
use Rattle.standard.specs.Table.{tables_of}
use Rattle.canonical.specs.declared.form.Form.{Form}
use Rattle.std.specs.Prelude.{Result, Ok, Err}
use Rattle.canonical.specs.declared.form.NoForm.{NoForm}
use Rattle.canonical.specs.Form.{form as formed-as, refusal as refused_as, form_of, formed, canonical_of, no_form_is, outcome_of, outcome, FormFits}

-- What a form in a buffer stands for.
pub record Canonicalised (A x : Bytes) (f : Form) (buf : Bytes) : Type 0 where
  pub input : Identifier
  pub form : Identifier
  pub reads : read x ≡ good input
  pub does : canonical (tables_of A [] []) input ≡ done form
  pub ends : f ≡ form_of form
  pub bytes : take f.len buf ≡ print form

form-one : {f g : Form} {x y : Bytes} → formed-as f x ≡ formed-as g y → (f ≡ g) × (x ≡ y)
form-one e = (cc, cc)

pub form-not : {f : Form} {x : Bytes} {n p : ℕ} {P : Type 0} → formed-as f x ≡ refused_as n p → P
form-not e = let z : ◌≡◌ {A = ℕ} 0 1 = cc in absurd (omega arith)

pub canonicalised : (A x : Bytes) (f : Form) (buf : Bytes) → outcome_of (Ok f) buf ≡ outcome A x → Canonicalised A x f buf
unfolding outcome_of outcome canonical_of formed
canonicalised A x f buf e = go (read x) refl e
  where
    by : (i : Identifier) → read x ≡ good i → (a : Answer) → canonical (tables_of A [] []) i ≡ a → formed-as f (take f.len buf) ≡ formed a → Canonicalised A x f buf
    by i r (refused n) q k = form-not k
    by i r (done c) q k = let z = form-one k in record { input = i; form = c; reads = r; does = q; ends = z.0; bytes = z.1 }

    go : (a : Read) → read x ≡ a → formed-as f (take f.len buf) ≡ canonical_of (tables_of A [] []) a → Canonicalised A x f buf
    go (bad n p) r k = form-not k
    go (good i) r k = by i r (canonical (tables_of A [] []) i) refl k

-- where the parts end, one behind the other
pub in_order : (f : Form) (i : Identifier) → f ≡ form_of i → (f.language ≤ f.script) × (f.script ≤ f.region) × (f.region ≤ f.len)
unfolding form_of printed_length
in_order f i e =
    let a = ap (λ (g : Form). g.language) e in
    let b = ap (λ (g : Form). g.script) e in
    let c = ap (λ (g : Form). g.region) e in
    let d = ap (λ (g : Form). g.len) e in
    (omega (arith, a, b), omega (arith, b, c), omega (arith, c, d))

-- the form that the code has in hand
pub formed-by : (A x buf : Bytes) {c : Result Form NoForm} {f : Form} → c ≡ Ok f → outcome_of c buf ≡ outcome A x → outcome_of (Ok f) buf ≡ outcome A x
formed-by A x buf e h = subst (λ (q : Result Form NoForm). outcome_of q buf ≡ outcome A x) e h

pub fits_by : {c : Result Form NoForm} {f : Form} → c ≡ Ok f → FormFits c → f.len ≤ 255
unfolding FormFits
fits_by e h = subst FormFits e h

-- the refusal that the code has in hand
pub refused-by : (A x buf : Bytes) {c : Result Form NoForm} {r : NoForm} → c ≡ Err r → outcome_of c buf ≡ outcome A x → outcome A x ≡ refused_as (no_form_is r).number (no_form_is r).place
unfolding outcome_of
refused-by A x buf e h = sym h ∙ ap (λ (q : Result Form NoForm). outcome_of q buf) e

pub refusal-one : {m n p q : ℕ} → refused_as m p ≡ refused_as n q → (m ≡ n) × (p ≡ q)
refusal-one e = (cc, cc)
