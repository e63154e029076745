-- `operations::complete::form_tested` meets its contract. Assumes nothing.
use native.Mathlib.Omega.{arith}
use mathlib.Core.Path.{sym, ap, ◌∙◌}
use Prim.Native.Nat.{ℕ}
use Rattle.std.specs.Prelude.{Result}
use Rattle.std.proofs.lemmas.Result.{err_from_is_err_and}
use Rattle.likely.specs.declared.forms.NoForm.{NoForm as NotMade}
use Rattle.operations.specs.Answer.{given_is}
use Rattle.operations.specs.Completed.{made_is}
use Rattle.operations.proofs.Canonicalised.{canonicalised, formed-by, fits_by, in_order}
use Rattle.operations.proofs.CompleteForms.{by_indexed, refusal-stands, made-answer}
use Rattle.operations.proofs.complete.form_tested.Goals as goal

pub returns-in_default : goal.returns-in_default
returns-in_default c =
    let a = c.args in
    rw c.from.ensures (refusal-stands a.tables.aliases.rows.now a.tables.likely.rows.now a.id.now a.shorten c.canonical_form-made.result _ _ _ c.unwrap_err.ensures c.canonical_form-made.ensures.0)

pub from_form-requires : goal.from_form-requires
from_form-requires c =
    let a = c.args in
    let k = c.canonical_form-made in
    let w = canonicalised a.tables.aliases.rows.now a.id.now _ _ (formed-by _ _ _ c.in-Ok.is k.ensures.0) in
    let o = in_order _ _ w.ends in
    let n = fits_by c.in-Ok.is k.ensures.1 in
    (o.0, o.1, o.2, omega arith)

pub returns-in_err-len : goal.returns-in_err-len
unfolding made_is
returns-in_err-len c =
    let a = c.args in
    let k = c.canonical_form-made in
    let w = canonicalised a.tables.aliases.rows.now a.id.now _ _ (formed-by _ _ _ c.in-Ok.is k.ensures.0) in
    let h = by_indexed c.in-Ok.form _ _ _ _ _ _ _ _ _ c.hinted.ensures.0 c.hinted.ensures.1 a.tables.likely.indexed c.from_form.ensures in
    let answer = made-answer a.tables.aliases.rows.now a.tables.likely.rows.now a.tables.tested.passes a.id.now _ _ w a.shorten _ _ _ h in
    let e = err_from_is_err_and c.from_residual.result c.from_residual.ensures.1 in
    rw (e.1, e.2) (ap (λ (o : Result ℕ NotMade). given_is (made_is o) c.from_form.new.out) (sym c.in_err-len.was) ∙ answer)

pub returns : goal.returns
unfolding made_is
returns c =
    let a = c.args in
    let k = c.canonical_form-made in
    let w = canonicalised a.tables.aliases.rows.now a.id.now _ _ (formed-by _ _ _ c.in-Ok.is k.ensures.0) in
    let h = by_indexed c.in-Ok.form _ _ _ _ _ _ _ _ _ c.hinted.ensures.0 c.hinted.ensures.1 a.tables.likely.indexed c.from_form.ensures in
    let answer = made-answer a.tables.aliases.rows.now a.tables.likely.rows.now a.tables.tested.passes a.id.now _ _ w a.shorten _ _ _ h in
    ap (λ (o : Result ℕ NotMade). given_is (made_is o) c.from_form.new.out) (sym c.in_ok-len.was) ∙ answer
