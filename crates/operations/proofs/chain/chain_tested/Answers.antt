-- `operations::chain::chain_tested` meets its contract. Assumes nothing.
use mathlib.Core.Path.{refl, sym, ap, ◌∙◌}
use native.Mathlib.Omega.{arith}
use Rattle.std.specs.Prelude.{Result}
use Rattle.parents.specs.declared.lines.Listed.{Listed}
use Rattle.operations.specs.Answer.{given_is}
use Rattle.operations.specs.Chained.{listed_is}
use Rattle.operations.proofs.Canonicalised.{canonicalised, formed-by, fits_by}
use Rattle.operations.proofs.ChainMakes.{chain-stands, form-bounds, chain-answer}
use Rattle.operations.proofs.chain.chain_tested.Goals as goal

pub canonical_form-made-requires : goal.canonical_form-made-requires
canonical_form-made-requires c = (c.requires.aliases.passes, c.buffer-buf.ensures)

pub returns-in_default : goal.returns-in_default
returns-in_default c =
    let a = c.args in
    rw c.from.ensures (chain-stands a.aliases.rows.now a.parents.now a.id.now c.canonical_form-made.result _ _ _ c.unwrap_err.ensures c.canonical_form-made.ensures.0)

pub list_form-requires : goal.list_form-requires
list_form-requires c =
    let k = c.canonical_form-made in
    let w = canonicalised c.args.aliases.rows.now c.args.id.now _ _ (formed-by _ _ _ c.in-Ok.is k.ensures.0) in
    let o = form-bounds _ c.args.parents.now _ _ _ w in
    let n = fits_by c.in-Ok.is k.ensures.1 in
    (omega arith, omega arith, omega arith, c.requires.small, refl)

pub returns-in_default-list_form : goal.returns-in_default-list_form
unfolding listed_is
returns-in_default-list_form c =
    let k = c.canonical_form-made in
    let w = canonicalised c.args.aliases.rows.now c.args.id.now _ _ (formed-by _ _ _ c.in-Ok.is k.ensures.0) in
    let answer = chain-answer c.args.aliases.rows.now c.args.parents.now c.args.id.now _ _ w c.requires.passes _ _ _ (c.list_form.ensures c.requires.parents) in
    ap (λ (o : Result Listed Listed). given_is (listed_is o) c.list_form.new.out) (sym c.in_default-list_form.is) ∙ answer

pub returns : goal.returns
unfolding listed_is
returns c =
    let k = c.canonical_form-made in
    let w = canonicalised c.args.aliases.rows.now c.args.id.now _ _ (formed-by _ _ _ c.in-Ok.is k.ensures.0) in
    let answer = chain-answer c.args.aliases.rows.now c.args.parents.now c.args.id.now _ _ w c.requires.passes _ _ _ (c.list_form.ensures c.requires.parents) in
    ap (λ (o : Result Listed Listed). given_is (listed_is o) c.list_form.new.out) (sym c.in-Ok-list_form.is) ∙ answer
