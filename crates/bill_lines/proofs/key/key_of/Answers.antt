-- `bill_lines::key::key_of` meets its contract. Assumes nothing.
use mathlib.Core.Path.{sym}
use native.Mathlib.Omega.{arith}
use Rattle.operations.proofs.Canonicalised.{Canonicalised, canonicalised, formed-by, fits_by, in_order}
use Rattle.operations.proofs.CompleteForms.{by_indexed}
use Rattle.bill_lines.specs.Keys.{key_is}
use Rattle.bill_lines.proofs.Keying.{refused-key, no_key, made-key}
use Rattle.bill_lines.proofs.key.key_of.Goals as goal
use Rattle.bill_lines.proofs.key.key_of.Goals.{In-Ok}

-- the canonical form in the buffer
made : (c : In-Ok) → Canonicalised c.args.tables.aliases.rows.now c.args.id.now c.in-Ok.form c.canonical_form.new.out
made c = let k = c.canonical_form in canonicalised c.args.tables.aliases.rows.now c.args.id.now _ _ (formed-by _ _ _ c.in-Ok.is k.ensures.0)

pub returns-in_default : goal.returns-in_default
unfolding key_is
returns-in_default c =
    let t = c.args.tables in
    (sym (refused-key t.aliases.rows.now t.likely.rows.now c.args.id.now _ c.canonical_form.result _ c.in_default.is c.canonical_form.ensures.0), tt)

pub from_form-requires : goal.from_form-requires
from_form-requires c =
    let k = c.canonical_form in
    let o = in_order _ _ (made (goal.at.from_form-requires c).In-Ok).ends in
    let n = fits_by c.in-Ok.is k.ensures.1 in
    (o.0, o.1, o.2, omega arith)

pub returns-in_default-from_form : goal.returns-in_default-from_form
unfolding key_is
returns-in_default-from_form c =
    let t = c.args.tables in
    let h = by_indexed c.in-Ok.form _ _ _ _ _ _ _ _ _ c.hinted.ensures.0 c.hinted.ensures.1 t.likely.indexed c.from_form.ensures in
    (no_key t.aliases.rows.now t.likely.rows.now t.tested.passes c.args.id.now _ _ (made (goal.at.returns-in_default-from_form c).In-Ok) c.from_form.result c.args.out.now _ h c.requires c.in_default-from_form.is, tt)

pub overflow_sub-rest : goal.overflow_sub-rest
overflow_sub-rest c = (in_order _ _ (made (goal.at.overflow_sub-rest c).In-Ok).ends).2

pub returns : goal.returns
returns c =
    let t = c.args.tables in
    let h = by_indexed c.in-Ok.form _ _ _ _ _ _ _ _ _ c.hinted.ensures.0 c.hinted.ensures.1 t.likely.indexed c.from_form.ensures in
    let m = made-key t.aliases.rows.now t.likely.rows.now t.tested.passes c.args.id.now _ _ (made (goal.at.returns c).In-Ok) c.from_form.result c.args.out.now _ h _ c.requires c.in-Ok-from_form.is in
    rw c.saturating_sub.ensures m
