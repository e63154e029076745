-- `canonical::form::canonical_form` meets its contract. Assumes nothing.
use native.Mathlib.Omega.{arith}
use Rattle.std.proofs.lemmas.Result.{err_from_is_err_and}
use Rattle.canonical.proofs.Outcomes as outcomes
use Rattle.canonical.proofs.form.canonical_form.Goals as goal

pub returns-in_err-p : goal.returns-in_err-p
returns-in_err-p c =
    let e = err_from_is_err_and c.from_residual.result c.from_residual.ensures.1 in
    rw (e.1, e.2) (outcomes.stands c.args.aliases.rows.now c.args.id.now _ c.read_parts.result _ c.read_parts.ensures c.in_err-p.was)

pub write_form-form-requires : goal.write_form-form-requires
write_form-form-requires c =
    let w = outcomes.was_read c.args.aliases.rows.now c.args.id.now c.args.out.now c.read_parts.result _ c.read_parts.ensures c.in_ok-p.was in
    (w.0, w.1, c.requires.0, c.requires.1)

pub returns-then-form-gt255 : goal.returns-then-form-gt255
returns-then-form-gt255 c =
    let w = outcomes.was_read c.args.aliases.rows.now c.args.id.now c.args.out.now c.read_parts.result _ c.read_parts.ensures c.in_ok-p.was in
    outcomes.too_long_lem c.args.aliases.rows.now c.args.id.now c.write_form-form.new.out w.0 c.write_form-form.result c.write_form-form.ensures.0 c.if-form-gt255.true

pub returns : goal.returns
returns c =
    let w = outcomes.was_read c.args.aliases.rows.now c.args.id.now c.args.out.now c.read_parts.result _ c.read_parts.ensures c.in_ok-p.was in
    outcomes.fits c.args.aliases.rows.now c.args.id.now c.write_form-form.new.out w.0 c.write_form-form.result c.write_form-form.ensures.0 c.args.out.now c.write_form-form.ensures.1 c.write_form-form.ensures.2 (omega (arith, c.requires.1)) c.if-form-gt255.false
