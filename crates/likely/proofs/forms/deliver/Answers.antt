-- `likely::forms::deliver` meets its contract. Assumes nothing.
use mathlib.Core.Path.{sym, ◌∙◌}
use Rattle.likely.proofs.Delivered.{given-long, given-short, given-done, room-four}
use Rattle.likely.proofs.forms.deliver.Goals as goal

pub returns-in_default : goal.returns-in_default
returns-in_default c = given-long _ _ (sym c.in_default.is ∙ c.form_length.ensures)

pub returns-then-out-n : goal.returns-then-out-n
returns-then-out-n c = given-short _ _ _ (sym c.in-Some.is ∙ c.form_length.ensures) c.if-out-n.true

pub put_form-requires : goal.put_form-requires
put_form-requires c = let p = c.args.parts in room-four p.language.now p.script.now p.region.now c.args.rest.now c.args.out.now _ (sym c.in-Some.is ∙ c.form_length.ensures) c.if-out-n.false

pub returns : goal.returns
returns c = given-done _ _ _ (sym c.in-Some.is ∙ c.form_length.ensures) _ _ c.if-out-n.false c.put_form.ensures.0 c.put_form.ensures.1
