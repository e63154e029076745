-- `operations::complete::from_form` meets its contract. Assumes nothing.
use Rattle.operations.proofs.CompleteForms.{by-slices}
use Rattle.operations.proofs.complete.from_form.Goals as goal

pub returns : goal.returns
returns c = λ p rest s k. by-slices _ _ _ p _ rest _ _ _ (λ i. record { language = s.first i; script = s.second i; region = s.third i }) s.fourth c.form_by_parts.ensures k
