-- `subtag::is_digit` meets its contract. Assumes nothing.
use mathlib.Core.Path.{◌∙◌}
use Rattle.subtag.specs.Bytes.{is_digit}
use Rattle.subtag.proofs.Bytes.{by-class, classed, digit-class}
use Rattle.subtag.proofs.is_digit.Goals as goal

pub returns : goal.returns
returns c = by-class _ is_digit (c.eq.ensures ∙ digit-class _) c.class_of.ensures (classed _).digit
