-- `subtag::is_capital` meets its contract. Assumes nothing.
use mathlib.Core.Path.{◌∙◌}
use Rattle.subtag.specs.Bytes.{is_capital}
use Rattle.subtag.proofs.Bytes.{by-class, classed, capital-class}
use Rattle.subtag.proofs.is_capital.Goals as goal

pub returns : goal.returns
returns c = by-class _ is_capital (c.eq.ensures ∙ capital-class _) c.class_of.ensures (classed _).capital
