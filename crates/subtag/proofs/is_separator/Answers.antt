-- `subtag::is_separator` meets its contract. Assumes nothing.
use mathlib.Core.Path.{◌∙◌}
use Rattle.subtag.specs.Bytes.{is_separator}
use Rattle.subtag.proofs.Bytes.{by-class, classed, separator-class}
use Rattle.subtag.proofs.is_separator.Goals as goal

pub returns : goal.returns
returns c = by-class _ is_separator (c.eq.ensures ∙ separator-class _) c.class_of.ensures (classed _).separator
