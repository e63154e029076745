-- `subtag::is_small` meets its contract. Assumes nothing.
use mathlib.Core.Path.{◌∙◌}
use Rattle.subtag.specs.Bytes.{is_small}
use Rattle.subtag.proofs.Bytes.{by-class, classed, small-class}
use Rattle.subtag.proofs.is_small.Goals as goal

pub returns : goal.returns
returns c = by-class _ is_small (c.eq.ensures ∙ small-class _) c.class_of.ensures (classed _).small
