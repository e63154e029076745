-- `reader::foreign` meets its contract. Assumes nothing.
use mathlib.Core.Path.{◌∙◌}
use Rattle.subtag.specs.Bytes.{is_other}
use Rattle.subtag.proofs.Bytes.{by-class, foreign-as, other-class}
use Rattle.reader.proofs.foreign.Goals as goal

pub returns : goal.returns
returns c = by-class _ is_other (c.eq.ensures ∙ other-class _) c.class_of.ensures (foreign-as _)
