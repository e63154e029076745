-- `subtag::put_normalised` meets its contract: no byte becomes a capital. Assumes nothing.
use mathlib.Core.Path.{ap, ◌∙◌}
use lib.Seq.{sets}
use Rattle.subtag.proofs.Cased.{cased-none}
use Rattle.subtag.proofs.put_normalised.Goals as goal

pub returns : goal.returns
returns c = (c.put_cased.ensures.0, c.put_cased.ensures.1 ∙ ap (sets _ _) (cased-none _))
