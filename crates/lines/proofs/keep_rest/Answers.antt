-- `lines::keep_rest` meets its contract. Assumes nothing.
use mathlib.Core.Path.{refl, ◌∙◌}
use Rattle.lines.proofs.Laws.{moved}
use Rattle.lines.proofs.keep_rest.Goals as goal

pub returns : goal.returns
returns c = (refl, c.copy_within.ensures.after ∙ moved _ _ _ c.requires.0 c.requires.1)
