-- `aliases::replace::replaced` meets its contract. Assumes nothing.
use mathlib.Core.Path.{◌∙◌}
use Rattle.byte_string.proofs.Stores.{all_from}
use Rattle.aliases.proofs.Keyed as keys
use Rattle.aliases.proofs.replace.replaced.Goals as goal

pub returns-in-Some : goal.returns-in-Some
returns-in-Some c = keys.found-row _ _ _ _ c.in-Some.ensures

pub returns-in-None : goal.returns-in-None
returns-in-None c = all_from c.args.skip c.args.key.now ∙ keys.no_row _ _ _ c.in-None.ensures
