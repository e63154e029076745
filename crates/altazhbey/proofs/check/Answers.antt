-- `altazhbey::check` meets its contract. Assumes nothing.
use Rattle.operations.proofs.Delivers.{checked}
use Rattle.altazhbey.proofs.check.Goals as goal

pub returns : goal.returns
returns c = checked c.args.aliases.now c.args.likely.now c.args.parents.now _ c.check.ensures
