-- `altazhbey::maximise` meets its contract. Assumes nothing.
use mathlib.Core.Path.{ap, ◌∙◌}
use Rattle.standard.specs.Delivery.{Made, given}
use Rattle.operations.proofs.CompleteChecked.{whole-maximised}
use Rattle.altazhbey.proofs.maximise.Goals as goal

pub returns : goal.returns
returns c =
    c.operation.ensures ∙ ap (λ (m : Made). given m c.args.out.now) (whole-maximised c.args.aliases.now c.args.likely.now c.args.id.now)
