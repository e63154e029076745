-- `test_api::probe_check` meets its contract. Assumes nothing.
use mathlib.Core.Path.{ap, ◌∙◌}
use Rattle.test_api.specs.Codes.{fault_code}
use Rattle.test_api.proofs.probe_check.Goals as goal

pub returns : goal.returns
returns c = c.code_verdict.ensures ∙ ap fault_code c.check.ensures
