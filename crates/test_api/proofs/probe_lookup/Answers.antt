-- `test_api::probe_lookup` meets its contract. Assumes nothing.
use mathlib.Core.Path.{ap, ◌∙◌}
use Rattle.test_api.specs.Codes.{found_code}
use Rattle.test_api.proofs.probe_lookup.Goals as goal

pub returns : goal.returns
returns c = c.code_found.ensures ∙ ap found_code c.find.ensures.0
