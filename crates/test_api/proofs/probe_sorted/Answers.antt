-- `test_api::probe_sorted` meets its contract. Assumes nothing.
use mathlib.Core.Path.{ap, ◌∙◌}
use Rattle.test_api.specs.Codes.{found_code}
use Rattle.test_api.proofs.probe_sorted.Goals as goal

pub returns : goal.returns
returns c = λ s. c.code_found.ensures ∙ ap found_code (c.find_sorted.ensures.0 s)
