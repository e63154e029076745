-- `test_api::probe_hinted` meets its contract. Assumes nothing.
use mathlib.Core.Path.{ap, ◌∙◌}
use Rattle.test_api.specs.Codes.{found_code}
use Rattle.test_api.proofs.probe_hinted.Goals as goal

pub returns-then-t-le2048 : goal.returns-then-t-le2048
returns-then-t-le2048 c = λ s. c.code_found.ensures ∙ ap found_code (c.find.ensures.0 (record { sorted = s; hinted = c.fill_hints.ensures }))

pub returns-else-t-le2048 : goal.returns-else-t-le2048
returns-else-t-le2048 c = λ s. c.code_found-else-t-le2048.ensures ∙ ap found_code (c.find-else-t-le2048.ensures.0 (record { sorted = s; hinted = c.fill_hints-else-t-le2048.ensures }))
