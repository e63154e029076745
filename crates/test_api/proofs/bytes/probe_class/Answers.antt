-- `test_api::bytes::probe_class` meets its contract. Assumes nothing.
use mathlib.Core.Path.{ap, ◌∙◌}
use Rattle.test_api.specs.Codes.{class_code}
use Rattle.test_api.proofs.bytes.probe_class.Goals as goal

pub returns : goal.returns
returns c = c.code_class.ensures ∙ ap class_code c.class_of.ensures
