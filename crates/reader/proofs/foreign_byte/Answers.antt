-- `reader::foreign_byte` meets its contract. Assumes nothing.
use mathlib.Core.Path.{ap, ◌∙◌}
use mathlib.Core.Bool.{not}
use Rattle.std.proofs.Common.{rules, tests}
use Rattle.std.proofs.lemmas.Iterator.{YieldsList-from_slice}
use Rattle.std.proofs.lemmas.Iterator.Search.{position_from_yields_List}
use Rattle.std.proofs.lemmas.Iterator.Adapters.{position_from-zero}
use Rattle.standard.specs.Reading.{clean}
use Rattle.reader.specs.Parts.{found_as}
use Rattle.reader.proofs.Outcomes.{unclean-from}
use Rattle.reader.proofs.foreign_byte.Goals as goal

pub returns : goal.returns
returns c =
    ap (found_as 3)
    (position_from_yields_List (λ b. not (clean b)) _ _ c.position.result c.position.ensures.ran (YieldsList-from_slice c.args.id.now (cc)) (λ x b q k. search (rules, tests))
    ∙ position_from-zero (λ b. not (clean b)) c.args.id.now)
    ∙ unclean-from 0 _
