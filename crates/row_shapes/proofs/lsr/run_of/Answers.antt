-- `row_shapes::lsr::run_of` meets its contract. Assumes nothing.
use mathlib.Core.Path.{◌∙◌}
use Rattle.std.proofs.Common.{rules}
use Rattle.std.proofs.lemmas.Iterator.{YieldsList-from_slice}
use Rattle.std.proofs.lemmas.Iterator.Search.{YieldsList-from_take_while}
use Rattle.std.proofs.lemmas.Iterator.Consumers.{count_from_yields_List}
use Rattle.row_shapes.proofs.Fronts.{run-while}
use Rattle.row_shapes.proofs.lsr.run_of.Goals as goal

pub returns : goal.returns
returns g c p h =
    count_from_yields_List c.take_while.result _ c.count.ensures.ran (YieldsList-from_take_while _ p (YieldsList-from_slice c.args.s.now cc) c.take_while.ensures.closure c.take_while.ensures.done (λ x b q k. (search rules, h _ _ (search rules))))
    ∙ run-while p c.args.s.now
