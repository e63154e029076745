-- `canonical::form::count_subtags` meets its contract. Assumes nothing.
use mathlib.Core.Path.{◌∙◌}
use lib.Dec.{eqb}
use Rattle.std.proofs.Common.{rules, tests}
use Rattle.std.proofs.lemmas.Iterator.{YieldsList-from_slice}
use Rattle.std.proofs.lemmas.Iterator.Consumers.{YieldsList-from_filter, count_from_yields_List}
use Rattle.canonical.proofs.Counts.{hyphens-filter}
use Rattle.canonical.proofs.form.count_subtags.Goals as goal

pub returns : goal.returns
returns c =
    count_from_yields_List c.filter.result _ c.count.ensures.ran (YieldsList-from_filter _ (λ b. eqb b 45) (YieldsList-from_slice c.args.s.now (cc)) c.filter.ensures.closure (λ x b q k. search (rules, tests)))
    ∙ hyphens-filter c.args.s.now
