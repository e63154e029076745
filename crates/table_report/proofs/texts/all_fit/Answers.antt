-- `table_report::texts::all_fit` meets its contract. Assumes nothing.
use mathlib.Core.Path.{◌∙◌}
use Rattle.std.proofs.Common.{rules, tests}
use Rattle.std.proofs.lemmas.Iterator.{YieldsList-from_slice}
use Rattle.std.proofs.lemmas.Iterator.Search.{all_from_yields_List}
use Rattle.row_shapes.proofs.Tags.{every-all}
use Rattle.table_report.specs.Faults.{fits}
use Rattle.table_report.proofs.texts.all_fit.Goals as goal

pub returns : goal.returns
returns c = all_from_yields_List fits _ _ c.all.result c.all.ensures.ran (YieldsList-from_slice c.args.s.now cc) (λ x b q k. search (rules, tests)) ∙ every-all _ _
