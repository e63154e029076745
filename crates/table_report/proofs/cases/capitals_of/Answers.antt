-- `table_report::cases::capitals_of` meets its contract. Assumes nothing.
use mathlib.Core.Path.{◌∙◌}
use Rattle.table_report.proofs.Counts.{capitals-least}
use Rattle.table_report.proofs.cases.capitals_of.Goals as goal

pub returns : goal.returns
returns c = c.by_length.ensures ∙ capitals-least _ _ _ _ c.end_of.ensures c.end_of-2.ensures c.min.ensures
