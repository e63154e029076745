-- `row_shapes::aliases::name_of` meets its contract. Assumes nothing.
use mathlib.Core.Path.{sym, ◌∙◌}
use lib.Seq.{length-take-le}
use Rattle.byte_string.proofs.Ends.{end-le}
use Rattle.row_shapes.proofs.Texts.{language-row}
use Rattle.row_shapes.proofs.aliases.name_of.Goals as goal

pub returns-then-starts_row : goal.returns-then-starts_row
returns-then-starts_row c = language-row _ (sym c.starts_row.ensures ∙ c.if-starts_row.true)

pub slice_bounds-kind_named-end : goal.slice_bounds-kind_named-end
slice_bounds-kind_named-end c = sym (length-take-le _ _ (rw c.end_of-end.ensures (end-le _ _ _)))
