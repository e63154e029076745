-- `row_shapes::pairs::likely_row` meets its contract. Assumes nothing.
use mathlib.Core.Path.{◌∙◌}
use Rattle.row_shapes.proofs.Texts.{likely-two, likely-key, likely-is, pair-missing, pair-refused, pair_row}
use Rattle.row_shapes.proofs.pairs.likely_row.Goals as goal

pub returns-in_err-pair : goal.returns-in_err-pair
returns-in_err-pair c = rw c.from_residual.ensures (pair-missing _ c.in_err-pair.ensures _ likely-two)

pub returns-then-known_parts : goal.returns-then-known_parts
returns-then-known_parts c = pair_row _ _ c.in_ok-pair.ensures _ likely-key (likely-is _ _ c.in_ok-pair.ensures _ c.known_parts.ensures ∙ c.if-known_parts.true)

pub returns-else-known_parts : goal.returns-else-known_parts
returns-else-known_parts c = pair-refused _ _ c.in_ok-pair.ensures _ (likely-is _ _ c.in_ok-pair.ensures _ c.known_parts.ensures ∙ c.if-known_parts.false)
