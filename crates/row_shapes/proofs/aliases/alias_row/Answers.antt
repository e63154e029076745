-- `row_shapes::aliases::alias_row` meets its contract. Assumes nothing.
use Rattle.row_shapes.proofs.Texts.{alias-refused, alias-accepted}
use Rattle.row_shapes.proofs.aliases.alias_row.Goals as goal

pub returns-in_err-key : goal.returns-in_err-key
returns-in_err-key c = rw c.from_residual.ensures (alias-refused _ _ c.end_of-end.ensures c.in_err-key.ensures)

pub returns : goal.returns
returns c = alias-accepted _ _ c.end_of-end.ensures _ c.in_ok-key.ensures c.if-s-end.false
