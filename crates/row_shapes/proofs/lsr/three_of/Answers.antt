-- `row_shapes::lsr::three_of` meets its contract. Assumes nothing.
use Rattle.row_shapes.proofs.Fronts.{three-whole, three-more, three-none}
use Rattle.row_shapes.proofs.lsr.three_of.Goals as goal

pub returns-in_err-front : goal.returns-in_err-front
returns-in_err-front c = rw c.from_residual.ensures (three-none _ c.in_err-front.ensures)

pub returns-then-front-s : goal.returns-then-front-s
returns-then-front-s c = three-more _ _ c.in_ok-front.ensures c.if-front-s.true

pub returns : goal.returns
returns c = three-whole _ _ c.in_ok-front.ensures c.if-front-s.false
