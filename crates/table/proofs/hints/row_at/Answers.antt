-- `table::hints::row_at` meets its contract. Assumes nothing.
use mathlib.Core.Path.{refl}
use mathlib.Core.Bool.{true}
use Rattle.table.specs.Hints.{OpensIs}
use Rattle.byte_string.proofs.Ends.{Ends, ends}
use native.Mathlib.Omega.{arith}
use Rattle.table.proofs.Hinting.{seen-line}
use Rattle.table.proofs.hints.row_at.Goals as goal
use Rattle.table.proofs.hints.row_at.Goals.{After-end_of-line_end}

-- a line starts at p
there : (c : After-end_of-line_end) → OpensIs c.args.t.now c.args.p true
there c = rw c.if-opens.true at c.opens.ensures

pub value_in-requires : goal.value_in-requires
value_in-requires c =
    let b : Ends 10 c.args.t.now c.args.p c.end_of-line_end.result = ends _ _ _ _ c.end_of-line_end.ensures (omega (arith, (there (goal.at.value_in-requires c).After-end_of-line_end).yes refl)) in
    (b.low, b.high)

pub returns-then-opens : goal.returns-then-opens
returns-then-opens c =
    (seen-line _ _ _ _ (there (goal.at.returns-then-opens c).After-end_of-line_end) c.end_of-line_end.ensures _ c.value_in.ensures.0, c.value_in.ensures.1)
