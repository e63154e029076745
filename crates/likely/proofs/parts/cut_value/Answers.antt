-- `likely::parts::cut_value` meets its contract. Assumes nothing.
use mathlib.Core.Path.{sym}
use native.Mathlib.Omega.{arith}
use lib.Seq.{length-take-le}
use Rattle.byte_string.proofs.Ends.{end-le}
use Rattle.likely.proofs.Lookups.{Cuts, cuts}
use Rattle.likely.proofs.parts.cut_value.Goals as goal
use Rattle.likely.proofs.parts.cut_value.Goals.{After-end_of-b}

parts : (c : After-end_of-b) → Cuts c.args.v.now c.end_of-a.result c.end_of-b.result
parts c = cuts _ _ _ c.end_of-a.ensures c.end_of-b.ensures

pub overflow_add-a : goal.overflow_add-a
overflow_add-a c = omega (arith, c.end_of-a.ensures, end-le 45 c.args.v.now 0)

pub slice_bounds-result-end : goal.slice_bounds-result-end
slice_bounds-result-end c = let k = parts (goal.at.slice_bounds-result-end c).After-end_of-b in sym (length-take-le _ _ (omega (arith, k.first, k.second)))

pub slice_bounds-result-count : goal.slice_bounds-result-count
slice_bounds-result-count c = (parts (goal.at.slice_bounds-result-count c).After-end_of-b).first

pub slice_bounds-result-start : goal.slice_bounds-result-start
slice_bounds-result-start c = let k = parts (goal.at.slice_bounds-result-start c).After-end_of-b in omega (arith, k.first, k.second)

pub slice_bounds-result-end-2 : goal.slice_bounds-result-end-2
slice_bounds-result-end-2 c = let k = parts (goal.at.slice_bounds-result-end-2 c).After-end_of-b in omega (arith, k.first, k.second)

pub slice_bounds-result-count-2 : goal.slice_bounds-result-count-2
slice_bounds-result-count-2 c = (parts (goal.at.slice_bounds-result-count-2 c).After-end_of-b).second

pub slice_bounds-result-start-2 : goal.slice_bounds-result-start-2
slice_bounds-result-start-2 c = let k = parts (goal.at.slice_bounds-result-start-2 c).After-end_of-b in omega (arith, k.first, k.second)

pub returns : goal.returns
returns c = (parts (goal.at.returns c).After-end_of-b).are
