-- `row_shapes::lsr::front_of` meets its contract. Assumes nothing.
use native.Mathlib.Omega.{arith}
use Prim.Native.Nat.{◌+◌, ◌≤◌}
use lib.ListN.{length}
use Rattle.row_shapes.proofs.Fronts.{language-room, script-room, region-room, front_at, no-front}
use Rattle.row_shapes.proofs.lsr.front_of.Goals as goal
use Rattle.row_shapes.proofs.lsr.front_of.Goals.{After-language_len-language, After-region_len, After-script_len}

one : (c : After-language_len-language) → c.language_len-language.result ≤ length c.args.s.now
one c = language-room _ _ c.language_len-language.ensures

two : (c : After-script_len) → c.language_len-language.result + c.script_len.result ≤ length c.args.s.now
two c = script-room c.args.s.now _ _ (language-room _ _ c.language_len-language.ensures) c.script_len.ensures

three : (c : After-region_len) → c.language_len-language.result + c.script_len.result + c.region_len.result ≤ length c.args.s.now
three c = region-room c.args.s.now (c.language_len-language.result + c.script_len.result) _ (script-room c.args.s.now _ _ (language-room _ _ c.language_len-language.ensures) c.script_len.ensures) c.region_len.ensures

pub returns-then-language-eq0 : goal.returns-then-language-eq0
returns-then-language-eq0 c = no-front _ _ c.language_len-language.ensures c.if-language-eq0.true

pub slice_bounds-script_len-count : goal.slice_bounds-script_len-count
slice_bounds-script_len-count c = omega (arith, one (goal.at.slice_bounds-script_len-count c).After-language_len-language)

pub slice_bounds-script_len-start : goal.slice_bounds-script_len-start
slice_bounds-script_len-start c = omega (arith, one (goal.at.slice_bounds-script_len-start c).After-language_len-language)

pub overflow_add-script : goal.overflow_add-script
overflow_add-script c = omega (arith, two (goal.at.overflow_add-script c).After-script_len)

pub slice_bounds-region_len-count : goal.slice_bounds-region_len-count
slice_bounds-region_len-count c = omega (arith, two (goal.at.slice_bounds-region_len-count c).After-script_len)

pub slice_bounds-region_len-start : goal.slice_bounds-region_len-start
slice_bounds-region_len-start c = omega (arith, two (goal.at.slice_bounds-region_len-start c).After-script_len)

pub overflow_add-end : goal.overflow_add-end
overflow_add-end c = omega (arith, three (goal.at.overflow_add-end c).After-region_len)

pub returns : goal.returns
returns c = front_at _ _ _ _ c.language_len-language.ensures c.script_len.ensures c.region_len.ensures (let h = c.if-language-eq0.false in omega arith)
