-- `table_check::replaced::two_free` meets its contract. Assumes nothing.
use native.Mathlib.Omega.{arith}
use mathlib.Core.Path.{sym, ap, ◌∙◌}
use mathlib.Core.List.{List}
use Prim.Native.Nat.{ℕ, ◌+◌, ◌-◌}
use lib.ListN.{length, take, drop}
use Rattle.standard.specs.Table.{parse}
use Rattle.byte_string.proofs.Stores.{all_from}
use Rattle.table_check.specs.Free.{free_three}
use Rattle.parents.specs.Walk.{ValueOk}
use Rattle.table_check.proofs.Clashes.{TwoLine, two-line}
use Rattle.table_check.proofs.replaced.two_free.Goals as goal
use Rattle.table_check.proofs.replaced.two_free.Goals.{After-end_of-tab}

fields : (c : After-end_of-tab) → TwoLine c.args.line.now c.end_of-tab.result
fields c = two-line _ _ c.end_of-tab.ensures c.requires

pub overflow_add-tab : goal.overflow_add-tab
overflow_add-tab c = omega (arith, (fields (goal.at.overflow_add-tab c).After-end_of-tab).room)

pub slice_bounds-value_free-count : goal.slice_bounds-value_free-count
slice_bounds-value_free-count c = omega (arith, (fields (goal.at.slice_bounds-value_free-count c).After-end_of-tab).room)

pub slice_bounds-value_free-start : goal.slice_bounds-value_free-start
slice_bounds-value_free-start c = omega (arith, (fields (goal.at.slice_bounds-value_free-start c).After-end_of-tab).room)

pub value_free-requires : goal.value_free-requires
value_free-requires c =
    let l = c.args.line.now in
    let x = c.end_of-tab.result in
    let v : ValueOk (take (length l - (x + 1)) (drop (x + 1) l)) = rw (all_from (x + 1) l) (fields (goal.at.value_free-requires c).After-end_of-tab).value in
    v.three

pub returns : goal.returns
returns c =
    let a = c.args in
    c.value_free.ensures ∙ ap (λ (x : List ℕ). free_three a.aliases.rows.now (parse x)) (all_from (c.end_of-tab.result + 1) a.line.now ∙ sym (fields (goal.at.returns c).After-end_of-tab).second)
