-- `table_check::replaced::alias_free` meets its contract. Assumes nothing.
use native.Mathlib.Omega.{arith}
use mathlib.Core.Path.{refl, sym, ap, ◌∙◌}
use mathlib.Core.Bool.{not}
use mathlib.Core.List.{[]}
use Prim.Native.Nat.{◌+◌}
use lib.ListN.{drop}
use Rattle.byte_string.proofs.Stores.{all_from}
use Rattle.std.specs.Prelude.{Option}
use Rattle.row_shapes.specs.declared.aliases.AliasKind.{AliasKind}
use Rattle.aliases.specs.Keys.{is_key}
use Rattle.table_check.specs.Free.{own_tag, own_free}
use Rattle.table_check.proofs.Frees.{AliasLine, alias-line}
use Rattle.table_check.proofs.replaced.alias_free.Goals as goal
use Rattle.table_check.proofs.replaced.alias_free.Goals.{After-end_of-tab}

pub overflow_add-name : goal.overflow_add-name
overflow_add-name c =
    let h = alias-line [] c.args.line.now c.name_of-name.result.end _ c.name_of-name.ensures.0 refl c.requires in
    omega (arith, h.first)

-- the fields of the row
fields : (c : After-end_of-tab) → AliasLine c.args.aliases.rows.now c.args.line.now c.name_of-name.result.end c.end_of-tab.result
fields c = alias-line _ _ _ _ c.name_of-name.ensures.0 c.end_of-tab.ensures c.requires

pub overflow_add-value : goal.overflow_add-value
overflow_add-value c = omega (arith, (fields (goal.at.overflow_add-value c).After-end_of-tab).second)

pub slice_bounds-value-count : goal.slice_bounds-value-count
slice_bounds-value-count c = omega (arith, (fields (goal.at.slice_bounds-value-count c).After-end_of-tab).second)

pub slice_bounds-value-start : goal.slice_bounds-value-start
slice_bounds-value-start c = omega (arith, (fields (goal.at.slice_bounds-value-start c).After-end_of-tab).second)

pub is_key-requires : goal.is_key-requires
is_key-requires c =
    let f = fields (goal.at.is_key-requires c).After-end_of-tab in
    let t = c.end_of-tab.result in
    rw (c.own.ensures ∙ ap (own_tag c.in-Some.kind) (all_from (t + 1) c.args.line.now)) (f.short c.in-Some.kind (sym c.name_of-name.ensures.1 ∙ c.in-Some.is))

pub returns-in-Some : goal.returns-in-Some
unfolding own_free
returns-in-Some c =
    let f = fields (goal.at.returns-in-Some c).After-end_of-tab in
    let a = c.args.aliases.rows.now in
    let k = c.in-Some.kind in
    ap not (c.is_key.ensures ∙ ap (is_key a k) (c.own.ensures ∙ ap (own_tag k) (all_from (c.end_of-tab.result + 1) c.args.line.now)))
    ∙ sym (f.free ∙ ap (λ (o : Option AliasKind). own_free a o (drop (c.end_of-tab.result + 1) c.args.line.now)) (sym c.name_of-name.ensures.1 ∙ c.in-Some.is))

pub returns-in-None : goal.returns-in-None
unfolding own_free
returns-in-None c =
    let f = fields (goal.at.returns-in-None c).After-end_of-tab in
    sym (f.free ∙ ap (λ (o : Option AliasKind). own_free c.args.aliases.rows.now o (drop (c.end_of-tab.result + 1) c.args.line.now)) (sym c.name_of-name.ensures.1 ∙ c.in-None.is))
