-- `table_check::parent_free` meets its contract. Assumes nothing.
use native.Mathlib.Omega.{arith}
use mathlib.Core.Path.{sym, ap, ◌∙◌}
use Prim.Native.Nat.{◌-◌, ◌≤◌}
use Rattle.parents.specs.Walk.{cut, reaches_from}
use Rattle.table_check.proofs.Clashes.{TwoLine, two-line, parent-value, parent-walk, own_row}
use Rattle.parents.proofs.Walks.{cut-length as cut-size, cut-cut as key-cut}
use Rattle.table_check.proofs.parent_free.Goals as goal
use Rattle.table_check.proofs.parent_free.Goals.{After-end_of-key}

pub returns-then-not-two_free : goal.returns-then-not-two_free
returns-then-not-two_free c = parent-value _ _ _ (sym c.two_free.ensures ∙ c.if-not-two_free.true)

-- the fields of the row
fields : (c : After-end_of-key) → TwoLine (cut c.args.own.rows.now c.args.i c.args.e) c.end_of-key.result
fields c = two-line _ _ c.end_of-key.ensures c.requires.3

key : (c : After-end_of-key) → c.end_of-key.result ≤ c.args.e - c.args.i
key c =
    let n = cut-size c.args.own.rows.now c.args.i c.args.e c.requires.1 c.requires.2 in
    let h = (fields c).room in
    omega arith

pub overflow_add-i : goal.overflow_add-i
overflow_add-i c = omega (arith, key (goal.at.overflow_add-i c).After-end_of-key)

pub key_reaches_root-requires : goal.key_reaches_root-requires
key_reaches_root-requires c =
    let a = c.args in
    (c.requires.0, own_row a.own.rows.now a.i a.e c.end_of-key.result c.requires.4 c.requires.1 c.requires.2 c.end_of-key.ensures (fields (goal.at.key_reaches_root-requires c).After-end_of-key))

pub returns : goal.returns
returns c =
    let a = c.args in
    parent-walk _ _ _ c.key_reaches_root.result (sym c.two_free.ensures ∙ c.if-not-two_free.false) (c.key_reaches_root.ensures ∙ ap (reaches_from a.own.rows.now 8) (key-cut a.own.rows.now a.i a.e c.end_of-key.result (key (goal.at.returns c).After-end_of-key) ∙ sym (fields (goal.at.returns c).After-end_of-key).first))
