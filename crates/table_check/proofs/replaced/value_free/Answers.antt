-- `table_check::replaced::value_free` meets its contract. Assumes nothing.
use mathlib.Core.Path.{sym, ap, ◌∙◌}
use Rattle.row_shapes.specs.declared.aliases.AliasKind.TheVariants.{Script, Region}
use Rattle.aliases.specs.Keys.{is_key}
use Rattle.table_check.proofs.Frees as frees
use Rattle.table_check.proofs.replaced.value_free.Goals as goal

pub is_key-requires : goal.is_key-requires
is_key-requires c =
    frees.language-short _ _ c.ends_of-three.ensures

pub returns-then-is_key : goal.returns-then-is_key
returns-then-is_key c =
    frees.language-clash _ _ c.ends_of-three.ensures _ (sym c.is_key.ensures ∙ c.if-is_key.true)

pub is_key-requires-2 : goal.is_key-requires-2
is_key-requires-2 c =
    rw c.part.ensures (frees.script-short _ _ c.ends_of-three.ensures)

pub returns-then-is_key-2 : goal.returns-then-is_key-2
returns-then-is_key-2 c =
    let a = c.args.aliases.rows.now in
    frees.script-clash _ _ c.ends_of-three.ensures a (sym c.is_key.ensures ∙ c.if-is_key.false) (sym (c.is_key-2.ensures ∙ ap (is_key a Script) c.part.ensures) ∙ c.if-is_key-2.true)

pub is_key-requires-3 : goal.is_key-requires-3
is_key-requires-3 c =
    rw c.part-2.ensures (frees.region-short _ _ c.ends_of-three.ensures)

pub returns : goal.returns
returns c =
    let a = c.args.aliases.rows.now in
    frees.region-clash _ _ c.ends_of-three.ensures a c.is_key-3.result (sym c.is_key.ensures ∙ c.if-is_key.false) (sym (c.is_key-2.ensures ∙ ap (is_key a Script) c.part.ensures) ∙ c.if-is_key-2.false)
    (c.is_key-3.ensures ∙ ap (is_key a Region) c.part-2.ensures)
