-- `table_check::free` meets its contract, table by table. Assumes nothing.
use Rattle.standard.specs.Table.{shape_of}
use Rattle.row_shapes.specs.declared.Table.TheVariants.{Aliases, Likely, Parents}
use Rattle.row_shapes.specs.Rows.{kind_is}
use Rattle.table_check.specs.Free.{free_row}
use Rattle.table_check.proofs.Clashes.{shape_is, pass-parents, free-by, likely-threes, parent-threes}
use Rattle.table_check.proofs.free.Goals as goal

pub alias_free-requires : goal.alias_free-requires
unfolding kind_is shape_of
alias_free-requires c =
    let p = c.requires in
    shape_is Aliases _ c.in-Aliases.is p.3

pub two_free-requires : goal.two_free-requires
unfolding kind_is shape_of
two_free-requires c =
    let p = c.requires in
    likely-threes _ (shape_is Likely _ c.in-Likely.is p.3)

pub parent_free-requires : goal.parent_free-requires
unfolding kind_is shape_of
parent_free-requires c =
    let p = c.requires in
    (pass-parents _ c.in-Parents.is p.0, p.1, p.2, parent-threes _ (shape_is Parents _ c.in-Parents.is p.3), p.4)

pub returns-in-Aliases : goal.returns-in-Aliases
unfolding kind_is free_row
returns-in-Aliases c = free-by Aliases _ _ _ _ c.in-Aliases.is c.alias_free.ensures

pub returns-in-Likely : goal.returns-in-Likely
unfolding kind_is free_row
returns-in-Likely c = free-by Likely _ _ _ _ c.in-Likely.is c.two_free.ensures

pub returns-in-Parents : goal.returns-in-Parents
unfolding kind_is free_row
returns-in-Parents c = free-by Parents _ _ _ _ c.in-Parents.is c.parent_free.ensures
