-- `bill_lines::add_hinted` meets its contract. Assumes nothing.
use Rattle.table.specs.Lines.{lines}
use Rattle.bill_lines.proofs.Helds.{held_on}
use Rattle.bill_lines.proofs.add_hinted.Goals as goal

pub returns : goal.returns
returns c =
    let t = c.take_lines in
    let a = c.args in
    let u = c.requires.1 in (
      λ ls h. held_on a.tables.aliases.rows.now a.tables.likely.rows.now ls (lines a.piece.now) a.c a.keys.now a.counts.now h t.result _ _ u.number a.tables.tested.passes t.ensures.0 t.ensures.1 (t.ensures.2 ls),
      t.ensures.1,
    )
