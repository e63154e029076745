-- `table::starts_row` meets its contract. Assumes nothing.
use mathlib.Core.Path.{◌∙◌}
use Rattle.table.proofs.Lines.{key-short, key-other, key-there}
use Rattle.table.proofs.starts_row.Goals as goal
use Rattle.table.proofs.starts_row.Goals.{then-line-n-via-then-line-n, then-line-n-via-else-line-n+then-line-n-ne9}

pub returns-then-line-n : goal.returns-then-line-n
returns-then-line-n c =
    elim c.then-line-n.branch [
      | then-line-n-via-then-line-n w ↦ key-short _ _ w.if-line-n.true
      | then-line-n-via-else-line-n+then-line-n-ne9 w ↦ key-other _ _ w.if-line-n.false w.if-line-n-ne9.true
    ]

pub returns : goal.returns
returns c = c.eq.ensures ∙ key-there _ _ c.if-line-n.false c.if-line-n-ne9.false
