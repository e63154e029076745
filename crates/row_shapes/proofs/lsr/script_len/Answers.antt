-- `row_shapes::lsr::script_len` meets its contract. Assumes nothing.
use mathlib.Core.Path.{sym, ◌∙◌}
use Rattle.row_shapes.proofs.Fronts.{script-short, script-other, script-lower}
use Rattle.row_shapes.proofs.lsr.script_len.Goals as goal
use Rattle.row_shapes.proofs.lsr.script_len.Goals.{then-s-lt2-via-then-s-lt2, then-s-lt2-via-else-s-lt2+then-s-ne45, then-s-lt2-via-else-s-lt2+else-s-ne45+then-not-is_capital}

pub returns-then-s-lt2 : goal.returns-then-s-lt2
returns-then-s-lt2 c = elim c.then-s-lt2.branch [
  | then-s-lt2-via-then-s-lt2 w ↦ script-short _ w.if-s-lt2.true
  | then-s-lt2-via-else-s-lt2+then-s-ne45 w ↦ script-other _ w.if-s-ne45.true
  | then-s-lt2-via-else-s-lt2+else-s-ne45+then-not-is_capital w ↦ script-lower _ w.if-s-ne45.false (sym w.is_capital.ensures ∙ w.if-not-is_capital.true)
]
