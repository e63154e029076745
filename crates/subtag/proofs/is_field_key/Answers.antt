-- `subtag::is_field_key` meets its contract. Assumes nothing.
use mathlib.Core.Path.{sym, ◌∙◌}
use mathlib.Core.Bool.{true, false}
use borrow.Author.Tests.{ne_eqb}
use Rattle.subtag.proofs.Shapes as shapes
use Rattle.subtag.proofs.is_field_key.Goals.{then-t-eq2, else-t-eq2}
use Rattle.subtag.proofs.is_field_key.Goals as goal

pub returns-then-is_small : goal.returns-then-is_small
returns-then-is_small c =
    elim c.if-t-eq2.branch [
      | then-t-eq2 w ↦ shapes.field_is _ true w.if-t-eq2.true (sym w.is_small.ensures ∙ sym w.value-is ∙ c.if-is_small.true)
      | else-t-eq2 w ↦ let h = ne_eqb _ 2 w.if-t-eq2.false in cc
    ]

pub returns-else-is_small : goal.returns-else-is_small
returns-else-is_small c =
    elim c.if-t-eq2.branch [
      | then-t-eq2 w ↦ c.if-is_small.false ∙ shapes.field_is _ false w.if-t-eq2.true (sym w.is_small.ensures ∙ sym w.value-is ∙ c.if-is_small.false)
      | else-t-eq2 w ↦ c.if-is_small.false ∙ shapes.field-not _ w.if-t-eq2.false
    ]
