-- `subtag::is_keyword_key` meets its contract. Assumes nothing.
use mathlib.Core.Path.{sym, ◌∙◌}
use mathlib.Core.Bool.{true, false}
use borrow.Author.Tests.{ne_eqb}
use Rattle.subtag.proofs.Shapes as shapes
use Rattle.subtag.proofs.is_keyword_key.Goals.{then-is_small, else-is_small}
use Rattle.subtag.proofs.is_keyword_key.Goals as goal

pub returns-after-is_small : goal.returns-after-is_small
returns-after-is_small c =
    elim c.if-is_small.branch [
      | then-is_small w ↦ rw w.result-is (shapes.keyword-is _ true c.if-t-eq2.true (sym c.is_small.ensures ∙ w.if-is_small.true))
      | else-is_small w ↦ rw w.result-is (shapes.keyword-is _ false c.if-t-eq2.true (sym c.is_small.ensures ∙ w.if-is_small.false))
    ]

pub returns-else-t-eq2 : goal.returns-else-t-eq2
returns-else-t-eq2 c = rw (ne_eqb _ 2 c.if-t-eq2.false) (shapes.keyword-not _ c.if-t-eq2.false)
