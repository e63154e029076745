-- `bill_lines::shape::shape_of` meets its contract. Assumes nothing.
use mathlib.Core.Path.{sym, ap, ◌∙◌}
use Rattle.bill_lines.specs.Shapes.{member_is}
use Rattle.bill_lines.proofs.Shapes.{no-tab, number-tab, other-tab}
use Rattle.bill_lines.proofs.shape.shape_of.Goals as goal

pub returns-then-line-tab : goal.returns-then-line-tab
returns-then-line-tab c = no-tab _ (rw c.end_of-tab.ensures at c.if-line-tab.true)

pub returns-in_err-member : goal.returns-in_err-member
returns-in_err-member c =
    rw c.from_residual.ensures (other-tab _ _ c.end_of-tab.ensures c.if-line-tab.false (sym (ap member_is c.in_err-member.was) ∙ c.member_named.ensures.0))

pub returns : goal.returns
returns c =
    number-tab _ _ c.end_of-tab.ensures c.if-line-tab.false _ (sym (ap member_is c.in_ok-member.was) ∙ c.member_named.ensures.0) (rw c.in_ok-member.was at c.member_named.ensures.1)
