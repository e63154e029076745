-- `refused_rows::fault::check_line` meets its contract. Assumes nothing.
use Rattle.refused_rows.specs.Faults.{wrong_is, member_is, fault_is}
use Rattle.refused_rows.proofs.Faults as laws
use Rattle.refused_rows.proofs.fault.check_line.Goals as goal

pub returns-then-line-tab : goal.returns-then-line-tab
unfolding fault_is member_is wrong_is
returns-then-line-tab c = laws.no-tab _ _ (rw c.end_of-tab.ensures at c.if-line-tab.true)

pub returns-in_err-check_member : goal.returns-in_err-check_member
unfolding member_is
returns-in_err-check_member c = laws.handed _ _ c.from_residual.ensures.1 (laws.member-wrong _ _ c.end_of-tab.result c.end_of-tab.ensures c.if-line-tab.false _ c.in_err-check_member.ensures)

pub returns : goal.returns
unfolding member_is
returns c = laws.identifier-only _ _ c.end_of-tab.result c.end_of-tab.ensures c.if-line-tab.false _ c.in_ok-check_member.ensures c.check_identifier.ensures
