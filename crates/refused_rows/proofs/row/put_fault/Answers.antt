-- `refused_rows::row::put_fault` meets its contract. Assumes nothing.
use Rattle.std.proofs.Common.{ap, ◌∙◌}
use Rattle.std.specs.Prelude.{Err}
use Rattle.refused_rows.specs.declared.fault.LineFault.{LineFault}
use Rattle.refused_rows.specs.Faults.{fault_is}
use Rattle.refused_rows.proofs.Rows as laws
use Rattle.refused_rows.proofs.row.put_fault.Goals as goal

pub returns-in_default : goal.returns-in_default
unfolding fault_is
returns-in_default c = laws.nothing_put _ _ _ _ _ (ap fault_is c.in_default.is)

pub returns-in-OfMember : goal.returns-in-OfMember
unfolding fault_is
returns-in-OfMember c = laws.fault-put _ _ _ _ _ _ _ _ (ap fault_is c.in-Err.is ∙ ap (λ (f : LineFault). fault_is (Err f)) c.in-OfMember.is) c.put_member_row.ensures

pub returns-in-OfIdentifier : goal.returns-in-OfIdentifier
unfolding fault_is
returns-in-OfIdentifier c = laws.fault-put _ _ _ _ _ _ _ _ (ap fault_is c.in-Err.is ∙ ap (λ (f : LineFault). fault_is (Err f)) c.in-OfIdentifier.is) c.put_identifier_row.ensures
