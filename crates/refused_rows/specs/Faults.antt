-- The faults of a usage line as the code answers them. Assumes nothing.
use Rattle.std.proofs.Math.Option.{Option, none, some}
use Rattle.bill_rules.specs.Refusals.{MemberFault as MemberWrong, no_tab, no_member, no_number, zero_first, out_of_range, LineFault as LineWrong, of_member, of_identifier}
use Rattle.refused_rows.specs.declared.member.MemberFault.{MemberFault}
use Rattle.refused_rows.specs.declared.member.MemberFault.TheVariants.{NoTab, NoMember, NoNumber, ZeroFirst, OutOfRange}
use Rattle.std.specs.Prelude.{⊤, Result, Ok, Err}
use Rattle.refused_rows.specs.declared.fault.LineFault.{LineFault}
use Rattle.refused_rows.specs.declared.fault.LineFault.TheVariants.{OfMember, OfIdentifier}

-- the rules' fault that an answer stands for
unfoldable pub wrong_is : MemberFault → MemberWrong
wrong_is NoTab = no_tab
wrong_is NoMember = no_member
wrong_is NoNumber = no_number
wrong_is ZeroFirst = zero_first
wrong_is OutOfRange = out_of_range

-- of a member
unfoldable pub member_is : Result ⊤ MemberFault → Option MemberWrong
member_is (Ok done) = none
member_is (Err f) = some (wrong_is f)

-- of a line
unfoldable pub fault_is : Result ⊤ LineFault → Option LineWrong
fault_is (Ok done) = none
fault_is (Err (OfMember f)) = some (of_member (wrong_is f))
fault_is (Err (OfIdentifier n p)) = some (of_identifier n p)
