-- `refused_rows::row::put_words` meets its contract. Assumes nothing.
use Rattle.std.proofs.Common.{ℕ, List, ap, arith}
use Rattle.standard.specs.Tag.{text}
use Rattle.refused_rows.specs.declared.member.MemberFault.{MemberFault}
use Rattle.refused_rows.specs.Faults.{wrong_is}
use Rattle.refused_rows.specs.Rows.{member_words}
use Rattle.refused_rows.proofs.Rows as laws
use native.Mathlib.Omega.{arith}
use Rattle.refused_rows.proofs.row.put_words.Goals as goal

unfoldable said : MemberFault → List ℕ
said f = member_words (wrong_is f)

pub returns-in-NoTab : goal.returns-in-NoTab
unfolding wrong_is member_words said
returns-in-NoTab c = laws.words-put (wrong_is c.args.f) (text "no tab between member and identifier") _ _ _ _ (ap said c.in-NoTab.is) (omega arith) c.put.ensures

pub returns-in-NoMember : goal.returns-in-NoMember
unfolding wrong_is member_words said
returns-in-NoMember c = laws.words-put (wrong_is c.args.f) (text "no member number") _ _ _ _ (ap said c.in-NoMember.is) (omega arith) c.put-in-NoMember.ensures

pub returns-in-NoNumber : goal.returns-in-NoNumber
unfolding wrong_is member_words said
returns-in-NoNumber c = laws.words-put (wrong_is c.args.f) (text "the member is no number") _ _ _ _ (ap said c.in-NoNumber.is) (omega arith) c.put-in-NoNumber.ensures

pub returns-in-ZeroFirst : goal.returns-in-ZeroFirst
unfolding wrong_is member_words said
returns-in-ZeroFirst c = laws.words-put (wrong_is c.args.f) (text "the member begins with 0") _ _ _ _ (ap said c.in-ZeroFirst.is) (omega arith) c.put-in-ZeroFirst.ensures

pub returns-in-OutOfRange : goal.returns-in-OutOfRange
unfolding wrong_is member_words said
returns-in-OutOfRange c = laws.words-put (wrong_is c.args.f) (text "the member is not 1 to 64") _ _ _ _ (ap said c.in-OutOfRange.is) (omega arith) c.put-in-OutOfRange.ensures
