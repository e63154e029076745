-- `refused_rows::member::member_named` meets its contract. Assumes nothing.
use native.Mathlib.Omega.{arith}
use Rattle.refused_rows.proofs.Members as laws
use Rattle.refused_rows.proofs.member.member_named.Goals as goal

pub returns-in_default : goal.returns-in_default
returns-in_default c = let h = c.in_default.len_below in laws.other-bytes _ (λ e. omega arith) (λ e. omega arith)

pub returns-in_default-2 : goal.returns-in_default-2
returns-in_default-2 c = let h = c.in_default.len_at_least in laws.other-bytes _ (λ e. omega arith) (λ e. omega arith)
