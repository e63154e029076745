-- `bill_lines::shape::member_named` meets its contract. Assumes nothing.
use native.Mathlib.Omega.{arith}
use Rattle.bill_lines.proofs.Shapes.{wrong-size}
use Rattle.bill_lines.proofs.shape.member_named.Goals as goal

pub returns-in_default : goal.returns-in_default
returns-in_default c = (wrong-size _ (λ e. omega arith) (λ e. omega arith), tt)

pub returns-in_default-2 : goal.returns-in_default-2
returns-in_default-2 c = (wrong-size _ (λ e. omega arith) (λ e. omega arith), tt)
