-- `bill_lines::text::members_of` meets its contract. Assumes nothing.
use Prim.Native.Nat.{◌≤◌}
use native.Mathlib.Omega.{arith}
use lib.Count.{ones, ones-le}
use borrow.Author.Rules.{rules}
use Rattle.bill_lines.proofs.text.members_of.Goals as goal

pub overflow_cast-result : goal.overflow_cast-result
overflow_cast-result c = let h : ones c.args.marks ≤ 64 = ones-le 64 c.args.marks (search rules) in omega arith
