-- `bill_ledger::mark_of` meets its contract. Assumes nothing.
use mathlib.Core.Path.{◌∙◌}
use Prim.Native.Nat.{◌-◌, ◌^◌}
use native.Mathlib.Nat.{one-mul}
use native.Mathlib.Omega.{arith}
use lib.Pow.{shl_exact}
use Rattle.bill_ledger.specs.Entries.{mark_of}
use Rattle.bill_ledger.proofs.mark_of.Goals as goal

pub returns : goal.returns
unfolding mark_of
returns c = shl_exact 1 (c.args.member - 1) 64 (omega arith) (omega arith) ∙ one-mul (2 ^ (c.args.member - 1))
