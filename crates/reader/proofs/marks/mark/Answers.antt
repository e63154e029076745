-- `reader::marks::mark` meets its contract. Assumes nothing.
use native.Mathlib.Omega.{arith}
use mathlib.Core.Path.{ap, ◌∙◌}
use Prim.Native.Nat.{◌^◌}
use native.Mathlib.Nat.{one-mul}
use lib.Bits.{bit_or}
use lib.Pow.{shl_exact}
use Rattle.reader.proofs.marks.mark.Goals as goal

pub returns : goal.returns
returns c =
    ap (bit_or c.args.set)
    (shl_exact 1 c.args.p 64 (omega arith) (omega arith) ∙ one-mul (2 ^ c.args.p))
