-- `reader::marks::marked` meets its contract. Assumes nothing.
use mathlib.Core.Path.{ap}
use Prim.Native.Nat.{ℕ}
use lib.Dec.{eqb}
use Rattle.reader.proofs.Bits.{bit-shift}
use Rattle.reader.proofs.marks.marked.Goals as goal

pub returns : goal.returns
returns c = ap (λ (x : ℕ). eqb x 1) (bit-shift c.args.p c.args.set)
