-- `reader::walk` meets its contract. Assumes nothing.
use Prim.Native.Nat.{suc, ◌-◌}
use lib.ListN.{length}
use Rattle.reader.proofs.Loop as loop
use Rattle.reader.proofs.walk.Given as goal

abbrev pub invariant-walk : goal.invariant-walk
invariant-walk l = loop.Walking l.id l.listed l.count l.set l.st l.parts l.back l.at

abbrev pub decreases-walk : goal.decreases-walk
decreases-walk l = suc (length l.id) - l.at
