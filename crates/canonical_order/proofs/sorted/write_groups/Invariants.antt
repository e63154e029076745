-- `canonical_order::sorted::write_groups` meets its contract. The loop's invariant: what is pending, put at its place, gives the result.
-- Assumes nothing.
use Prim.Native.Nat.{◌-◌}
use Rattle.canonical_order.proofs.Writes as writes
use Rattle.canonical_order.proofs.sorted.write_groups.Given as goal

abbrev pub invariant-loop-head : goal.invariant-loop-head
invariant-loop-head g l = writes.Writing l.width l.trim l.s l.initial.out l.at l.out l.put l.last

abbrev pub decreases-loop-head : goal.decreases-loop-head
decreases-loop-head g l = 18446744073709551616 - l.last
