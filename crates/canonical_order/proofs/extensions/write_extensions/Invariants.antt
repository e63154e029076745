-- `canonical_order::extensions::write_extensions` meets its contract. Assumes nothing.
use Prim.Native.Nat.{◌-◌}
use Rattle.canonical_order.proofs.Arranging as extensions
use Rattle.canonical_order.proofs.extensions.write_extensions.Given as goal

abbrev pub invariant-loop-head : goal.invariant-loop-head
invariant-loop-head l = extensions.Going l.s l.initial.out l.at l.out l.put l.last

abbrev pub decreases-loop-head : goal.decreases-loop-head
decreases-loop-head l = 18446744073709551616 - l.last
