-- `canonical::variants::resolve_variants` meets its contract. The loop's invariant: what is left, put behind what is
-- written, gives the whole. Assumes nothing.
use Prim.Native.Nat.{◌-◌}
use lib.ListN.{length}
use Rattle.canonical.proofs.Resolves as resolves
use Rattle.canonical.proofs.variants.resolve_variants.Given as goal

abbrev pub invariant-loop-at : goal.invariant-loop-at
invariant-loop-at l = resolves.Resolving l.aliases.rows.now l.s l.initial.out l.at l.out l.end

abbrev pub decreases-loop-at : goal.decreases-loop-at
decreases-loop-at l = length l.s - l.at
