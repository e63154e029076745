-- `place_column::put_variants` meets its contract. Assumes nothing.
use Rattle.place_column.proofs.Laws as laws
use Prim.Native.Nat.{◌+◌, ◌≤◌}
use lib.ListN.{length}
use Rattle.place_column.proofs.put_variants.Given as goal

abbrev pub invariant-loop-i : goal.invariant-loop-i
invariant-loop-i l = laws.Listing l.spans l.count l.initial.out l.at l.out l.end l.i × (l.at + 2100 ≤ length l.initial.out)
