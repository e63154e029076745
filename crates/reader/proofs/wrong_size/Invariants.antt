-- `reader::wrong_size` meets its contract. Assumes nothing.
use mathlib.Core.Path.{◌≡◌}
use Prim.Native.Nat.{suc, ◌-◌, ◌≤◌}
use lib.ListN.{length, drop}
use Rattle.standard.specs.Reading.{bad_tag, wrong_size, split}
use Rattle.reader.proofs.wrong_size.Given as goal

abbrev pub invariant-loop-at : goal.invariant-loop-at
invariant-loop-at l = (l.at ≤ length l.id) × (bad_tag 4 wrong_size 0 (split l.id) ≡ bad_tag 4 wrong_size l.at (split (drop l.at l.id)))

abbrev pub decreases-loop-at : goal.decreases-loop-at
decreases-loop-at l = suc (length l.id) - l.at
