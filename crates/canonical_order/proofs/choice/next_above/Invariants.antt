-- `canonical_order::choice::next_above` meets its contract. Assumes nothing.
use mathlib.Core.Path.{◌≡◌}
use Prim.Native.Nat.{◌-◌, ◌≤◌}
use lib.ListN.{length, drop}
use Rattle.subtag.specs.Sections.{tags_of, Led}
use Rattle.canonical_order.specs.Section.{pick_from, no_head}
use Rattle.canonical_order.proofs.choice.next_above.Given as goal

abbrev pub invariant-loop-at : goal.invariant-loop-at
invariant-loop-at l = (l.at ≤ length l.s) × Led (drop l.at l.s)
    × (pick_from l.width l.last 0 (no_head (length l.s)) (tags_of l.s) ≡ pick_from l.width l.last l.at l.best (tags_of (drop l.at l.s)))

abbrev pub decreases-loop-at : goal.decreases-loop-at
decreases-loop-at l = length l.s - l.at
