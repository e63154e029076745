-- `canonical_order::section::place_of` meets its contract. Assumes nothing.
use Rattle.std.specs.Prelude.{◌≡◌, Bool, ◌-◌, ◌≤◌, length, drop}
use Rattle.subtag.specs.declared.Subtag.{Subtag}
use Rattle.subtag.specs.Sections.{tags_of, Led}
use Rattle.canonical_order.specs.Section.{place_of}
use Rattle.canonical_order.proofs.section.place_of.Given as goal

abbrev pub invariant-loop-at : goal.invariant-loop-at
invariant-loop-at g l = (l.at ≤ length l.s) × Led (drop l.at l.s)
    × ((p : Subtag → Bool) → ((t : Subtag) → (r : Bool) → goal.F-post g l.test t r → r ≡ p t) → place_of p l.from (tags_of (drop l.from l.s)) ≡ place_of p l.at (tags_of (drop l.at l.s)))

abbrev pub decreases-loop-at : goal.decreases-loop-at
decreases-loop-at g l = length l.s - l.at
