-- `canonical_order::heads::next_of` meets its contract. Assumes nothing.
use Rattle.std.specs.Prelude.{◌≡◌, drop}
use Rattle.canonical_order.specs.Section.{no_head}
use Rattle.canonical_order.specs.Heads.{pick_by}
use Rattle.canonical_order.proofs.heads.next_of.Given as goal

abbrev pub invariant-loop-head : goal.invariant-loop-head
invariant-loop-head l = pick_by l.last (no_head l.n) l.heads ≡ pick_by l.last l.best (drop l.head-index l.heads)
