-- `canonical_order::extensions::write_keywords` meets its contract. Assumes nothing.
use native.Mathlib.Omega.{arith}
use mathlib.Core.Path.{sym}
use mathlib.Core.Bool.{true, false}
use mathlib.Core.List.{List}
use Prim.Native.Nat.{ℕ, ◌-◌}
use lib.ListN.{length, take, drop}
use Rattle.canonical_order.specs.Section.{sorted_bytes}
use Rattle.canonical_order.proofs.Boundary as boundary
use Rattle.byte_string.proofs.Stores as stores
use Rattle.canonical_order.proofs.Writes as writes
use Rattle.canonical_order.proofs.extensions.write_keywords.Goals as goal
use Rattle.canonical_order.proofs.extensions.write_keywords.Goals.{After-group_end-k}

abbrev text : After-group_end-k → List ℕ
text c = c.args.s.now

-- the two parts
parts : (c : After-group_end-k) → boundary.Keywords (text c) c.group_end-k.result (take c.group_end-k.result (text c)) (take (length (text c) - c.group_end-k.result) (drop c.group_end-k.result (text c)))
parts c =
    boundary.keywords (text c) c.group_end-k.result c.requires.2 c.requires.3 c.requires.4 c.group_end-k.ensures

pub slice_bounds-write_sorted-end : goal.slice_bounds-write_sorted-end
slice_bounds-write_sorted-end c = sym (parts (goal.at.slice_bounds-write_sorted-end c).After-group_end-k).first-size

pub write_sorted-p-requires : goal.write_sorted-p-requires
write_sorted-p-requires c =
    let w = parts (goal.at.write_sorted-p-requires c).After-group_end-k in
    (omega arith, omega arith, w.first-begins, w.first_plain)

pub slice_bounds-write_sorted-count : goal.slice_bounds-write_sorted-count
slice_bounds-write_sorted-count c = (parts (goal.at.slice_bounds-write_sorted-count c).After-group_end-k).fits

pub slice_bounds-write_sorted-start : goal.slice_bounds-write_sorted-start
slice_bounds-write_sorted-start c = let w = parts (goal.at.slice_bounds-write_sorted-start c).After-group_end-k in omega arith

pub write_sorted-requires : goal.write_sorted-requires
write_sorted-requires c =
    let w = parts (goal.at.write_sorted-requires c).After-group_end-k in
    let f = writes.sorted-fits 8 false _ w.first-begins in
    (omega (arith, c.write_sorted-p.ensures.0), omega arith, w.rest-begins, w.rest_plain)

pub returns : goal.returns
returns c =
    let w = parts (goal.at.returns c).After-group_end-k in
    let s = text (goal.at.returns c).After-group_end-k in
    let k = c.group_end-k.result in
    stores.wrote-two _ _ _ _ _ _ (sorted_bytes 8 false (take k s)) (sorted_bytes 2 true (take (length s - k) (drop k s))) _ w.bytes c.write_sorted-p.ensures.0 c.write_sorted-p.ensures.1 c.write_sorted.ensures.0 c.write_sorted.ensures.1
