-- `canonical_order::extensions::write_extensions` meets its contract. Assumes nothing.
use native.Mathlib.Omega.{arith}
use mathlib.Core.List.{List}
use Prim.Native.Nat.{ℕ}
use Rattle.canonical_order.proofs.Pending as sorted
use Rattle.canonical_order.proofs.Arranging as extensions
use Rattle.canonical_order.proofs.extensions.write_extensions.Goals as goal
use Rattle.canonical_order.proofs.extensions.write_extensions.Goals.{After-group_end-end}

pub loop-head-init : goal.loop-head-init
loop-head-init c =
    extensions.going_start _ _ _ c.requires.2 c.requires.3 c.requires.4

pub next_above-head-requires : goal.next_above-head-requires
next_above-head-requires c =
    (c.requires.2, omega arith)

pub returns-then-s-head : goal.returns-then-s-head
returns-then-s-head c =
    let l = c.loop-head in
    let d = extensions.going_done _ _ _ c.requires.2 c.requires.3 c.requires.4 _ _ _ _ c.next_above-head.ensures l.invariant c.if-s-head.true in
    (d.0, d.1, omega (arith, l.invariant.room))

pub group_end-end-requires : goal.group_end-end-requires
group_end-end-requires c =
    let l = c.loop-head in
    let n = extensions.next_one _ _ _ c.requires.2 c.requires.3 c.requires.4 _ _ _ _ c.next_above-head.ensures l.invariant c.if-s-head.false in
    (n.fits, n.begins)

abbrev text : After-group_end-end → List ℕ
text c = c.args.s.now

-- the group that is written
group : (c : After-group_end-end) → sorted.GroupAt 1 (text c) c.next_above-head.result.at c.next_above-head.result.next c.group_end-end.result
group c =
    let l = c.loop-head in
    extensions.its-group _ _ _ c.requires.2 c.requires.3 c.requires.4 _ _ _ _ c.next_above-head.ensures l.invariant c.if-s-head.false _ c.group_end-end.ensures

pub slice_bounds-write_extension-count : goal.slice_bounds-write_extension-count
slice_bounds-write_extension-count c = let g = group (goal.at.slice_bounds-write_extension-count c).After-group_end-end in omega arith

pub slice_bounds-write_extension-start : goal.slice_bounds-write_extension-start
slice_bounds-write_extension-start c = let g = group (goal.at.slice_bounds-write_extension-start c).After-group_end-end in omega arith

pub slice_bounds-write_extension-end : goal.slice_bounds-write_extension-end
slice_bounds-write_extension-end c = let g = group (goal.at.slice_bounds-write_extension-end c).After-group_end-end in omega arith

pub write_extension-put-requires : goal.write_extension-put-requires
write_extension-put-requires c =
    let l = c.loop-head in
    let e = c.next_above-head.ensures in
    let p = extensions.its-part _ _ _ c.requires.2 c.requires.3 c.requires.4 _ _ _ _ e l.invariant c.if-s-head.false _ c.group_end-end.ensures in
    let g = group (goal.at.write_extension-put-requires c).After-group_end-end in (
      extensions.part-fits _ _ _ c.requires.2 c.requires.3 c.requires.4 _ _ _ _ e l.invariant c.if-s-head.false _ c.group_end-end.ensures c.requires.0,
      omega (arith, p.size),
      p.begins,
      p.plain,
      extensions.arrangeable _ _ _ c.requires.2 c.requires.3 c.requires.4 _ _ _ _ e l.invariant c.if-s-head.false _ c.group_end-end.ensures,
    )

pub loop-head-smaller : goal.loop-head-smaller
loop-head-smaller c =
    let l = c.loop-head in
    let r = extensions.rises _ _ _ c.requires.2 c.requires.3 c.requires.4 _ _ _ _ c.next_above-head.ensures l.invariant c.if-s-head.false in
    omega arith

pub loop-head-preserved : goal.loop-head-preserved
loop-head-preserved c =
    let l = c.loop-head in
    extensions.going_next _ _ _ c.requires.2 c.requires.3 c.requires.4 _ _ _ _ c.next_above-head.ensures l.invariant c.if-s-head.false _ c.group_end-end.ensures _ _
    c.write_extension-put.ensures.0 c.write_extension-put.ensures.1
