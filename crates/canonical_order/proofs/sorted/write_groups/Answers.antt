-- `canonical_order::sorted::write_groups` meets its contract. The loop's invariant: what is pending, put at its place, gives the result.
-- Assumes nothing.
use native.Mathlib.Omega.{arith}
use Prim.Native.Nat.{◌<◌}
use Rattle.canonical_order.proofs.Trim as trim
use Rattle.canonical_order.proofs.Writes as writes
use Rattle.canonical_order.proofs.sorted.write_groups.Goals as goal
use Rattle.canonical_order.proofs.sorted.write_groups.Goals.{After-trimmed_end-stop}

pub loop-head-init : goal.loop-head-init
loop-head-init g c = writes.writing_start _ _ _ _ _ c.requires.section.2 c.requires.section.3

pub returns-then-s-head : goal.returns-then-s-head
returns-then-s-head g c =
    let l = c.loop-head in
    writes.writing-done _ _ _ _ _ c.requires.section.2 c.requires.section.3 _ _ _ _ (c.requires.least _ _ c.next-head.ensures) l.invariant c.if-s-head.true

pub group_end-end-requires : goal.group_end-end-requires
group_end-end-requires g c =
    let l = c.loop-head in
    let n = writes.next-group _ _ _ _ _ c.requires.section.2 c.requires.section.3 _ _ _ _ (c.requires.least _ _ c.next-head.ensures) l.invariant c.if-s-head.false in
    (n.fits, n.begins)

pub trimmed_end-stop-requires : goal.trimmed_end-stop-requires
trimmed_end-stop-requires g c =
    let l = c.loop-head in
    let g = writes.its-group _ _ _ _ _ c.requires.section.2 c.requires.section.3 _ _ _ _ (c.requires.least _ _ c.next-head.ensures) l.invariant c.if-s-head.false _ c.group_end-end.ensures in
    (g.within, g.fits, omega arith)

-- the part that is written
part : (g : _) (c : After-trimmed_end-stop g)
    → trim.Trimmed c.args.width c.args.trim
    c.args.s.now c.next-head.result.at
    c.next-head.result.next c.trimmed_end-stop.result
part g c =
    let l = c.loop-head in
    writes.its-part _ _ _ _ _ c.requires.section.2 c.requires.section.3 _ _ _ _ (c.requires.least _ _ c.next-head.ensures) l.invariant c.if-s-head.false _
    c.group_end-end.ensures _ c.trimmed_end-stop.ensures

found : (g : _) (c : After-trimmed_end-stop g)
    → (c.next-head.result.at < c.next-head.result.next) × (c.loop-head.last < c.next-head.result.key)
found g c =
    let l = c.loop-head in (
      (writes.its-group _ _ _ _ _ c.requires.section.2 c.requires.section.3 _ _ _ _ (c.requires.least _ _ c.next-head.ensures) l.invariant c.if-s-head.false _ c.group_end-end.ensures).after,
      (writes.found _ _ _ _ _ c.requires.section.2 c.requires.section.3 _ _ _ _ (c.requires.least _ _ c.next-head.ensures) l.invariant c.if-s-head.false).rises,
    )

pub slice_bounds-put_normalised-count : goal.slice_bounds-put_normalised-count
slice_bounds-put_normalised-count g c = omega (arith, (part g (goal.at.slice_bounds-put_normalised-count g c).After-trimmed_end-stop).after, (found g (goal.at.slice_bounds-put_normalised-count g c).After-trimmed_end-stop).0)

pub slice_bounds-put_normalised-start : goal.slice_bounds-put_normalised-start
slice_bounds-put_normalised-start g c = omega (arith, (part g (goal.at.slice_bounds-put_normalised-start g c).After-trimmed_end-stop).after, (found g (goal.at.slice_bounds-put_normalised-start g c).After-trimmed_end-stop).0)

pub slice_bounds-put_normalised-end : goal.slice_bounds-put_normalised-end
slice_bounds-put_normalised-end g c = omega (arith, (part g (goal.at.slice_bounds-put_normalised-end g c).After-trimmed_end-stop).after, (part g (goal.at.slice_bounds-put_normalised-end g c).After-trimmed_end-stop).fits, (found g (goal.at.slice_bounds-put_normalised-end g c).After-trimmed_end-stop).0)

pub put_normalised-put-requires : goal.put_normalised-put-requires
put_normalised-put-requires g c =
    let l = c.loop-head in
    writes.part-fits _ _ _ _ _ c.requires.section.2 c.requires.section.3 _ _ _ _ (c.requires.least _ _ c.next-head.ensures) l.invariant c.if-s-head.false _
    c.group_end-end.ensures _ c.trimmed_end-stop.ensures c.requires.section.0

pub loop-head-smaller : goal.loop-head-smaller
loop-head-smaller g c = omega (arith, (found g (goal.at.loop-head-smaller g c).After-trimmed_end-stop).1)

pub loop-head-preserved : goal.loop-head-preserved
loop-head-preserved g c =
    let l = c.loop-head in
    writes.writing-next _ _ _ _ _ c.requires.section.2 c.requires.section.3 _ _ _ _ (c.requires.least _ _ c.next-head.ensures) l.invariant c.if-s-head.false _
    c.group_end-end.ensures _ c.trimmed_end-stop.ensures _ _ c.put_normalised-put.ensures.0 c.put_normalised-put.ensures.1
