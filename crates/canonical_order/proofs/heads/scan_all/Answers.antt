-- `canonical_order::heads::scan_all` meets its contract. Assumes nothing.
use mathlib.Core.Path.{◌≡◌}
use native.Mathlib.Omega.{arith}
use Prim.Native.Nat.{◌+◌, ◌<◌, ◌≤◌}
use Rattle.canonical_order.proofs.Picks as picks
use Rattle.canonical_order.proofs.Scanned as scanned
use Rattle.canonical_order.proofs.heads.scan_all.Goals as goal
use Rattle.canonical_order.proofs.heads.scan_all.Goals.{After-scan, After-head_of-head}

pub loop-at-init : goal.loop-at-init
loop-at-init c = scanned.scanning-start _ _ _ c.requires.0 c.requires.1 c.requires.3

pub overflow_add-start : goal.overflow_add-start
overflow_add-start c = omega (arith, c.loop-at.invariant.fits)

stepped : (c : After-scan) → picks.Stepped c.args.s.now c.loop-at.at c.scan.result
stepped c = picks.stepped _ _ _ c.loop-at-test.true c.loop-at.invariant.begins c.scan.ensures

behind : (c : After-head_of-head) → c.head_of-head.result.next ≡ c.loop-at.at + 1 + c.scan.result.len
behind c = scanned.ends-behind _ _ _ _ c.head_of-head.ensures

bounds : (c : After-scan) → (c.loop-at.count + c.loop-at.count < 256) × (c.loop-at.at + 1 + c.scan.result.len ≤ 256)
bounds c =
    let l = c.loop-at.invariant in
    (omega (arith, l.few, l.fits), omega (arith, (stepped c).on.fits))

pub head_of-head-requires : goal.head_of-head-requires
head_of-head-requires c = omega (arith, bounds (goal.at.head_of-head-requires c).After-scan)

pub offset_bounds-heads-count : goal.offset_bounds-heads-count
offset_bounds-heads-count c = omega (arith, bounds (goal.at.offset_bounds-heads-count c).After-scan, c.loop-at.invariant.room)

pub bounds-heads-count : goal.bounds-heads-count
bounds-heads-count c = omega (arith, bounds (goal.at.bounds-heads-count c).After-scan, c.loop-at.invariant.room)

pub overflow_add-count : goal.overflow_add-count
overflow_add-count c = omega (arith, bounds (goal.at.overflow_add-count c).After-scan)

pub loop-at-smaller : goal.loop-at-smaller
loop-at-smaller c = omega (arith, (stepped (goal.at.loop-at-smaller c).After-scan).on.fits, behind (goal.at.loop-at-smaller c).After-head_of-head)

pub loop-at-preserved : goal.loop-at-preserved
loop-at-preserved c =
    scanned.scanning-next _ _ _ _ _ c.loop-at.invariant _ _ (stepped (goal.at.loop-at-preserved c).After-scan) c.requires.2 c.head_of-head.ensures

pub returns : goal.returns
returns c =
    let j = c.loop-at.invariant in
    (omega (arith, j.few, j.fits), scanned.scanned-heads _ _ _ _ _ j c.loop-at-test.false, j.room)
