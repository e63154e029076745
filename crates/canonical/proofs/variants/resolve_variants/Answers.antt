-- `canonical::variants::resolve_variants` meets its contract. The loop's invariant: what is left, put behind what is
-- written, gives the whole. Assumes nothing.
use native.Mathlib.Omega.{arith}
use mathlib.Core.Path.{refl}
use Prim.Native.Nat.{◌+◌, ◌≤◌}
use lib.ListN.{length}
use Rattle.canonical.proofs.Places as places
use Rattle.canonical.proofs.Resolves as resolves
use Rattle.canonical.proofs.variants.resolve_variants.Goals as goal
use Rattle.canonical.proofs.variants.resolve_variants.Goals.{After-scan}

pub loop-at-init : goal.loop-at-init
loop-at-init c = resolves.resolving-start c.args.aliases.rows.now c.args.s.now c.args.out.now c.requires.0 c.requires.1

-- the variant at hand
fits : (c : After-scan) → let l = c.loop-at in
    (l.at + 1 + c.scan.result.len ≤ length c.args.s.now) × (c.scan.result.len ≤ 8)
fits c =
    let l = c.loop-at in (
      resolves.stop-fits c.args.aliases.rows.now c.args.s.now c.args.out.now l.at l.out l.end l.invariant (omega arith) c.scan.result c.scan.ensures,
      resolves.tag_small c.args.aliases.rows.now c.args.s.now c.args.out.now l.at l.out l.end l.invariant (omega arith) c.scan.result c.scan.ensures,
    )

pub overflow_add-stop : goal.overflow_add-stop
overflow_add-stop c = omega (arith, (fits (goal.at.overflow_add-stop c).After-scan).0)

pub slice_bounds-write_aliased-end : goal.slice_bounds-write_aliased-end
slice_bounds-write_aliased-end c = omega (arith, (fits (goal.at.slice_bounds-write_aliased-end c).After-scan).0)

pub slice_bounds-write_aliased-end-in-loop-at : goal.slice_bounds-write_aliased-end-in-loop-at
slice_bounds-write_aliased-end-in-loop-at c = refl

pub write_aliased-end-requires : goal.write_aliased-end-requires
write_aliased-end-requires c =
    let l = c.loop-at in
    let stop = l.at + 1 + c.scan.result.len in (
      places.slice-small c.args.s.now (l.at + 1) stop 8 (omega (arith, (fits (goal.at.write_aliased-end-requires c).After-scan).1)),
      omega arith,
      omega arith,
      resolves.part_room c.args.aliases.rows.now c.args.s.now c.args.out.now l.at l.out l.end l.invariant (omega arith) c.scan.result c.scan.ensures stop refl c.requires.2,
    )

pub loop-at-smaller : goal.loop-at-smaller
loop-at-smaller c =
    omega (arith, (fits (goal.at.loop-at-smaller c).After-scan).0)

pub loop-at-preserved : goal.loop-at-preserved
loop-at-preserved c =
    let l = c.loop-at in
    let stop = l.at + 1 + c.scan.result.len in
    resolves.resolving-next c.args.aliases.rows.now c.args.s.now c.args.out.now l.at l.out l.end l.invariant (omega arith) c.scan.result c.scan.ensures stop refl _ _ c.write_aliased-end.ensures.0 c.write_aliased-end.ensures.1

pub returns : goal.returns
returns c =
    resolves.resolving-done c.args.aliases.rows.now c.args.s.now c.args.out.now c.loop-at.at c.loop-at.out c.loop-at.end c.loop-at.invariant (omega arith)
