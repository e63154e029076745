-- `bill_lines::line::take_line` meets its contract. Assumes nothing.
use Prim.Native.Nat.{◌+◌}
use native.Mathlib.Omega.{arith}
use Rattle.bill_lines.proofs.Goings.{at-18, at-refused, at-17, at_added, bounded-only, more-bounded}
use Rattle.bill_lines.proofs.line.take_line.Goals as goal

pub returns-then-c-ge1000000 : goal.returns-then-c-ge1000000
returns-then-c-ge1000000 c =
    let k = c.only.ensures in
    (bounded-only c.only.result 18 0 0 k, c.requires.2, λ ls g. at-18 _ ls c.args.c _ _ c.args.line.now g c.only.result k c.if-c-ge1000000.true)

pub returns-in_default : goal.returns-in_default
returns-in_default c =
    let k = c.counted.ensures in (
      more-bounded c.args.c _ c.args.c.keys (c.args.c.refused + 1) k c.requires.1 c.if-c-ge1000000.false c.requires.1.keys (omega arith),
      c.requires.2,
      λ ls g. at-refused _ ls c.args.c _ _ c.args.line.now g c.counted.result c.usage_of.new.out k c.if-c-ge1000000.false c.in_default.ensures.0,
    )

pub returns-in-None : goal.returns-in-None
returns-in-None c =
    let k = c.only-in-None.ensures in
    let a = c.in-None.ensures in (
      bounded-only c.only-in-None.result 17 0 0 k,
      a.0,
      λ ls g. at-17 _ ls c.args.c _ _ c.args.line.now g c.only-in-None.result _ _ c.in-Some.ensures.0 c.if-c-ge1000000.false _ _ 513 a.2 k (omega arith),
    )

pub returns-in-Some-add_used : goal.returns-in-Some-add_used
returns-in-Some-add_used c =
    let k = c.counted-in-Some-add_used.ensures in
    let a = c.in-Some-add_used.ensures in (
      more-bounded c.args.c _ c.in-Some-add_used.n c.args.c.refused k c.requires.1 c.if-c-ge1000000.false a.1 (omega arith),
      a.0,
      λ ls g. at_added _ ls c.args.c _ _ c.args.line.now g c.counted-in-Some-add_used.result _ _ c.in-Some.ensures.0 c.if-c-ge1000000.false _ _ _ a.2 k a.1,
    )
