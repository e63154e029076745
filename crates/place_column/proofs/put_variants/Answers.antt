-- `place_column::put_variants` meets its contract. Assumes nothing.
use Rattle.place_column.proofs.Laws as laws
use borrow.Author.Rules.{rules}
use native.Mathlib.Omega.{arith}
use Rattle.reader.specs.Spans.{up_to_count}
use Rattle.place_column.proofs.put_variants.Goals as goal

pub loop-i-init : goal.loop-i-init
loop-i-init c = let q = c.requires in (laws.listing_start _ _ _ _ q.0, q.1)

pub offset_bounds-spans-i : goal.offset_bounds-spans-i
offset_bounds-spans-i c = let w = c.loop-i.invariant.0 in let m = w.most in omega arith

pub bounds-spans-i : goal.bounds-spans-i
bounds-spans-i c = let w = c.loop-i.invariant.0 in let m = w.most in omega arith

pub put_span-end-requires : goal.put_span-end-requires
put_span-end-requires c = let i = c.loop-i.invariant in let w = i.0 in let m = w.most in let b = w.bound in let r = w.room in omega (arith, i.1)

pub loop-i-preserved : goal.loop-i-preserved
loop-i-preserved c =
    let i = c.loop-i.invariant in
    (laws.listing-more _ _ _ _ _ _ _ i.0 _ _ _ _ c.loop-i-test.true c.mark_behind.ensures c.put_span-end.ensures (search rules), i.1)

pub returns : goal.returns
unfolding up_to_count
returns c = laws.listing-done _ _ _ _ _ _ _ c.loop-i.invariant.0 c.loop-i-test.false
