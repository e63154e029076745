-- `reader::spans::variant_spans` meets its contract. Assumes nothing.
use native.Mathlib.Omega.{arith}
use Rattle.reader.proofs.Spanned as spanned
use Rattle.reader.proofs.spans.variant_spans.Goals as goal

pub loop-n-init : goal.loop-n-init
loop-n-init c = let p = c.requires in spanned.listing_start _ _ _ _ p.0 p.1 p.2 c.no_variants-spans.ensures

pub overflow_add-at : goal.overflow_add-at
overflow_add-at c =
    let l = c.loop-n.invariant in
    let k = spanned.listing-inside _ _ _ _ _ _ l c.loop-n-test.true in
    omega arith

pub subtag_end-end-requires : goal.subtag_end-end-requires
subtag_end-end-requires c = spanned.listing-inside _ _ _ _ _ _ c.loop-n.invariant c.loop-n-test.true

pub overflow_sub-end : goal.overflow_sub-end
overflow_sub-end c = let e = c.subtag_end-end.ensures in omega arith

pub new_span-requires : goal.new_span-requires
new_span-requires c =
    let l = c.loop-n.invariant in
    let s = l.short in
    let k = spanned.listing-inside _ _ _ _ _ _ l c.loop-n-test.true in
    let e = c.subtag_end-end.ensures in
    (omega arith, omega arith)

pub offset_bounds-spans-n : goal.offset_bounds-spans-n
offset_bounds-spans-n c = let l = c.loop-n.invariant in let f = l.few in omega arith

pub bounds-spans-n : goal.bounds-spans-n
bounds-spans-n c = let l = c.loop-n.invariant in let f = l.few in omega arith

pub loop-n-preserved : goal.loop-n-preserved
loop-n-preserved c =
    spanned.listing-more _ _ _ _ _ _ c.loop-n.invariant c.loop-n-test.true _ _ c.subtag_end-end.ensures.0 c.new_span.ensures

pub returns : goal.returns
returns c = spanned.listing-done _ _ _ _ _ _ c.loop-n.invariant c.loop-n-test.false
