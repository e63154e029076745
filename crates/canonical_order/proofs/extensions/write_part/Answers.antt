-- `canonical_order::extensions::write_part` meets its contract. Assumes nothing.
use native.Mathlib.Omega.{arith}
use mathlib.Core.Path.{sym, ap, ◌∙◌}
use mathlib.Core.Bool.{false}
use mathlib.Core.List.{List, map}
use Prim.Native.Nat.{ℕ, ◌+◌, ◌-◌, ◌≤◌, ◌<◌}
use lib.ListN.{length, take, drop}
use lib.Seq.{sets}
use Rattle.subtag.specs.Bytes.{normal_byte}
use Rattle.subtag.specs.Sections.{Led}
use Rattle.canonical_order.specs.Section.{sorted_bytes, of_variant}
use borrow.Author.Rules.{rules}
use Rattle.canonical_order.proofs.Fields as fields
use Rattle.byte_string.proofs.Stores as stores
use Rattle.canonical_order.proofs.extensions.write_part.Goals as goal
use Rattle.canonical_order.proofs.extensions.write_part.Goals.{After-place_of-v, After-scan-t}

pub returns-then-s-eq0 : goal.returns-then-s-eq0
returns-then-s-eq0 c =
    let e = fields.part_none c.args.s.now c.if-s-eq0.true in
    (omega (arith, ap length e), ap (λ (x : List ℕ). sets c.args.out.now c.args.at x) (sym e))

pub slice_bounds-scan-count : goal.slice_bounds-scan-count
slice_bounds-scan-count c = let n = c.if-s-eq0.false in omega arith

pub slice_bounds-scan-start : goal.slice_bounds-scan-start
slice_bounds-scan-start c = let n = c.if-s-eq0.false in omega arith

pub slice_bounds-scan-end : goal.slice_bounds-scan-end
slice_bounds-scan-end c = let n = c.if-s-eq0.false in omega arith

filled : (c : After-scan-t) → 0 < length c.args.s.now
filled c = let n = c.if-s-eq0.false in omega arith

first : (c : After-scan-t) → (1 + c.scan-t.result.len ≤ length c.args.s.now) × Led (drop (1 + c.scan-t.result.len) c.args.s.now)
first c = fields.part-first _ _ (filled c) c.requires.2 c.scan-t.ensures

pub overflow_add-len : goal.overflow_add-len
overflow_add-len c = let f = first (goal.at.overflow_add-len c).After-scan-t in omega arith

pub place_of-v-requires-clause-begins : goal.place_of-v-requires-clause-begins
place_of-v-requires-clause-begins c = first (goal.at.place_of-v-requires-clause-begins c).After-scan-t

abbrev text : After-place_of-v → List ℕ
text c = c.args.s.now

part : (c : After-place_of-v) → fields.PartAt (text c) c.place_of-v.result (take c.place_of-v.result (text c)) (take (length (text c) - c.place_of-v.result) (drop c.place_of-v.result (text c)))
part c =
    fields.part (text c) c.place_of-v.result _ (let n = c.if-s-eq0.false in omega arith) c.requires.2 c.requires.3 c.requires.4 c.scan-t.ensures (c.place_of-v.ensures of_variant (λ t r h. search rules))

pub slice_bounds-put_normalised-end : goal.slice_bounds-put_normalised-end
slice_bounds-put_normalised-end c = sym (part (goal.at.slice_bounds-put_normalised-end c).After-place_of-v).first-size

pub put_normalised-p-requires : goal.put_normalised-p-requires
put_normalised-p-requires c = let w = part (goal.at.put_normalised-p-requires c).After-place_of-v in omega arith

pub slice_bounds-write_sorted-count : goal.slice_bounds-write_sorted-count
slice_bounds-write_sorted-count c = (part (goal.at.slice_bounds-write_sorted-count c).After-place_of-v).fits

pub slice_bounds-write_sorted-start : goal.slice_bounds-write_sorted-start
slice_bounds-write_sorted-start c = let w = part (goal.at.slice_bounds-write_sorted-start c).After-place_of-v in omega arith

pub write_sorted-requires : goal.write_sorted-requires
write_sorted-requires c =
    let w = part (goal.at.write_sorted-requires c).After-place_of-v in
    (omega (arith, c.put_normalised-p.ensures.0), omega arith, w.rest-begins, w.rest_plain)

pub returns : goal.returns
returns c =
    let w = part (goal.at.returns c).After-place_of-v in
    let s = text (goal.at.returns c).After-place_of-v in
    let v = c.place_of-v.result in
    stores.wrote-two _ _ _ _ _ _ (map normal_byte (take v s)) (sorted_bytes 8 false (take (length s - v) (drop v s))) _ w.bytes (c.put_normalised-p.ensures.0 ∙ stores.mapped normal_byte _ (take v s))
    c.put_normalised-p.ensures.1 c.write_sorted.ensures.0 c.write_sorted.ensures.1
