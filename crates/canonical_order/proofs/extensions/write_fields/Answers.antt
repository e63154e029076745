-- `canonical_order::extensions::write_fields` meets its contract. Assumes nothing.
use native.Mathlib.Omega.{arith}
use mathlib.Core.Path.{sym}
use mathlib.Core.Bool.{false}
use mathlib.Core.List.{List}
use Prim.Native.Nat.{ℕ, ◌-◌}
use lib.ListN.{length, take, drop}
use Rattle.standard.specs.Grammar.{arrange_part}
use Rattle.subtag.specs.Sections.{tags_of, led}
use Rattle.canonical_order.specs.Section.{sorted_bytes}
use Rattle.subtag.specs.Kinds.{field_from}
use borrow.Author.Rules.{rules}
use Rattle.canonical_order.proofs.Fields as fields
use Rattle.byte_string.proofs.Stores as stores
use Rattle.canonical_order.proofs.extensions.write_fields.Goals as goal
use Rattle.canonical_order.proofs.extensions.write_fields.Goals.{After-place_of-k}

pub place_of-k-requires-clause-begins : goal.place_of-k-requires-clause-begins
place_of-k-requires-clause-begins c = (omega arith, c.requires.2)

abbrev text : After-place_of-k → List ℕ
text c = c.args.s.now

parts : (c : After-place_of-k) → fields.FieldsAt (text c) c.place_of-k.result (take c.place_of-k.result (text c)) (take (length (text c) - c.place_of-k.result) (drop c.place_of-k.result (text c)))
parts c =
    fields.fields (text c) c.place_of-k.result c.requires.2 c.requires.3 c.requires.4 (c.place_of-k.ensures field_from (λ t r h. search rules))

pub slice_bounds-write_part-end : goal.slice_bounds-write_part-end
slice_bounds-write_part-end c = sym (parts (goal.at.slice_bounds-write_part-end c).After-place_of-k).first-size

pub write_part-p-requires : goal.write_part-p-requires
write_part-p-requires c =
    let w = parts (goal.at.write_part-p-requires c).After-place_of-k in
    (omega arith, omega arith, w.first-begins, w.first_plain, w.first-ok)

pub slice_bounds-write_sorted-count : goal.slice_bounds-write_sorted-count
slice_bounds-write_sorted-count c = (parts (goal.at.slice_bounds-write_sorted-count c).After-place_of-k).fits

pub slice_bounds-write_sorted-start : goal.slice_bounds-write_sorted-start
slice_bounds-write_sorted-start c = let w = parts (goal.at.slice_bounds-write_sorted-start c).After-place_of-k in omega arith

pub write_sorted-requires : goal.write_sorted-requires
write_sorted-requires c =
    let w = parts (goal.at.write_sorted-requires c).After-place_of-k in
    let f = fields.part-size _ w.first-begins w.first_plain w.first-ok in
    (omega (arith, c.write_part-p.ensures.0), omega arith, w.rest-begins, w.rest_plain)

pub returns : goal.returns
returns c =
    let w = parts (goal.at.returns c).After-place_of-k in
    let s = text (goal.at.returns c).After-place_of-k in
    let k = c.place_of-k.result in
    stores.wrote-two _ _ _ _ _ _ (led (arrange_part (tags_of (take k s)))) (sorted_bytes 2 false (take (length s - k) (drop k s))) _ w.bytes c.write_part-p.ensures.0 c.write_part-p.ensures.1
    c.write_sorted.ensures.0 c.write_sorted.ensures.1
