-- `canonical_order::extensions::write_extension` meets its contract. Assumes nothing.
use native.Mathlib.Omega.{arith}
use mathlib.Core.Path.{refl, ◌∙◌}
use mathlib.Core.List.{List, map}
use Prim.Native.Nat.{ℕ, ◌-◌}
use lib.ListN.{length, take, drop, get_or}
use Rattle.standard.specs.Grammar.{lower_byte, arrange_keywords, arrange_fields}
use Rattle.subtag.specs.Bytes.{normal_byte}
use Rattle.subtag.specs.Sections.{tags_of, led}
use Rattle.canonical_order.proofs.Arranging as extensions
use Rattle.byte_string.proofs.Stores as stores
use Rattle.canonical_order.proofs.extensions.write_extension.Goals as goal
use Rattle.canonical_order.proofs.extensions.write_extension.Goals.{After-lower-b}

pub bounds-g-1 : goal.bounds-g-1
bounds-g-1 c =
    (extensions.one c.args.g.now (lower_byte (get_or c.args.g.now 1 0)) c.requires.2 c.requires.3 c.requires.4 refl).long

abbrev text : After-lower-b → List ℕ
text c = c.args.g.now

one : (c : After-lower-b) → extensions.One (text c) (take 2 (text c)) (take (length (text c) - 2) (drop 2 (text c))) c.lower-b.result
one c =
    extensions.one (text c) c.lower-b.result c.requires.2 c.requires.3 c.requires.4 c.lower-b.ensures

pub slice_bounds-put_normalised-end : goal.slice_bounds-put_normalised-end
slice_bounds-put_normalised-end c = (one (goal.at.slice_bounds-put_normalised-end c).After-lower-b).first-size

pub put_normalised-put-requires : goal.put_normalised-put-requires
put_normalised-put-requires c = let w = one (goal.at.put_normalised-put-requires c).After-lower-b in omega arith

pub slice_bounds-write_keywords-count : goal.slice_bounds-write_keywords-count
slice_bounds-write_keywords-count c = let w = one (goal.at.slice_bounds-write_keywords-count c).After-lower-b in omega arith

pub slice_bounds-write_keywords-start : goal.slice_bounds-write_keywords-start
slice_bounds-write_keywords-start c = let w = one (goal.at.slice_bounds-write_keywords-start c).After-lower-b in omega arith

pub write_keywords-requires : goal.write_keywords-requires
write_keywords-requires c =
    let w = one (goal.at.write_keywords-requires c).After-lower-b in
    (omega (arith, c.put_normalised-put.ensures.0), omega arith, w.rest-begins, w.rest_plain, w.rest-longer)

pub returns-then-b-eq117 : goal.returns-then-b-eq117
returns-then-b-eq117 c =
    let w = one (goal.at.returns-then-b-eq117 c).After-lower-b in
    stores.wrote-two _ _ _ _ _ _ (map normal_byte (take 2 (text (goal.at.returns-then-b-eq117 c).After-lower-b))) (led (arrange_keywords (tags_of (take (length (text (goal.at.returns-then-b-eq117 c).After-lower-b) - 2) (drop 2 (text (goal.at.returns-then-b-eq117 c).After-lower-b)))))) _ (w.as-u c.if-b-eq117.true)
    (c.put_normalised-put.ensures.0 ∙ stores.mapped normal_byte _ (take 2 (text (goal.at.returns-then-b-eq117 c).After-lower-b))) c.put_normalised-put.ensures.1 c.write_keywords.ensures.0 c.write_keywords.ensures.1

pub slice_bounds-write_fields-count : goal.slice_bounds-write_fields-count
slice_bounds-write_fields-count c = let w = one (goal.at.slice_bounds-write_fields-count c).After-lower-b in omega arith

pub slice_bounds-write_fields-start : goal.slice_bounds-write_fields-start
slice_bounds-write_fields-start c = let w = one (goal.at.slice_bounds-write_fields-start c).After-lower-b in omega arith

pub write_fields-requires : goal.write_fields-requires
write_fields-requires c =
    let w = one (goal.at.write_fields-requires c).After-lower-b in
    (omega (arith, c.put_normalised-put.ensures.0), omega arith, w.rest-begins, w.rest_plain, w.rest-fields c.if-b-eq116.true)

pub returns-then-b-eq116 : goal.returns-then-b-eq116
returns-then-b-eq116 c =
    let w = one (goal.at.returns-then-b-eq116 c).After-lower-b in
    stores.wrote-two _ _ _ _ _ _ (map normal_byte (take 2 (text (goal.at.returns-then-b-eq116 c).After-lower-b))) (led (arrange_fields (tags_of (take (length (text (goal.at.returns-then-b-eq116 c).After-lower-b) - 2) (drop 2 (text (goal.at.returns-then-b-eq116 c).After-lower-b)))))) _ (w.as-t c.if-b-eq116.true)
    (c.put_normalised-put.ensures.0 ∙ stores.mapped normal_byte _ (take 2 (text (goal.at.returns-then-b-eq116 c).After-lower-b))) c.put_normalised-put.ensures.1 c.write_fields.ensures.0 c.write_fields.ensures.1

pub slice_bounds-put_normalised-count : goal.slice_bounds-put_normalised-count
slice_bounds-put_normalised-count c = let w = one (goal.at.slice_bounds-put_normalised-count c).After-lower-b in omega arith

pub slice_bounds-put_normalised-start : goal.slice_bounds-put_normalised-start
slice_bounds-put_normalised-start c = let w = one (goal.at.slice_bounds-put_normalised-start c).After-lower-b in omega arith

pub put_normalised-requires : goal.put_normalised-requires
put_normalised-requires c =
    let w = one (goal.at.put_normalised-requires c).After-lower-b in
    omega (arith, c.put_normalised-put.ensures.0)

pub returns : goal.returns
returns c =
    let w = one (goal.at.returns c).After-lower-b in
    stores.wrote-two _ _ _ _ _ _ (map normal_byte (take 2 (text (goal.at.returns c).After-lower-b))) (map normal_byte (take (length (text (goal.at.returns c).After-lower-b) - 2) (drop 2 (text (goal.at.returns c).After-lower-b)))) _ (w.as-other c.if-b-eq117.false c.if-b-eq116.false)
    (c.put_normalised-put.ensures.0 ∙ stores.mapped normal_byte _ (take 2 (text (goal.at.returns c).After-lower-b))) c.put_normalised-put.ensures.1 (c.put_normalised.ensures.0 ∙ stores.mapped normal_byte _ (take (length (text (goal.at.returns c).After-lower-b) - 2) (drop 2 (text (goal.at.returns c).After-lower-b)))) c.put_normalised.ensures.1
