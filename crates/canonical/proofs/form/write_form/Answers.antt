-- `canonical::form::write_form` meets its contract. Assumes nothing.
use native.Mathlib.Omega.{arith}
use Prim.Native.Nat.{◌+◌, ◌≤◌}
use lib.ListN.{length}
use Rattle.standard.specs.Reading.{split, identifier_of}
use Rattle.canonical.proofs.Formed as formed
use Rattle.canonical.proofs.form.write_form.Goals as goal
use Rattle.canonical.proofs.form.write_form.Goals.{After-write_variants-variants, Start}

-- the sections, from the start
sections : (b : Start) → formed.Lent b.args.id.now (identifier_of (split b.args.id.now)) b.args.p.region b.args.p.variants b.args.p.extensions
sections b = formed.lent b.args.id.now b.requires.0 b.args.p b.requires.1

-- the sizes add up
size : (c : After-write_variants-variants)
    → c.write_variants-variants.result + length (formed.e_bytes c.args.aliases.rows.now c.args.id.now c.requires.2 c.requires.0 c.args.p c.requires.1 c.write_three-ends.result c.write_three-ends.ensures.0)
    + length (formed.p_bytes c.args.aliases.rows.now c.args.id.now c.requires.2 c.requires.0 c.args.p c.requires.1 c.write_three-ends.result c.write_three-ends.ensures.0) ≤ 476
size c =
    formed.sizes c.args.aliases.rows.now c.args.id.now c.requires.2 c.requires.0 c.args.p c.requires.1 c.write_three-ends.result c.write_three-ends.ensures.0 _ c.write_variants-variants.ensures.0

pub slice_bounds-write_variants-count : goal.slice_bounds-write_variants-count
slice_bounds-write_variants-count c = (sections (goal.at.slice_bounds-write_variants-count c).Start).low

pub slice_bounds-write_variants-start : goal.slice_bounds-write_variants-start
slice_bounds-write_variants-start c = let l = sections (goal.at.slice_bounds-write_variants-start c).Start in omega arith

pub slice_bounds-write_variants-end : goal.slice_bounds-write_variants-end
slice_bounds-write_variants-end c = let l = sections (goal.at.slice_bounds-write_variants-end c).Start in omega arith

pub write_variants-variants-requires : goal.write_variants-variants-requires
write_variants-variants-requires c =
    let r = formed.variants-ready c.args.aliases.rows.now c.args.id.now c.requires.2 c.requires.0 c.args.p c.requires.1 c.write_three-ends.result c.write_three-ends.ensures.0 in
    (r.0, r.1, r.2, c.requires.2, r.3, omega (arith, r.4))

pub slice_bounds-write_extensions-count : goal.slice_bounds-write_extensions-count
slice_bounds-write_extensions-count c = (sections (goal.at.slice_bounds-write_extensions-count c).Start).middle

pub slice_bounds-write_extensions-start : goal.slice_bounds-write_extensions-start
slice_bounds-write_extensions-start c = let l = sections (goal.at.slice_bounds-write_extensions-start c).Start in omega arith

pub slice_bounds-write_extensions-end : goal.slice_bounds-write_extensions-end
slice_bounds-write_extensions-end c = let l = sections (goal.at.slice_bounds-write_extensions-end c).Start in omega arith

pub write_extensions-extensions-requires : goal.write_extensions-extensions-requires
write_extensions-extensions-requires c =
    let s = size (goal.at.write_extensions-extensions-requires c).After-write_variants-variants in
    let r = formed.extensions-ready c.args.aliases.rows.now c.args.id.now c.requires.2 c.requires.0 c.args.p c.requires.1 c.write_three-ends.result c.write_three-ends.ensures.0 in
    (omega (arith, s), omega (arith, s), r.0, r.1, r.2)

pub slice_bounds-put_normalised-count : goal.slice_bounds-put_normalised-count
slice_bounds-put_normalised-count c = (sections (goal.at.slice_bounds-put_normalised-count c).Start).high

pub slice_bounds-put_normalised-start : goal.slice_bounds-put_normalised-start
slice_bounds-put_normalised-start c = let l = sections (goal.at.slice_bounds-put_normalised-start c).Start in omega arith

pub put_normalised-len-requires : goal.put_normalised-len-requires
put_normalised-len-requires c = let s = size (goal.at.put_normalised-len-requires c).After-write_variants-variants in omega (arith, s, c.write_extensions-extensions.ensures.2)

pub slice_bounds-count_subtags-end : goal.slice_bounds-count_subtags-end
slice_bounds-count_subtags-end c = let s = size (goal.at.slice_bounds-count_subtags-end c).After-write_variants-variants in omega (arith, s)

pub returns : goal.returns
returns c =
    let all = formed.all-written c.args.aliases.rows.now c.args.id.now c.requires.2 c.requires.0 c.args.p c.requires.1 c.write_three-ends.result c.write_three-ends.ensures.0 c.args.out.now _ _ _ _ _ _ _ c.requires.3 c.write_three-ends.ensures.1 c.write_variants-variants.ensures.0 c.write_variants-variants.ensures.1 c.write_extensions-extensions.ensures.0 c.write_extensions-extensions.ensures.2 c.write_extensions-extensions.ensures.1 c.put_normalised-len.ensures.0 c.put_normalised-len.ensures.1 in
    let is = formed.form-is c.args.aliases.rows.now c.args.id.now c.requires.2 c.requires.0 c.args.p c.requires.1 c.write_three-ends.result c.write_three-ends.ensures.0 c.args.out.now _ _ _ _ _ _ _ c.requires.3 c.write_three-ends.ensures.1 c.write_variants-variants.ensures.0 c.write_variants-variants.ensures.1 c.write_extensions-extensions.ensures.0 c.write_extensions-extensions.ensures.2 c.write_extensions-extensions.ensures.1 c.put_normalised-len.ensures.0 c.put_normalised-len.ensures.1 _ c.count_subtags-count.ensures in
    (is, omega (arith, all.0), all.1)
