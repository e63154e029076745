-- `canonical::variants::write_variants` meets its contract. Assumes nothing.
use native.Mathlib.Omega.{arith}
use mathlib.Core.Path.{sym, ap, ◌∙◌}
use borrow.Author.Tests.{eqb-true}
use mathlib.Core.List.{List}
use Prim.Native.Nat.{ℕ, ◌+◌, ◌≤◌}
use lib.ListN.{length, take}
use lib.Seq.{sets, length-take-le}
use Rattle.subtag.specs.Sections.{tags_of}
use Rattle.canonical.proofs.Merged as merged
use Rattle.canonical.proofs.variants.write_variants.Goals as goal
use Rattle.canonical.proofs.variants.write_variants.Goals.{After-resolve_variants-m}

pub returns-then-is_empty : goal.returns-then-is_empty
returns-then-is_empty c =
    let e = merged.no-variants c.args.aliases.rows.now c.requires.3 c.args.s.now (eqb-true _ 0 (sym c.is_empty.ensures ∙ c.if-is_empty.true)) in
    (omega (arith, ap length e), ap (sets c.args.out.now c.args.at) (sym e))

pub resolve_variants-m-requires : goal.resolve_variants-m-requires
resolve_variants-m-requires c =
    (c.requires.0, c.requires.1, omega (arith, merged.resolved-fits c.args.aliases.rows.now c.requires.3 c.args.s.now c.requires.0 c.requires.2 c.requires.4, c.buffer-scratch.ensures))

fits : (c : After-resolve_variants-m) → (c.resolve_variants-m.result ≤ length c.resolve_variants-m.new.out) × (c.resolve_variants-m.result ≤ 459)
fits c =
    let n = merged.resolved-fits c.args.aliases.rows.now c.requires.3 c.args.s.now c.requires.0 c.requires.2 c.requires.4 in
    (omega (arith, c.resolve_variants-m.ensures.0, c.buffer-scratch.ensures), omega (arith, c.resolve_variants-m.ensures.0))

-- the section of the replaced variants
part : (c : After-resolve_variants-m) → merged.Section c.args.aliases.rows.now c.requires.3 (tags_of c.args.s.now) (take c.resolve_variants-m.result c.resolve_variants-m.new.out)
part c =
    merged.scratch c.args.aliases.rows.now c.requires.3 c.args.s.now c.requires.0 c.requires.2 c.requires.4 _ _ _ c.resolve_variants-m.ensures.0 c.resolve_variants-m.ensures.1 (fits c).0

pub slice_bounds-scratch-end : goal.slice_bounds-scratch-end
slice_bounds-scratch-end c = (fits (goal.at.slice_bounds-scratch-end c).After-resolve_variants-m).0

pub slice_bounds-write_sorted-end : goal.slice_bounds-write_sorted-end
slice_bounds-write_sorted-end c =
    sym (length-take-le c.resolve_variants-m.result c.resolve_variants-m.new.out (fits (goal.at.slice_bounds-write_sorted-end c).After-resolve_variants-m).0)

-- before what the call requires, so that another section is refused for what it would give
pub returns : goal.returns
returns c =
    let a = c.args in
    let e = (part (goal.at.returns c).After-resolve_variants-m).sorted in
    (c.write_sorted.ensures.0 ∙ ap (λ (x : List ℕ). a.at + length x) e, c.write_sorted.ensures.1 ∙ ap (sets a.out.now a.at) e)

pub write_sorted-requires : goal.write_sorted-requires
write_sorted-requires c =
    let n = length-take-le c.resolve_variants-m.result c.resolve_variants-m.new.out (fits (goal.at.write_sorted-requires c).After-resolve_variants-m).0 in
    (omega (arith, (fits (goal.at.write_sorted-requires c).After-resolve_variants-m).1), omega (arith, (fits (goal.at.write_sorted-requires c).After-resolve_variants-m).1), (part (goal.at.write_sorted-requires c).After-resolve_variants-m).begins, (part (goal.at.write_sorted-requires c).After-resolve_variants-m).plain)
