-- `aliases::keys::search` meets its contract. Assumes nothing.
use native.Mathlib.Omega.{arith}
use mathlib.Core.Path.{◌≡◌, refl, sym, ap, ◌∙◌}
use Prim.Native.Nat.{ℕ}
use mathlib.Core.List.{List}
use lib.ListN.{length, replicate}
use lib.Seq.{length-take-le}
use Rattle.standard.specs.Table.{located}
use Rattle.aliases.specs.Keys.{kind_key, is_key}
use Rattle.aliases.proofs.Slots.{kind-size, sized, written-key, is-some-found}
use Rattle.aliases.proofs.keys.search.Goals as goal
use Rattle.aliases.proofs.keys.search.Goals.{After-put-end, After-put_kind-start}

abbrev zeros : List ℕ
zeros = replicate 32 0

first : (c : After-put_kind-start) → length c.put_kind-start.new.out ≡ 32
first c = sized zeros c.put_kind-start.new.out (kind_key c.args.kind) 32 0 refl c.put_kind-start.ensures.1

second : (c : After-put-end) → length c.put-end.new.out ≡ 32
second c =
    sized c.put_kind-start.new.out c.put-end.new.out c.args.tag.now 32 c.put_kind-start.result (sized zeros c.put_kind-start.new.out (kind_key c.args.kind) 32 0 refl c.put_kind-start.ensures.1) c.put-end.ensures.1

pub put-end-requires : goal.put-end-requires
put-end-requires c =
    let k = kind-size c.args.kind in
    omega (arith, first (goal.at.put-end-requires c).After-put_kind-start, c.put_kind-start.ensures.0)

pub slice_bounds-key-end : goal.slice_bounds-key-end
slice_bounds-key-end c =
    let k = kind-size c.args.kind in
    omega (arith, second (goal.at.slice_bounds-key-end c).After-put-end, c.put-end.ensures.0, c.put_kind-start.ensures.0)

pub slice_bounds-find_by-end : goal.slice_bounds-find_by-end
slice_bounds-find_by-end c =
    let k = kind-size c.args.kind in
    sym (length-take-le _ _ (omega (arith, second (goal.at.slice_bounds-find_by-end c).After-put-end, c.put-end.ensures.0, c.put_kind-start.ensures.0)))

pub returns : goal.returns
unfolding is_key
returns c =
    let a = c.args in
    let p = c.put-end in
    let n = c.put_kind-start in
    let w = written-key a.kind a.tag.now zeros n.new.out p.new.out n.result p.result refl c.requires.0 n.ensures.0 n.ensures.1 p.ensures.0 p.ensures.1 in
    let q = c.requires in
    is-some-found _ _ (c.find_by.ensures.0 a.aliases.indexed.sorted (rw (← w) at q.1) ∙ ap (located a.aliases.rows.now) w) c.is_some.ensures
