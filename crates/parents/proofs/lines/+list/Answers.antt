-- `parents::lines::list` meets its contract. Assumes nothing.
use mathlib.Core.Path.{refl, sym, ap}
use native.Mathlib.Omega.{arith}
use Rattle.std.specs.Prelude.{Ok, Err}
use Rattle.parents.proofs.Writing.{bounded-one, bounded-short, bounded-more, bounded-as, front_fits, chain-none, chain-und, chain_more, chain-some, rest-lists, lists-more, lists-as, lists-told}
use Rattle.parents.proofs.lines.+list.Goals as goal
use Rattle.parents.proofs.lines.+list.Goals.{then-allowed-eq0-via-then-allowed-eq0, then-allowed-eq0-via-else-allowed-eq0+then-same}

pub returns-then-allowed-eq0 : goal.returns-then-allowed-eq0
returns-then-allowed-eq0 t c =
    let a = c.args in
    let l = c.last_line in (
      bounded-one _ _ _ _ _ _ l.ensures.0 l.ensures.1,
      λ s. elim c.then-allowed-eq0.branch [
        | then-allowed-eq0-via-then-allowed-eq0 w ↦ lists-as (chain-none a.parents.now a.allowed a.variants a.id.now w.if-allowed-eq0.true) (record { listed = l.ensures.0; written = l.ensures.1 })
        | then-allowed-eq0-via-else-allowed-eq0+then-same w ↦
            lists-as (chain-und a.parents.now a.allowed a.variants a.id.now a.root.now c.requires.2 w.same.ensures w.if-same.true) (record { listed = l.ensures.0; written = l.ensures.1 })
      ],
    )

pub put_line-requires : goal.put_line-requires
put_line-requires t c = front_fits _ _ _ c.args.id.now _ _ _ _ refl (bounded-as c.in-Ok.is c.list.ensures.0)

pub one_more-requires : goal.one_more-requires
one_more-requires t c = let b = (bounded-as c.in-Ok.is c.list.ensures.0).behind in omega (arith, b.0, c.requires.4)

pub one_more-requires-in-Err : goal.one_more-requires-in-Err
one_more-requires-in-Err t c = let b = (bounded-as c.in-Err.is c.list.ensures.0).behind in omega (arith, b.0, c.requires.4)

pub returns-in-Ok : goal.returns-in-Ok
returns-in-Ok t c =
    let a = c.args in
    let l = c.list in
    let e = chain_more a.parents.now a.allowed a.variants a.id.now a.root.now c.requires.2 c.same.ensures c.if-same.false c.if-allowed-eq0.false in (
      bounded-as (ap Ok (sym c.one_more.ensures)) (bounded-more _ _ _ a.id.now _ _ _ _ _ c.if-allowed-eq0.false refl (bounded-as c.in-Ok.is l.ensures.0) c.put_line.ensures),
      λ s. lists-as e (lists-told (ap Ok (sym c.one_more.ensures)) (lists-more _ _ _ _ _ a.id.now _ _ refl (chain-some _ _ _ _) (rest-lists a.parents.now _ _ _ _ _ (l.ensures.1 s) c.saturating_sub-fewer.ensures (c.parent_of-parent.ensures.1 s) c.in-Ok.is) c.put_line.ensures)),
    )

pub returns-in-Err : goal.returns-in-Err
returns-in-Err t c =
    let a = c.args in
    let l = c.list in
    let e = chain_more a.parents.now a.allowed a.variants a.id.now a.root.now c.requires.2 c.same.ensures c.if-same.false c.if-allowed-eq0.false in (
      bounded-as (ap Err (sym c.one_more-in-Err.ensures)) (bounded-short _ _ _ a.id.now _ _ _ _ c.if-allowed-eq0.false refl (bounded-as c.in-Err.is l.ensures.0)),
      λ s. lists-as e (lists-told (ap Err (sym c.one_more-in-Err.ensures)) (lists-more _ _ _ _ _ a.id.now _ _ refl (chain-some _ _ _ _) (rest-lists a.parents.now _ _ _ _ _ (l.ensures.1 s) c.saturating_sub-fewer.ensures (c.parent_of-parent.ensures.1 s) c.in-Err.is) refl)),
    )
