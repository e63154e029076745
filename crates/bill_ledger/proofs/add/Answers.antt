-- `bill_ledger::add` meets its contract. Assumes nothing.
use mathlib.Core.Path.{◌≡◌, refl, sym, ap, subst, ◌∙◌}
use Prim.Native.Nat.{ℕ, ◌+◌}
use Rattle.bill_ledger.specs.Places.{entries_from}
use Rattle.bill_ledger.specs.Up.{Added}
use native.Mathlib.Omega.{arith}
use Rattle.bill_ledger.specs.Entries.{mark_of}
use Rattle.bill_ledger.proofs.Changes.{usage-hit, usage-full, usage-more}
use borrow.Author.Rules.{rules}
use Rattle.bill_ledger.proofs.add.Goals as goal

pub change-requires : goal.change-requires
change-requires c =
    (omega (arith, c.has_key.ensures.1 c.if-has_key.true), c.requires.1.counts)

pub returns-then-has_key : goal.returns-then-has_key
returns-then-has_key c =
    let v = c.change in (
      record { keys = c.requires.1.keys; counts = (search rules) ∙ c.requires.1.counts },
      omega arith,
      λ u e m up few.
          usage-hit u c.args.key.now c.args.keys.now c.args.counts.now c.args.n c.place_of-at.result c.has_key.result e (c.place_of-at.ensures.1 c.args.counts.now up) (c.has_key.ensures.0 c.args.counts.now)
          c.args.keys.now v.new.counts c.if-has_key.true
          (v.ensures c.args.keys.now c.args.n u (c.mark_of-mark.ensures ∙ ap mark_of (sym m)) (c.has_key.ensures.1 c.if-has_key.true) few),
      tt,
    )

pub returns-then-n-ge512 : goal.returns-then-n-ge512
returns-then-n-ge512 c = (
  c.requires.1,
  tt,
  λ u e m up few.
      let z : c.args.n + 1 ≡ 513 = omega arith in
      subst (λ (k : ℕ). Added u (entries_from c.args.keys.now c.args.counts.now 0 c.args.n) c.args.keys.now c.args.counts.now k) z
      (usage-full u c.args.key.now c.args.keys.now c.args.counts.now c.args.n c.place_of-at.result c.has_key.result e (c.place_of-at.ensures.1 c.args.counts.now up) (c.has_key.ensures.0 c.args.counts.now)
      c.if-has_key.false c.if-n-ge512.true),
  (refl, refl),
)

pub returns : goal.returns
returns c = (
  c.insert.ensures.0,
  omega arith,
  λ u e m up few.
      usage-more u c.args.key.now c.args.keys.now c.args.counts.now c.args.n c.place_of-at.result c.has_key.result e (c.place_of-at.ensures.1 c.args.counts.now up) (c.has_key.ensures.0 c.args.counts.now)
      c.insert.new.keys c.insert.new.counts c.if-has_key.false
      (c.insert.ensures.1 u e (c.mark_of-mark.ensures ∙ ap mark_of (sym m))),
  tt,
)
