-- `reader::walk` meets its contract: each turn of the loop is one step of the definition. Assumes nothing.
use native.Mathlib.Omega.{arith}
use mathlib.Core.Path.{◌≡◌, sym, ◌∙◌}
use Rattle.std.specs.Prelude.{None}
use Rattle.std.proofs.lemmas.Result.{err_from_is_err_and}
use Rattle.reader.specs.declared.Refusal.TheVariants.{Repeated}
use Rattle.reader.specs.Parts.{outcome_of}
use Rattle.reader.proofs.Loop as loop
use Rattle.reader.proofs.walk.Goals as goal
use Rattle.reader.proofs.walk.Goals.{After-verdict_of, Joined-verdict_of, in-Listed+else-contains, in-Plain, in-Singleton+in_ok-set-in-Singleton}

-- what the scan, the transition and the verdict say of the subtag at hand
told_at : (c : After-verdict_of)
    → loop.Told c.args.id.now c.walk.at c.scan-t.result c.walk.st c.step-next.result c.verdict_of.result
told_at c = loop.told _ _ _ _ _ _ c.scan-t.ensures c.step-next.ensures c.verdict_of.ensures

-- where the arms meet
joined : (c : Joined-verdict_of)
    → loop.Behind c.args.id.now c.match-verdict_of.listed c.match-verdict_of.count c.match-verdict_of.set c.walk.parts
    c.walk.at c.scan-t.result c.step-next.result
joined c =
    let o = loop.told _ _ _ _ _ _ c.scan-t.ensures c.step-next.ensures c.verdict_of.ensures in
    elim c.match-verdict_of.branch [
      | in-Singleton+in_ok-set-in-Singleton w ↦ rw (w.listed-is, w.count-is, w.set-is) (loop.behind-new _ _ _ _ _ _ _ _ c.walk.invariant _ _ _ o w.in-Singleton.is _ w.add.ensures _ (let a = w.ok_or.ensures.value in let b = w.in_ok-set-in-Singleton.was in grind arith))
      | in-Listed+else-contains w ↦ rw (w.listed-is, w.count-is, w.set-is) (loop.behind-listed _ _ _ _ _ _ _ _ c.walk.invariant _ _ _ o w.in-Listed.is _ w.contains.ensures.value w.if-contains.false)
      | in-Plain w ↦ rw (w.listed-is, w.count-is, w.set-is) (loop.behind-plain _ _ _ _ _ _ _ _ c.walk.invariant _ _ _ o w.in-Plain.is)
    ]

pub walk-init : goal.walk-init
walk-init c = loop.walking_start _ _ c.requires c.no_keys-listed.ensures _ c.unread-parts.ensures

pub returns-in-Misplaced : goal.returns-in-Misplaced
unfolding outcome_of
returns-in-Misplaced c =
    rw (c.misplaced.ensures.0, c.misplaced.ensures.1)
    (sym (c.walk.invariant.outcome ∙ loop.turn-misplaced _ _ _ _ _ _ (told_at (goal.at.returns-in-Misplaced c).After-verdict_of) _ _ _ _ c.in-Misplaced.is))

pub returns-in-Unfinished : goal.returns-in-Unfinished
unfolding outcome_of
returns-in-Unfinished c = sym (c.walk.invariant.outcome ∙ loop.turn-unfinished _ _ _ _ _ _ (told_at (goal.at.returns-in-Unfinished c).After-verdict_of) _ _ _ _ c.in-Unfinished.is)

pub returns-in_err-set-in-Singleton : goal.returns-in_err-set-in-Singleton
unfolding outcome_of
returns-in_err-set-in-Singleton c =
    let a = c.ok_or.ensures.value in
    let b = c.in_err-set-in-Singleton.was in
    let e = err_from_is_err_and c.from_residual.result c.from_residual.ensures.1 in
    let none : c.add.result ≡ None = grind arith in
    let why : c.in_err-set-in-Singleton.field-0.0 ≡ Repeated c.walk.at = grind arith in
    rw (e.1, e.2, why) (sym (c.walk.invariant.outcome ∙ loop.turn-repeat _ _ _ _ _ _ (told_at (goal.at.returns-in_err-set-in-Singleton c).After-verdict_of) _ _ _ _ c.in-Singleton.is _ c.add.ensures none))

pub returns-then-contains : goal.returns-then-contains
unfolding outcome_of
returns-then-contains c = sym (loop.again _ _ _ _ _ _ _ _ c.walk.invariant _ _ _ (told_at (goal.at.returns-then-contains c).After-verdict_of) c.in-Listed.is _ c.contains.ensures.value c.if-contains.true)

pub overflow_add-at : goal.overflow_add-at
overflow_add-at c = let t = told_at (goal.at.overflow_add-at c).After-verdict_of in omega arith

pub returns-then-id-at : goal.returns-then-id-at
unfolding outcome_of
returns-then-id-at c = c.finish.ensures ∙ sym (loop.walk-last _ _ _ _ _ _ _ _ (joined (goal.at.returns-then-id-at c).Joined-verdict_of) (told_at (goal.at.returns-then-id-at c).After-verdict_of).len_is _ c.cut-parts.ensures c.if-id-at.true)

pub walk-preserved : goal.walk-preserved
walk-preserved c = loop.walk-next _ _ _ _ _ _ _ _ (joined (goal.at.walk-preserved c).Joined-verdict_of) (told_at (goal.at.walk-preserved c).After-verdict_of).len_is _ c.cut-parts.ensures c.walk.invariant.short c.walk.invariant.within c.walk.invariant.variants c.if-id-at.false
