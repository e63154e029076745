-- `table::hints::fill_hints` meets its contract. The hints are right for the keys that end before i. Assumes nothing.
use mathlib.Core.Path.{refl, ap, ◌∙◌}
use native.Mathlib.Omega.{arith}
use Prim.Native.Nat.{◌<◌}
use lib.ListN.{length, set, length-set}
use Rattle.table.specs.Hints.{place_of}
use Rattle.table.proofs.Hinting.{room-same, fill_start, past-line, past-tab, past-other, fill_done}
use Rattle.table.proofs.hints.fill_hints.Goals as goal
use Rattle.table.proofs.hints.fill_hints.Goals.{In-loop-i, then-b-eq9, else-b-eq9}

-- the place of the line's slot is one of the hints
within : (c : In-loop-i) → place_of (length c.loop-i.hints) c.loop-i.slot < length c.loop-i.hints
within c = room-same _ c.loop-i.hints _ _ c.requires c.loop-i.invariant.0 c.loop-i.invariant.1 refl

pub loop-i-init : goal.loop-i-init
loop-i-init c = (refl, omega arith, fill_start _ _ c.requires)

pub loop-i-preserved-then-b-gt10 : goal.loop-i-preserved-then-b-gt10
loop-i-preserved-then-b-gt10 c =
    let i = c.loop-i.invariant in
    let g = within (goal.at.loop-i-preserved-then-b-gt10 c).In-loop-i in
    (i.0, c.step-slot.ensures.1, past-other _ _ _ _ _ i.2 c.loop-i-test.true _ refl g _ _ _ (λ e. omega arith) (λ e. omega arith) refl refl c.step-slot.ensures.0)

pub loop-i-preserved-then-b-eq10 : goal.loop-i-preserved-then-b-eq10
loop-i-preserved-then-b-eq10 c =
    let i = c.loop-i.invariant in
    let g = within (goal.at.loop-i-preserved-then-b-eq10 c).In-loop-i in
    (i.0, omega arith, past-line _ _ _ _ _ i.2 c.loop-i-test.true _ refl g _ _ _ c.if-b-eq10.true refl refl refl)

pub loop-i-preserved : goal.loop-i-preserved
loop-i-preserved c =
    let l = c.loop-i in
    let i = l.invariant in
    let h = c.loop-i-test.true in
    let g = within (goal.at.loop-i-preserved c).In-loop-i in
    let s = c.step-slot-in-loop-i.ensures in
    elim c.if-b-eq9.branch [
      | then-b-eq9 w ↦ (
        ap length w.hints-is ∙ length-set l.hints _ _ ∙ i.0,
        s.1,
        past-tab _ _ _ _ _ i.2 h _ w.place_of-at.ensures (rw w.place_of-at.ensures g) _ _ _ w.if-b-eq9.true (w.hints-is ∙ ap (set l.hints w.place_of-at.result) w.hint_of.ensures) refl s.0,
      )
      | else-b-eq9 w ↦ (ap length w.hints-is ∙ i.0, s.1, past-other _ _ _ _ _ i.2 h _ refl g _ _ _ c.if-b-eq10.false w.if-b-eq9.false w.hints-is refl s.0)
    ]

pub returns : goal.returns
returns c = fill_done _ _ _ _ _ c.loop-i.invariant.2 c.loop-i-test.false
