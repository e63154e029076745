-- The transition's definitions, by the branches through which the code decides them. Assumes nothing.
use mathlib.Core.Path.{◌≡◌, sym, ◌∙◌}
use mathlib.Core.Bool.{Bool, true, false}
use Prim.Native.Nat.{ℕ}
use borrow.Author.Tests.{eq-eqb, ne_eqb}
use Rattle.standard.specs.Reading.{accept}
use Rattle.subtag.specs.declared.Kind.{Kind}
use Rattle.subtag.specs.declared.Kind.TheVariants as kinds
use Rattle.subtag.specs.declared.Subtag.{Subtag}
use Rattle.subtag.specs.Kinds.{kind_from, kind_is, field_from}
use Rattle.reader.specs.declared.steps.Stage.{Stage}
use Rattle.reader.specs.declared.steps.Stage.TheVariants.{Language, Script, Region, Variant, Root}
use Rattle.reader.specs.declared.steps.State.{State}
use Rattle.reader.specs.declared.steps.State.TheVariants.{Part, Key, Misplaced}
use Rattle.reader.specs.Walk.{stage_of, stage_by, placed}
use Rattle.reader.specs.Steps.{kind_stage, accepts, stage_from, part_from, misplaced_from}

-- A subtag of a language part.
placed-kind : (here : Stage → State) (s : Stage) (k : Kind) (b : Bool) → accepts s k ≡ b
    → placed here (accept (stage_of s) (kind_is k)) (kind_is k) ≡ elim b [ true ↦ here (kind_stage k) | false ↦ Misplaced ]
unfolding placed accept stage_of stage_by
placed-kind here Language kinds.Script b e = rw (← e)
placed-kind here Language kinds.Region b e = rw (← e)
placed-kind here Language kinds.Variant b e = rw (← e)
placed-kind here Language kinds.Neither b e = rw (← e)
placed-kind here Script kinds.Script b e = rw (← e)
placed-kind here Script kinds.Region b e = rw (← e)
placed-kind here Script kinds.Variant b e = rw (← e)
placed-kind here Script kinds.Neither b e = rw (← e)
placed-kind here Region kinds.Script b e = rw (← e)
placed-kind here Region kinds.Region b e = rw (← e)
placed-kind here Region kinds.Variant b e = rw (← e)
placed-kind here Region kinds.Neither b e = rw (← e)
placed-kind here Variant kinds.Script b e = rw (← e)
placed-kind here Variant kinds.Region b e = rw (← e)
placed-kind here Variant kinds.Variant b e = rw (← e)
placed-kind here Variant kinds.Neither b e = rw (← e)
placed-kind here Root k b e = rw (← e)

module _ (here : Stage → State) (s : Stage) (t : Subtag) (k : Kind) (e : kind_is k ≡ kind_from t) (r : Bool) (f : r ≡ accepts s k) where
  pub stage-taken : r ≡ true → (g : Stage) → g ≡ kind_stage k → here g ≡ stage_from here s t
  unfolding stage_from
  stage-taken h g i = rw (← e) (rw (placed-kind here s k true (sym f ∙ h), i))

  pub stage-left : r ≡ false → Misplaced ≡ stage_from here s t
  unfolding stage_from
  stage-left h = rw (← e) (rw (placed-kind here s k false (sym f ∙ h)))

module _ (t : Subtag) (r : Bool) where
  pub part-key : (s : Stage) → r ≡ field_from t → r ≡ true → Key ≡ part_from s t
  unfolding part_from
  part-key s e f = rw (← e, f, part_from)

  pub part-stage : (s : Stage) → r ≡ field_from t → r ≡ false → (n : State) → n ≡ stage_from Part s t → n ≡ part_from s t
  unfolding part_from
  part-stage s e f n g = rw (← e, f, part_from) g

-- the number of a misplaced subtag, by its place and the marks of the singletons before it
module _ (set at : ℕ) where
  pub number-first : at ≡ 0 → 5 ≡ misplaced_from set at
  unfolding misplaced_from
  number-first e = rw (eq-eqb at 0 e)

  module _ (h : at ≡ 0 → ⊥) where
    pub number-later : set ≡ 0 → 15 ≡ misplaced_from set at
    unfolding misplaced_from
    number-later e = rw (ne_eqb at 0 h, eq-eqb set 0 e)

    pub number-extension : (set ≡ 0 → ⊥) → 16 ≡ misplaced_from set at
    unfolding misplaced_from
    number-extension k = rw (ne_eqb at 0 h, ne_eqb set 0 k)
