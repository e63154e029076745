-- The walk in the code's terms: the transition by what the code keeps of a subtag, the singletons as marks in a number,
-- the variants and keys as their numbers. `proofs/Stepping.antt` shows that it is the walk over the standard's subtags.
-- Assumes nothing.
use Rattle.std.specs.Prelude.{Bool, true, false, cond, not, ◌&&◌, ◌||◌, List, [], ◌∷◌, ◌++◌, ℕ, suc, ◌+◌, eqb, length, Some, None}
use Rattle.std.specs.Int.Count.{ones}
use Rattle.standard.specs.Tag.{Tag}
use Rattle.standard.specs.Grammar as grammar
use Rattle.standard.specs.Grammar.{a_script, a_region, a_variant, a_none}
use Rattle.standard.specs.Reading.{accept, by_part, split}
use Rattle.subtag.specs.declared.Kind.{Kind}
use Rattle.subtag.specs.declared.Kind.TheVariants as kinds
use Rattle.subtag.specs.declared.Subtag.{Subtag}
use Rattle.subtag.specs.Subtags.{first_byte, key_of, subtag_of}
use Rattle.subtag.specs.Kinds.{language_from, kind_from, keyword_from, field_from}
use Rattle.reader.specs.declared.Parts.{Parts}
use Rattle.reader.specs.declared.steps.Verdict.TheVariants as verdicts
use Rattle.reader.specs.declared.steps.Stage.{Stage}
use Rattle.reader.specs.declared.steps.Stage.TheVariants.{Language, Script, Region, Variant, Root}
use Rattle.reader.specs.declared.steps.State.{State}
use Rattle.reader.specs.declared.steps.State.TheVariants.{First, Main, Unicode, Keywords, Transform, Part, Key, Field, Other, Others, Private, Privates, Misplaced, Unfinished}
use Rattle.reader.specs.Marks.{marked_with}
use Rattle.reader.specs.Parts.{Outcome, parts, refused}
use Rattle.reader.specs.Walk.{stage_of, placed, after_singleton, pending, verdict_of, cut, counted, unread}

-- the stage that a subtag of the kind leads to, and whether it may stand there
abbrev pub kind_stage : Kind → Stage
kind_stage kinds.Script = Script
kind_stage kinds.Region = Region
kind_stage kinds.Variant = Variant
kind_stage kinds.Neither = Language

-- script, region and variants, in this order; after `root` none of them
abbrev pub accepts : Stage → Kind → Bool
accepts Language kinds.Script = true
accepts Language kinds.Region = true
accepts Language kinds.Variant = true
accepts Language kinds.Neither = false
accepts Script kinds.Script = false
accepts Script kinds.Region = true
accepts Script kinds.Variant = true
accepts Script kinds.Neither = false
accepts Region kinds.Script = false
accepts Region kinds.Region = false
accepts Region kinds.Variant = true
accepts Region kinds.Neither = false
accepts Variant kinds.Script = false
accepts Variant kinds.Region = false
accepts Variant kinds.Variant = true
accepts Variant kinds.Neither = false
accepts Root k = false

-- the number of the subtag `root`
abbrev pub root_key : ℕ
root_key = 8245931986745556992

-- The transition, case by case as in `Walk.antt`.
unfoldable pub script_first : grammar.Kind → State
script_first a_script = Main Script
script_first a_region = Misplaced
script_first a_variant = Misplaced
script_first a_none = Misplaced

-- the first subtag
unfoldable pub first_from : Subtag → State
first_from t = elim (language_from t) [ true ↦ Main Language | false ↦ elim (eqb t.key root_key) [ true ↦ Main Root | false ↦ script_first (kind_from t) ] ]

-- a later subtag of a language part
unfoldable pub stage_from : (Stage → State) → Stage → Subtag → State
stage_from here s t = placed here (accept (stage_of s) (kind_from t)) (kind_from t)

-- in the language part of `t`
unfoldable pub part_from : Stage → Subtag → State
part_from s t = elim (field_from t) [ true ↦ Key | false ↦ stage_from Part s t ]

-- in `u`
unfoldable pub keywords_from : Subtag → State
keywords_from t = elim (eqb t.len 2 && not (keyword_from t)) [ true ↦ Misplaced | false ↦ Keywords ]

-- straight after `t`
unfoldable pub transform_from : Subtag → State
transform_from t = elim (field_from t) [ true ↦ Key | false ↦ elim (language_from t) [ true ↦ Part Language | false ↦ Misplaced ] ]

-- in a field, where the next key leads to `key`
unfoldable pub value_from : State → Subtag → State
value_from key t = elim (field_from t) [ true ↦ key | false ↦ elim (eqb t.len 2) [ true ↦ Misplaced | false ↦ Field ] ]

-- a subtag that is no singleton
unfoldable pub other_from : State → Subtag → State
other_from First t = first_from t
other_from (Main s) t = stage_from Main s t
other_from Unicode t = keywords_from t
other_from Keywords t = keywords_from t
other_from Transform t = transform_from t
other_from (Part s) t = part_from s t
other_from Key t = value_from Unfinished t
other_from Field t = value_from Key t
other_from Other t = Others
other_from Others t = Others
other_from Private t = Privates
other_from Privates t = Privates
other_from Misplaced t = Misplaced
other_from Unfinished t = Unfinished

-- what a singleton begins, by its byte
unfoldable pub opens_from : ℕ → State
opens_from b = elim (eqb b 117) [ true ↦ Unicode | false ↦ elim (eqb b 116) [ true ↦ Transform | false ↦ elim (eqb b 120) [ true ↦ Private | false ↦ Other ] ] ]

-- the transition
unfoldable pub next_from : State → Subtag → State
next_from st t = elim (eqb t.len 1) [ true ↦ after_singleton st (opens_from t.first) | false ↦ other_from st t ]

-- Is the number among these?
unfoldable pub among : ℕ → List ℕ → Bool
among k [] = false
among k (x ∷ xs) = eqb x k || among k xs

-- 02, T-03: the number of a misplaced subtag, by the marks of the singletons before it and its place
unfoldable pub misplaced_from : ℕ → ℕ → ℕ
misplaced_from set at = cond (eqb at 0) by_part.first (cond (eqb set 0) by_part.later by_part.extension)

-- after the last subtag, which began at `back`
unfoldable pub ended : State → Parts → ℕ → ℕ → Outcome
ended st p set back = elim (pending st) [ true ↦ refused 7 back | false ↦ parts (counted (ones set) p) ]

-- The walk over the subtags from the place `at` on, by the marks of the singletons and the numbers of the variants or keys before.
unfoldable pub steps : State → Parts → ℕ → List ℕ → ℕ → ℕ → List Tag → Outcome
steps st p set keys back at [] = ended st p set back
steps st p set keys back at (t ∷ ts) =
    let n = next_from st (subtag_of t) in
    let q = cut n (at + length t) p in
    elim (verdict_of n) [
      | verdicts.Misplaced ↦ refused (misplaced_from set at) at
      | verdicts.Unfinished ↦ refused 7 back
      | verdicts.Singleton ↦ elim (marked_with set (first_byte t)) [ Some m ↦ steps n q m [] at (at + suc (length t)) ts | None ↦ refused 6 at ]
      | verdicts.Listed ↦ elim (among (key_of t) keys) [ true ↦ refused 6 at | false ↦ steps n q set (keys ++ (key_of t ∷ [])) at (at + suc (length t)) ts ]
      | verdicts.Plain ↦ steps n q set keys at (at + suc (length t)) ts
    ]

-- of an input
unfoldable pub steps_of : List ℕ → Outcome
steps_of x = steps First unread 0 [] 0 0 (split x)
