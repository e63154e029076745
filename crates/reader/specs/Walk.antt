-- Reading as one walk over the subtags, from left to right: a state, what the next subtag makes of it, and what is held
-- against the earlier ones. `proofs/` shows that it says what the standard says. Assumes nothing.
use Rattle.std.specs.Prelude.{Bool, true, false, List, [], ◌∷◌, ℕ, zero, suc, ◌+◌, length}
use Rattle.std.proofs.Math.Option.{Option, none, some}
use Rattle.standard.specs.Tag.{Tag, same}
use Rattle.standard.specs.Grammar.{is_language, Kind, a_script, a_region, a_variant, a_none, kind_of, is_singleton, is_two, is_field_key, u_tag, t_tag}
use Rattle.standard.specs.Reading as reading
use Rattle.standard.specs.Reading.{Fault, fault, member, accept, after_language, after_script, after_region, after_root, by_part, wrong_keyword, is_x, root}
use Rattle.reader.specs.declared.Parts.{Parts}
use Rattle.reader.specs.declared.Start.{Start}
use Rattle.reader.specs.declared.Start.TheVariants as starts
use Rattle.reader.specs.declared.steps.Stage.{Stage}
use Rattle.reader.specs.declared.steps.Stage.TheVariants.{Language, Script, Region, Variant, Root}
use Rattle.reader.specs.declared.steps.Verdict.{Verdict}
use Rattle.reader.specs.declared.steps.Verdict.TheVariants as verdicts
use Rattle.reader.specs.declared.steps.Verdict.TheVariants.{Singleton, Listed, Plain}
use Rattle.reader.specs.declared.steps.State.{State}
use Rattle.reader.specs.declared.steps.State.TheVariants.{First, Main, Unicode, Keywords, Transform, Part, Key, Field, Other, Others, Private, Privates, Misplaced, Unfinished}

-- the standard's stage: variants stand where a region has gone by
unfoldable pub stage_of : Stage → reading.Stage
stage_of Language = after_language
stage_of Script = after_script
stage_of Region = after_region
stage_of Variant = after_region
stage_of Root = after_root

-- the stage that a subtag of the kind leads to
unfoldable pub stage_by : Kind → Stage
stage_by a_script = Script
stage_by a_region = Region
stage_by a_variant = Variant
stage_by a_none = Language

-- a subtag of a language part, where one may be missing
unfoldable pub placed : (Stage → State) → Option reading.Stage → Kind → State
placed here none k = Misplaced
placed here (some s) k = here (stage_by k)

-- the first subtag
unfoldable pub first_state : Tag → State
first_state t =
    elim (is_language t) [
      | true ↦ Main Language
      | false ↦ elim (same t root) [ true ↦ Main Root | false ↦ elim (kind_of t) [ a_script ↦ Main Script | a_region ↦ Misplaced | a_variant ↦ Misplaced | a_none ↦ Misplaced ] ]
    ]

-- a subtag of a field, its key or its value, after this
unfoldable pub field_state : State → Tag → State
field_state key t = elim (is_field_key t) [ true ↦ key | false ↦ elim (is_two t) [ true ↦ Misplaced | false ↦ Field ] ]

-- what a singleton begins
unfoldable pub opens : Tag → State
opens t =
    elim (same t u_tag) [
      | true ↦ Unicode
      | false ↦ elim (same t t_tag) [ true ↦ Transform | false ↦ elim (is_x t) [ true ↦ Private | false ↦ Other ] ]
    ]

-- the next state after a singleton that begins the state `opened`
abbrev pub after_singleton : State → State → State
after_singleton First opened = Misplaced
after_singleton (Main s) opened = opened
after_singleton Unicode opened = Unfinished
after_singleton Keywords opened = opened
after_singleton Transform opened = Unfinished
after_singleton (Part s) opened = opened
after_singleton Key opened = Unfinished
after_singleton Field opened = opened
after_singleton Other opened = Unfinished
after_singleton Others opened = opened
after_singleton Private opened = Privates
after_singleton Privates opened = Privates
after_singleton Misplaced opened = Misplaced
after_singleton Unfinished opened = Unfinished

-- the next state after any other subtag
unfoldable pub after_other : State → Tag → State
after_other First t = first_state t
after_other (Main s) t = placed Main (accept (stage_of s) (kind_of t)) (kind_of t)
after_other Unicode t = elim (wrong_keyword t) [ true ↦ Misplaced | false ↦ Keywords ]
after_other Keywords t = elim (wrong_keyword t) [ true ↦ Misplaced | false ↦ Keywords ]
after_other Transform t = elim (is_field_key t) [ true ↦ Key | false ↦ elim (is_language t) [ true ↦ Part Language | false ↦ Misplaced ] ]
after_other (Part s) t = elim (is_field_key t) [ true ↦ Key | false ↦ placed Part (accept (stage_of s) (kind_of t)) (kind_of t) ]
after_other Key t = field_state Unfinished t
after_other Field t = field_state Key t
after_other Other t = Others
after_other Others t = Others
after_other Private t = Privates
after_other Privates t = Privates
after_other Misplaced t = Misplaced
after_other Unfinished t = Unfinished

-- the transition: a state and a subtag
unfoldable pub next_state : State → Tag → State
next_state st t = elim (is_singleton t) [ true ↦ after_singleton st (opens t) | false ↦ after_other st t ]

-- what has begun and needs a subtag more
abbrev pub pending : State → Bool
pending First = false
pending (Main s) = false
pending Unicode = true
pending Keywords = false
pending Transform = true
pending (Part s) = false
pending Key = true
pending Field = false
pending Other = true
pending Others = false
pending Private = true
pending Privates = false
pending Misplaced = false
pending Unfinished = false

-- what is to be done about the subtag that led to a state
abbrev pub stage_verdict : Stage → Verdict
stage_verdict Language = Plain
stage_verdict Script = Plain
stage_verdict Region = Plain
stage_verdict Variant = Listed
stage_verdict Root = Plain

-- the same of any state
abbrev pub verdict_of : State → Verdict
verdict_of First = Plain
verdict_of (Main s) = stage_verdict s
verdict_of Unicode = Singleton
verdict_of Keywords = Plain
verdict_of Transform = Singleton
verdict_of (Part s) = stage_verdict s
verdict_of Key = Listed
verdict_of Field = Plain
verdict_of Other = Singleton
verdict_of Others = Plain
verdict_of Private = Singleton
verdict_of Privates = Plain
verdict_of Misplaced = verdicts.Misplaced
verdict_of Unfinished = verdicts.Unfinished

-- 02, T-03: 5 only for the first subtag, 15 for a later one before any singleton, 16 for one after a singleton; by the
-- singletons before it and its place
unfoldable pub misplaced_number : List Tag → ℕ → ℕ
misplaced_number singles zero = by_part.first
misplaced_number [] (suc at) = by_part.later
misplaced_number (s ∷ singles) (suc at) = by_part.extension

-- number 6
unfoldable pub repeated : ℕ → Bool → Option Fault
repeated at true = fault 6 at
repeated at false = none

-- the refusal at a subtag: itself at `at`, the one before it at `back`; after these singletons, and these variants or keys
unfoldable pub verdict_fault : Verdict → List Tag → List Tag → ℕ → ℕ → Tag → Option Fault
verdict_fault verdicts.Misplaced singles listed back at t = fault (misplaced_number singles at) at
verdict_fault verdicts.Unfinished singles listed back at t = fault 7 back
verdict_fault Singleton singles listed back at t = repeated at (member t singles)
verdict_fault Listed singles listed back at t = repeated at (member t listed)
verdict_fault Plain singles listed back at t = none

-- the singletons after the subtag
unfoldable pub singles_after : Verdict → Tag → List Tag → List Tag
singles_after verdicts.Misplaced t singles = singles
singles_after verdicts.Unfinished t singles = singles
singles_after Singleton t singles = t ∷ singles
singles_after Listed t singles = singles
singles_after Plain t singles = singles

-- a new extension has none before it
unfoldable pub listed_after : Verdict → Tag → List Tag → List Tag
listed_after verdicts.Misplaced t listed = listed
listed_after verdicts.Unfinished t listed = listed
listed_after Singleton t listed = []
listed_after Listed t listed = t ∷ listed
listed_after Plain t listed = listed

-- the first refusal in the subtags from the place `at` on
unfoldable pub walk_fault : State → List Tag → List Tag → ℕ → ℕ → List Tag → Option Fault
walk_fault st singles listed back at [] = elim (pending st) [ true ↦ fault 7 back | false ↦ none ]
walk_fault st singles listed back at (t ∷ ts) =
    let next = next_state st t in
    let v = verdict_of next in
    elim (verdict_fault v singles listed back at t) [
      | some f ↦ some f
      | none ↦ walk_fault next (singles_after v t singles) (listed_after v t listed) at (at + suc (length t)) ts
    ]

-- The ends of the parts after a subtag that led to a state and ended at `end`: a later part ends where it may yet begin.
abbrev pub first_cut : Start → ℕ → Parts → Parts
first_cut start end p =
    record { start = start; language = end; script = end; region = end; variants = end; extensions = end; variant_count = p.variant_count; extension_count = p.extension_count }

-- in the main language part
unfoldable pub cut_stage : Stage → ℕ → Parts → Parts
cut_stage Language end p = first_cut starts.Language end p
cut_stage Script end p =
    record { start = p.start; language = p.language; script = end; region = end; variants = end; extensions = end; variant_count = p.variant_count; extension_count = p.extension_count }
cut_stage Region end p =
    record { start = p.start; language = p.language; script = p.script; region = end; variants = end; extensions = end; variant_count = p.variant_count; extension_count = p.extension_count }
cut_stage Variant end p =
    record { start = p.start; language = p.language; script = p.script; region = p.region; variants = end; extensions = end; variant_count = p.variant_count + 1; extension_count = p.extension_count }
cut_stage Root end p = first_cut starts.Root end p

-- in the extensions
unfoldable pub extended : ℕ → Parts → Parts
extended end p =
    record { start = p.start; language = p.language; script = p.script; region = p.region; variants = p.variants; extensions = end; variant_count = p.variant_count; extension_count = p.extension_count }

-- in any state
unfoldable pub cut : State → ℕ → Parts → Parts
cut First end p = p
cut (Main s) end p = cut_stage s end p
cut Unicode end p = extended end p
cut Keywords end p = extended end p
cut Transform end p = extended end p
cut (Part s) end p = extended end p
cut Key end p = extended end p
cut Field end p = extended end p
cut Other end p = extended end p
cut Others end p = extended end p
cut Private end p = p
cut Privates end p = p
cut Misplaced end p = p
cut Unfinished end p = p

-- the number of extensions, at the end
unfoldable pub counted : ℕ → Parts → Parts
counted n p =
    record { start = p.start; language = p.language; script = p.script; region = p.region; variants = p.variants; extensions = p.extensions; variant_count = p.variant_count; extension_count = n }

-- nothing is read: a script first leaves the language empty
unfoldable pub unread : Parts
unread = record { start = starts.Script; language = 0; script = 0; region = 0; variants = 0; extensions = 0; variant_count = 0; extension_count = 0 }

-- the parts, where there is no refusal; an extension for each singleton
unfoldable pub walk_parts : State → Parts → List Tag → ℕ → List Tag → Parts
walk_parts st p singles at [] = counted (length singles) p
walk_parts st p singles at (t ∷ ts) =
    let next = next_state st t in
    walk_parts next (cut next (at + length t) p) (singles_after (verdict_of next) t singles) (at + suc (length t)) ts
