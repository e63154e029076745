-- Where the walk finds no fault, the ends that it keeps are the standard's parts. Assumes nothing.
use mathlib.Core.Path.{◌≡◌, refl, sym, ap, ◌∙◌}
use mathlib.Core.Bool.{Bool, true, false}
use mathlib.Core.List.{List, [], ◌∷◌}
use mathlib.Core.Option.{Option, none, some, none-ne-some, some-ne-none}
use Prim.Native.Nat.{ℕ, suc, ◌+◌}
use native.Mathlib.Omega.{arith}
use lib.ListN.{length}
use Rattle.standard.specs.Tag.{Tag, same, head_tag}
use Rattle.standard.specs.Grammar.{Kind, a_script, a_region, a_variant, a_none, size_of, kind, kind_of, variant_kind, is_variant, is_language, is_singleton, is_two, is_field_key, u_tag, t_tag, grouped, flat, only}
use Rattle.standard.specs.Identifier.{part, parts}
use Rattle.standard.specs.Reading as reading
use Rattle.standard.specs.Reading.{Fault, accept, wrong_keyword, is_x, up_to, from, root, of_kind, find, after_first, identifier_of, by_part, grammar_fault}
use Rattle.standard.specs.Report.{private_count}
use Rattle.standard.proofs.General.{clash, bool_cases}
use Rattle.standard.proofs.Shapes.{known, single-not-x}
use Rattle.standard.proofs.Arranged.{first_of-none}
use Rattle.reader.specs.declared.Parts.{Parts}
use Rattle.reader.specs.declared.steps.Stage.{Stage}
use Rattle.reader.specs.declared.steps.Stage.TheVariants.{Language, Script, Region, Variant, Root}
use Rattle.reader.specs.declared.steps.State.{State}
use Rattle.reader.specs.declared.steps.State.TheVariants.{First, Main, Unicode, Keywords, Transform, Part, Key, Field, Other, Others, Private, Privates, Misplaced, Unfinished}
use Rattle.reader.specs.Walk.{stage_of, stage_by, placed, first_state, field_state, opens, after_singleton, after_other, next_state, stage_verdict, verdict_of, verdict_fault, singles_after, listed_after, walk_fault, cut_stage, extended, cut, counted, unread, walk_parts}
use Rattle.reader.specs.Cuts.{language_cut, cuts_after, cuts_of}
use Rattle.reader.specs.Parts.{parts as parted, start_of, parts_of, outcome_as}
use Rattle.reader.proofs.Bodies.{body, heads, body_more, body-single, heads-more, heads-head, heads-x, from_more, from-head, from-x}
use Rattle.reader.proofs.Walked.{step, stepped, next-single, next-other, after_private, after_privates, singles-stage, x-only, parts-up_to, walk-grammar}

-- no refusal at a subtag, and none behind it
record Passed (st : State) (singles listed : List Tag) (back at : ℕ) (t : Tag) (ts : List Tag) : Type 0 where
  here : verdict_fault (verdict_of (next_state st t)) singles listed back at t ≡ none
  on : walk_fault (next_state st t) (singles_after (verdict_of (next_state st t)) t singles) (listed_after (verdict_of (next_state st t)) t listed) at (at + suc (length t)) ts ≡ none

passed : (st : State) (singles listed : List Tag) (back at : ℕ) (t : Tag) (ts : List Tag) → walk_fault st singles listed back at (t ∷ ts) ≡ none → Passed st singles listed back at t ts
unfolding stepped
passed st singles listed back at t ts e =
    let h = first_of-none (verdict_fault (verdict_of (next_state st t)) singles listed back at t) _ (sym (step st singles listed back at t ts (next_state st t) refl) ∙ e) in
    record { here = h.0; on = h.1 }

-- What a language part adds: the lengths of script, region and variants with their separators, and the count.
unfoldable script_part : List Tag → ℕ
script_part b = part (find a_script b)

unfoldable region_part : List Tag → ℕ
region_part b = part (find a_region b)

unfoldable variant_parts : List Tag → ℕ
variant_parts b = parts (only is_variant b)

unfoldable variant_count : List Tag → ℕ
variant_count b = length (only is_variant b)

record Adds (t : Tag) (b : List Tag) (s r v n : ℕ) : Type 0 where
  script : script_part (t ∷ b) ≡ s
  region : region_part (t ∷ b) ≡ r
  variants : variant_parts (t ∷ b) ≡ v
  count : variant_count (t ∷ b) ≡ n

find-step : (k : Kind) (t : Tag) (b : List Tag) (y : Bool) → of_kind k (kind_of t) ≡ y → find k (t ∷ b) ≡ elim y [ true ↦ t | false ↦ find k b ]
unfolding find
find-step k t b y e = ap (λ (z : Bool). elim z [ true ↦ t | false ↦ find k b ]) e

only_step : (t : Tag) (b : List Tag) (y : Bool) → is_variant t ≡ y → only is_variant (t ∷ b) ≡ elim y [ true ↦ t ∷ only is_variant b | false ↦ only is_variant b ]
unfolding only
only_step t b y e = ap (λ (z : Bool). elim z [ true ↦ t ∷ only is_variant b | false ↦ only is_variant b ]) e

part_of : (t : Tag) (k : Kind) → kind_of t ≡ k → known k ≡ true → part t ≡ suc (length t)
unfolding part kind_of kind size_of known
part_of [] k e f = clash {b = true} refl (sym (rw (← e) at f))
part_of (b ∷ bs) k e f = refl

module _ (t : Tag) (b : List Tag) where
  adds-script : kind_of t ≡ a_script → Adds t b (suc (length t)) (region_part b) (variant_parts b) (variant_count b)
  unfolding script_part region_part variant_parts variant_count of_kind is_variant variant_kind known
  adds-script e = record {
    script = ap part (find-step a_script t b true (ap (of_kind a_script) e)) ∙ part_of t a_script e refl;
    region = ap part (find-step a_region t b false (ap (of_kind a_region) e));
    variants = ap parts (only_step t b false (ap variant_kind e));
    count = ap length (only_step t b false (ap variant_kind e));
  }

  adds-region : kind_of t ≡ a_region → Adds t b (script_part b) (suc (length t)) (variant_parts b) (variant_count b)
  unfolding script_part region_part variant_parts variant_count of_kind is_variant variant_kind known
  adds-region e = record {
    script = ap part (find-step a_script t b false (ap (of_kind a_script) e));
    region = ap part (find-step a_region t b true (ap (of_kind a_region) e)) ∙ part_of t a_region e refl;
    variants = ap parts (only_step t b false (ap variant_kind e));
    count = ap length (only_step t b false (ap variant_kind e));
  }

  adds-variant : kind_of t ≡ a_variant → Adds t b (script_part b) (region_part b) (suc (length t) + variant_parts b) (suc (variant_count b))
  unfolding script_part region_part variant_parts variant_count of_kind is_variant variant_kind parts
  adds-variant e = record {
    script = ap part (find-step a_script t b false (ap (of_kind a_script) e));
    region = ap part (find-step a_region t b false (ap (of_kind a_region) e));
    variants = ap parts (only_step t b true (ap variant_kind e));
    count = ap length (only_step t b true (ap variant_kind e));
  }

-- The parts at the end, by the parts so far and what is added: script, region, variants, what stands behind them, and the counts.
record Ends (final p : Parts) (s r v x n e : ℕ) : Type 0 where
  start : final.start ≡ p.start
  language : final.language ≡ p.language
  script : final.script ≡ p.script + s
  region : final.region ≡ p.region + s + r
  variants : final.variants ≡ p.variants + s + r + v
  extensions : final.extensions ≡ p.extensions + s + r + v + x
  count : final.variant_count ≡ p.variant_count + n
  number : final.extension_count ≡ e

-- extensions and private use behind: how many there are
unfoldable behind_count : List Tag → ℕ
behind_count ts = length (heads ts) + private_count (from is_x ts)

-- in an extension, or in private use
unfoldable in_extension : State → Bool
in_extension First = false
in_extension (Main s) = false
in_extension Unicode = true
in_extension Keywords = true
in_extension Transform = true
in_extension (Part s) = true
in_extension Key = true
in_extension Field = true
in_extension Other = true
in_extension Others = true
in_extension Private = false
in_extension Privates = false
in_extension Misplaced = false
in_extension Unfinished = false

-- private use changes nothing
privates : (p : Parts) (singles : List Tag) (at : ℕ) (ts : List Tag) → walk_parts Privates p singles at ts ≡ counted (length singles) p
unfolding walk_parts cut verdict_of singles_after
privates p singles at [] = refl
privates p singles at (t ∷ ts) = rw (after_privates t) (privates p singles (at + suc (length t)) ts)

private : (p : Parts) (singles : List Tag) (at : ℕ) (ts : List Tag) → walk_parts Private p singles at ts ≡ counted (length singles) p
unfolding walk_parts cut verdict_of singles_after
private p singles at [] = refl
private p singles at (t ∷ ts) = rw (after_private t) (privates p singles (at + suc (length t)) ts)

-- a state in an extension that no singleton led to
record Inside (n : State) : Type 0 where
  ext : in_extension n ≡ true
  cuts : (end : ℕ) (p : Parts) → cut n end p ≡ extended end p
  kept : (t : Tag) (singles : List Tag) → singles_after (verdict_of n) t singles ≡ singles

module _ (singles listed : List Tag) (back at : ℕ) (t : Tag) where
  Passes : State → Type 0
  Passes n = verdict_fault (verdict_of n) singles listed back at t ≡ none

  no-misplaced : {P : Type 0} → Passes Misplaced → P
  unfolding Passes verdict_of verdict_fault
  no-misplaced e = absurd (some-ne-none _ e)

  no-unfinished : {P : Type 0} → Passes Unfinished → P
  unfolding Passes verdict_of verdict_fault
  no-unfinished e = absurd (some-ne-none _ e)

  in-keywords : (b : Bool) → Passes (elim b [ true ↦ Misplaced | false ↦ Keywords ]) → Inside (elim b [ true ↦ Misplaced | false ↦ Keywords ])
  unfolding in_extension cut verdict_of singles_after
  in-keywords true e = no-misplaced e
  in-keywords false e = record { ext = refl; cuts = λ n p. refl; kept = λ u s. refl }

  in-key : Inside Key
  unfolding in_extension cut verdict_of singles_after
  in-key = record { ext = refl; cuts = λ n p. refl; kept = λ u s. refl }

  in-part : (g : Stage) → Inside (Part g)
  unfolding in_extension cut verdict_of
  in-part g = record { ext = refl; cuts = λ n p. refl; kept = λ u s. singles-stage g u s }

  in-others : Inside Others
  unfolding in_extension cut verdict_of singles_after
  in-others = record { ext = refl; cuts = λ n p. refl; kept = λ u s. refl }

  in_field : (key : State) → (Passes key → Inside key) → Passes (field_state key t) → Inside (field_state key t)
  unfolding field_state in_extension cut verdict_of singles_after
  in_field key k e = go (is_field_key t) (is_two t) e
    where
      value : (b : Bool) → Passes (elim b [ true ↦ Misplaced | false ↦ Field ]) → Inside (elim b [ true ↦ Misplaced | false ↦ Field ])
      value true e = no-misplaced e
      value false e = record { ext = refl; cuts = λ n p. refl; kept = λ u s. refl }

      go : (b c : Bool) → Passes (elim b [ true ↦ key | false ↦ elim c [ true ↦ Misplaced | false ↦ Field ] ]) → Inside (elim b [ true ↦ key | false ↦ elim c [ true ↦ Misplaced | false ↦ Field ] ])
      go true c e = k e
      go false c e = value c e

  in-transform : (b c : Bool) → Passes (elim b [ true ↦ Key | false ↦ elim c [ true ↦ Part Language | false ↦ Misplaced ] ]) → Inside (elim b [ true ↦ Key | false ↦ elim c [ true ↦ Part Language | false ↦ Misplaced ] ])
  in-transform true c e = in-key
  in-transform false true e = in-part Language
  in-transform false false e = no-misplaced e

  in-placed : (b : Bool) (o : Option reading.Stage) (k : Kind) → Passes (elim b [ true ↦ Key | false ↦ placed Part o k ]) → Inside (elim b [ true ↦ Key | false ↦ placed Part o k ])
  unfolding placed
  in-placed true o k e = in-key
  in-placed false none k e = no-misplaced e
  in-placed false (some s) k e = in-part (stage_by k)

  inside : (st : State) → in_extension st ≡ true → Passes (after_other st t) → Inside (after_other st t)
  unfolding after_other in_extension
  inside First h e = clash {b = true} refl (sym h)
  inside (Main g) h e = clash {b = true} refl (sym h)
  inside Unicode h e = in-keywords (wrong_keyword t) e
  inside Keywords h e = in-keywords (wrong_keyword t) e
  inside Transform h e = in-transform (is_field_key t) (is_language t) e
  inside (Part g) h e = in-placed (is_field_key t) (accept (stage_of g) (kind_of t)) (kind_of t) e
  inside Key h e = in_field Unfinished no-unfinished e
  inside Field h e = in_field Key (λ k. in-key) e
  inside Other h e = in-others
  inside Others h e = in-others
  inside Private h e = clash {b = true} refl (sym h)
  inside Privates h e = clash {b = true} refl (sym h)
  inside Misplaced h e = clash {b = true} refl (sym h)
  inside Unfinished h e = clash {b = true} refl (sym h)

  -- a singleton stands only where nothing is left unfinished
  opened : (st : State) → in_extension st ≡ true → Passes (after_singleton st (opens t)) → after_singleton st (opens t) ≡ opens t
  unfolding after_singleton in_extension
  opened First h e = clash {b = true} refl (sym h)
  opened (Main g) h e = refl
  opened Unicode h e = no-unfinished e
  opened Keywords h e = refl
  opened Transform h e = no-unfinished e
  opened (Part g) h e = refl
  opened Key h e = no-unfinished e
  opened Field h e = refl
  opened Other h e = no-unfinished e
  opened Others h e = refl
  opened Private h e = clash {b = true} refl (sym h)
  opened Privates h e = clash {b = true} refl (sym h)
  opened Misplaced h e = clash {b = true} refl (sym h)
  opened Unfinished h e = clash {b = true} refl (sym h)

-- a singleton other than `x`
record Opens (n : State) : Type 0 where
  ext : in_extension n ≡ true
  cuts : (end : ℕ) (p : Parts) → cut n end p ≡ extended end p
  marks : (t : Tag) (singles : List Tag) → singles_after (verdict_of n) t singles ≡ t ∷ singles

opens-extension : (t : Tag) → is_x t ≡ false → Opens (opens t)
unfolding opens in_extension cut verdict_of singles_after
opens-extension t x =
    bool_cases (same t u_tag) (λ e. rw (e, opens) (record { ext = refl; cuts = λ n p. refl; marks = λ u s. refl }))
    (λ e. bool_cases (same t t_tag) (λ f. rw (e, f, opens) (record { ext = refl; cuts = λ n p. refl; marks = λ u s. refl }))
    (λ f. rw (e, f, x, opens) (record { ext = refl; cuts = λ n p. refl; marks = λ u s. refl })))

-- The law in an extension: what stands up to private use is added, and each singleton is counted.
abbrev ExtensionLaw : List Tag → Type 0
ExtensionLaw ts =
    (st : State) (p : Parts) (singles listed : List Tag) (back at : ℕ) → in_extension st ≡ true → suc p.extensions ≡ at → walk_fault st singles listed back at ts ≡ none
    → Ends (walk_parts st p singles at ts) p 0 0 0 (parts (up_to is_x ts)) 0 (length singles + behind_count ts)

ends-nil : (st : State) (p : Parts) (singles : List Tag) (at : ℕ) → Ends (walk_parts st p singles at []) p 0 0 0 (parts (up_to is_x [])) 0 (length singles + behind_count [])
unfolding walk_parts counted up_to parts behind_count heads grouped from private_count
ends-nil st p singles at = record { start = refl; language = refl; script = omega arith; region = omega arith; variants = omega arith; extensions = omega arith; count = omega arith; number = omega arith }

-- the parts grown by one subtag of an extension
ends-grown : (final p : Parts) (end x y m : ℕ) → Ends final (extended end p) 0 0 0 x 0 m → end + x ≡ p.extensions + y → Ends final p 0 0 0 y 0 m
unfolding extended
ends-grown final p end x y m h e = record { start = h.start; language = h.language; script = h.script; region = h.region; variants = h.variants; extensions = let k = h.extensions in omega arith; count = h.count; number = h.number }

-- the walk's next step, once its state, parts and singletons are known
record Follows (st n : State) (p q : Parts) (singles more listed : List Tag) (at : ℕ) (t : Tag) (ts : List Tag) : Type 0 where
  after : List Tag
  clear : walk_fault n more after at (at + suc (length t)) ts ≡ none
  same : walk_parts st p singles at (t ∷ ts) ≡ walk_parts n q more (at + suc (length t)) ts

follows : (st n : State) (p q : Parts) (singles more listed : List Tag) (back at : ℕ) (t : Tag) (ts : List Tag) → walk_fault st singles listed back at (t ∷ ts) ≡ none → next_state st t ≡ n
    → cut n (at + length t) p ≡ q → singles_after (verdict_of n) t singles ≡ more → Follows st n p q singles more listed at t ts
unfolding walk_parts
follows st n p q singles more listed back at t ts e f g h =
    let k = passed st singles listed back at t ts e in
    record { after = _; clear = rw (f, h) at k.on; same = rw (f, g, h) }

up_to-x : (t : Tag) (ts : List Tag) → is_x t ≡ true → parts (up_to is_x (t ∷ ts)) ≡ 0
unfolding up_to parts
up_to-x t ts e = rw (e, up_to)

up_to-more : (t : Tag) (ts : List Tag) → is_x t ≡ false → parts (up_to is_x (t ∷ ts)) ≡ suc (length t) + parts (up_to is_x ts)
unfolding up_to parts
up_to-more t ts e = rw (e, up_to)

count-x : (t : Tag) (ts : List Tag) → is_x t ≡ true → behind_count (t ∷ ts) ≡ 1
unfolding behind_count private_count
count-x t ts e = rw (heads-x t ts e, from-x t ts e)

count_head : (t : Tag) (ts : List Tag) → is_singleton t ≡ true → is_x t ≡ false → behind_count (t ∷ ts) ≡ suc (behind_count ts)
unfolding behind_count
count_head t ts e f = rw (heads-head t ts e f, from-head t ts e f) (omega arith)

count-more : (t : Tag) (ts : List Tag) → is_singleton t ≡ false → behind_count (t ∷ ts) ≡ behind_count ts
unfolding behind_count
count-more t ts e = rw (heads-more t ts e, from_more t ts e)

ends-counted : (p : Parts) (x m : ℕ) → x ≡ 0 → Ends (counted m p) p 0 0 0 x 0 m
unfolding counted
ends-counted p x m z = record { start = refl; language = refl; script = omega arith; region = omega arith; variants = omega arith; extensions = omega arith; count = omega arith; number = refl }

module _ (t : Tag) (ts : List Tag) (law : ExtensionLaw ts) where
  -- a singleton, where one can stand
  single : (st : State) (p : Parts) (singles listed : List Tag) (back at : ℕ) → is_singleton t ≡ true → next_state st t ≡ opens t → suc p.extensions ≡ at → walk_fault st singles listed back at (t ∷ ts) ≡ none
      → Ends (walk_parts st p singles at (t ∷ ts)) p 0 0 0 (parts (up_to is_x (t ∷ ts))) 0 (length singles + behind_count (t ∷ ts))
  unfolding extended cut verdict_of singles_after
  single st p singles listed back at s n a e =
      bool_cases (is_x t)
      (λ x.
      let f = follows st Private p p singles (t ∷ singles) listed back at t ts e (n ∙ x-only t x) refl refl in
      let m : length singles + behind_count (t ∷ ts) ≡ suc (length singles) = omega (arith, count-x t ts x) in
      rw (f.same, private p (t ∷ singles) (at + suc (length t)) ts, m) (ends-counted p (parts (up_to is_x (t ∷ ts))) (suc (length singles)) (up_to-x t ts x)))
      (λ x.
      let o = opens-extension t x in
      let f = follows st (opens t) p (extended (at + length t) p) singles (t ∷ singles) listed back at t ts e n (o.cuts (at + length t) p) (o.marks t singles) in
      let k = law (opens t) (extended (at + length t) p) (t ∷ singles) f.after at (at + suc (length t)) o.ext (omega arith) f.clear in
      let m : length singles + behind_count (t ∷ ts) ≡ suc (length singles) + behind_count ts = omega (arith, count_head t ts s x) in
      rw (f.same, m) (ends-grown _ p (at + length t) (parts (up_to is_x ts)) (parts (up_to is_x (t ∷ ts))) (suc (length singles) + behind_count ts) k (omega (arith, up_to-more t ts x))))

  more : (st : State) (p : Parts) (singles listed : List Tag) (back at : ℕ) → is_singleton t ≡ false → in_extension st ≡ true → suc p.extensions ≡ at → walk_fault st singles listed back at (t ∷ ts) ≡ none
      → Ends (walk_parts st p singles at (t ∷ ts)) p 0 0 0 (parts (up_to is_x (t ∷ ts))) 0 (length singles + behind_count (t ∷ ts))
  unfolding extended Passes
  more st p singles listed back at s i a e =
      let n = next-other st t s in
      let h = inside singles listed back at t st i (rw n at (passed st singles listed back at t ts e).here) in
      let f = follows st (after_other st t) p (extended (at + length t) p) singles singles listed back at t ts e n (h.cuts (at + length t) p) (h.kept t singles) in
      let k = law (after_other st t) (extended (at + length t) p) singles f.after at (at + suc (length t)) h.ext (omega arith) f.clear in
      rw (f.same, count-more t ts s) (ends-grown _ p (at + length t) (parts (up_to is_x ts)) (parts (up_to is_x (t ∷ ts))) (length singles + behind_count ts) k (omega (arith, up_to-more t ts (single-not-x t s))))

extension-law : (ts : List Tag) → ExtensionLaw ts
unfolding Passes
extension-law [] st p singles listed back at i a e = ends-nil st p singles at
extension-law (t ∷ ts) st p singles listed back at i a e =
    bool_cases (is_singleton t)
    (λ s.
    let n = next-single st t s in
    let o = opened singles listed back at t st i (rw n at (passed st singles listed back at t ts e).here) in
    single t ts (extension-law ts) st p singles listed back at s (n ∙ o) a e)
    (λ s. more t ts (extension-law ts) st p singles listed back at s i a e)

-- The law in the language part. Where a script or region may still come, the parts behind it have not begun.
unfoldable takes_script : Stage → Bool
takes_script Language = true
takes_script Script = false
takes_script Region = false
takes_script Variant = false
takes_script Root = false

unfoldable takes_region : Stage → Bool
takes_region Language = true
takes_region Script = true
takes_region Region = false
takes_region Variant = false
takes_region Root = false

record Ready (g : Stage) (p : Parts) (at : ℕ) : Type 0 where
  place : suc p.variants ≡ at
  none-behind : p.extensions ≡ p.variants
  script : takes_script g ≡ true → p.script ≡ p.variants
  region : takes_region g ≡ true → p.region ≡ p.variants

record MainEnds (g : Stage) (p : Parts) (singles : List Tag) (at : ℕ) (ts : List Tag) : Type 0 where
  ends : Ends (walk_parts (Main g) p singles at ts) p (script_part (body ts)) (region_part (body ts)) (variant_parts (body ts)) (parts (flat (heads ts))) (variant_count (body ts)) (length singles + behind_count ts)
  no-script : takes_script g ≡ false → script_part (body ts) ≡ 0
  no-region : takes_region g ≡ false → region_part (body ts) ≡ 0

abbrev MainLaw : List Tag → Type 0
MainLaw ts = (g : Stage) (p : Parts) (singles listed : List Tag) (back at : ℕ) → Ready g p at → walk_fault (Main g) singles listed back at ts ≡ none → MainEnds g p singles at ts

-- nothing of the language part is left
record NoBody (ts : List Tag) : Type 0 where
  script : script_part (body ts) ≡ 0
  region : region_part (body ts) ≡ 0
  variants : variant_parts (body ts) ≡ 0
  count : variant_count (body ts) ≡ 0
  behind : parts (up_to is_x ts) ≡ parts (flat (heads ts))

no_body : (ts : List Tag) → body ts ≡ [] → NoBody ts
unfolding script_part region_part variant_parts variant_count find part only parts
no_body ts e = record { script = rw e; region = rw e; variants = rw e; count = rw e; behind = parts-up_to ts ∙ rw e (omega arith) }

main-done : (g : Stage) (p : Parts) (singles : List Tag) (at : ℕ) (ts : List Tag) → body ts ≡ []
    → Ends (walk_parts (Main g) p singles at ts) p 0 0 0 (parts (up_to is_x ts)) 0 (length singles + behind_count ts) → MainEnds g p singles at ts
main-done g p singles at ts e h =
    let b = no_body ts e in
    record { ends = rw (b.script, b.region, b.variants, b.count, ← b.behind) h; no-script = λ f. b.script; no-region = λ f. b.region }

-- what a stage takes, by the standard
takes-script : (g : Stage) (n : reading.Stage) → accept (stage_of g) a_script ≡ some n → (takes_script g ≡ true) × (takes_region g ≡ true)
unfolding accept stage_of takes_script takes_region
takes-script Language n e = (refl, refl)
takes-script Script n e = absurd (none-ne-some n e)
takes-script Region n e = absurd (none-ne-some n e)
takes-script Variant n e = absurd (none-ne-some n e)
takes-script Root n e = absurd (none-ne-some n e)

takes-region : (g : Stage) (n : reading.Stage) → accept (stage_of g) a_region ≡ some n → takes_region g ≡ true
unfolding accept stage_of takes_region
takes-region Language n e = refl
takes-region Script n e = refl
takes-region Region n e = absurd (none-ne-some n e)
takes-region Variant n e = absurd (none-ne-some n e)
takes-region Root n e = absurd (none-ne-some n e)

takes_none : (g : Stage) (n : reading.Stage) {P : Type 0} → accept (stage_of g) a_none ≡ some n → P
unfolding accept stage_of
takes_none Language n e = absurd (none-ne-some n e)
takes_none Script n e = absurd (none-ne-some n e)
takes_none Region n e = absurd (none-ne-some n e)
takes_none Variant n e = absurd (none-ne-some n e)
takes_none Root n e = absurd (none-ne-some n e)

module _ (t : Tag) (ts : List Tag) (law : MainLaw ts) (s : is_singleton t ≡ false) (g : Stage) (p : Parts) (singles listed : List Tag) (back at : ℕ) (r : Ready g p at) (e : walk_fault (Main g) singles listed back at (t ∷ ts) ≡ none) where
  -- the next stage, by the kind, and the law there
  onward : (k : Kind) → kind_of t ≡ k → (n : reading.Stage) → accept (stage_of g) k ≡ some n → Ready (stage_by k) (cut_stage (stage_by k) (at + length t) p) (at + suc (length t))
      → MainEnds (stage_by k) (cut_stage (stage_by k) (at + length t) p) singles (at + suc (length t)) ts × (walk_parts (Main g) p singles at (t ∷ ts) ≡ walk_parts (Main (stage_by k)) (cut_stage (stage_by k) (at + length t) p) singles (at + suc (length t)) ts)
  unfolding after_other placed cut verdict_of
  onward k f n a ready =
      let i : next_state (Main g) t ≡ Main (stage_by k) = next-other (Main g) t s ∙ rw (f, a, after_other) in
      let h = follows (Main g) (Main (stage_by k)) p (cut_stage (stage_by k) (at + length t) p) singles singles listed back at t ts e i refl (singles-stage (stage_by k) t singles) in
      (law (stage_by k) (cut_stage (stage_by k) (at + length t) p) singles h.after at (at + suc (length t)) ready h.clear, h.same)

  here : (n : Stage) (q : Parts) → walk_parts (Main g) p singles at (t ∷ ts) ≡ walk_parts (Main n) q singles (at + suc (length t)) ts
      → Ends (walk_parts (Main n) q singles (at + suc (length t)) ts) p (script_part (t ∷ body ts)) (region_part (t ∷ body ts)) (variant_parts (t ∷ body ts)) (parts (flat (heads ts))) (variant_count (t ∷ body ts)) (length singles + behind_count ts)
      → (takes_script g ≡ false → script_part (t ∷ body ts) ≡ 0) → (takes_region g ≡ false → region_part (t ∷ body ts) ≡ 0) → MainEnds g p singles at (t ∷ ts)
  here n q same h a b = record {
    ends = rw (same, body_more t ts s, heads-more t ts s, count-more t ts s) h;
    no-script = rw (body_more t ts s) a;
    no-region = rw (body_more t ts s) b;
  }

  by_kind : (k : Kind) → kind_of t ≡ k → (n : reading.Stage) → accept (stage_of g) k ≡ some n → MainEnds g p singles at (t ∷ ts)
  unfolding cut_stage stage_by takes_script takes_region
  by_kind a_script f n a =
      let q = r.place in
      let w = r.none-behind in
      let x = takes-script g n a in
      let sc = r.script x.0 in
      let re = r.region x.1 in
      let h = onward a_script f n a (record { place = omega arith; none-behind = refl; script = λ z. clash {b = true} refl (sym z); region = λ z. refl }) in
      let m = h.0.ends in
      let z = h.0.no-script refl in
      let d = adds-script t (body ts) f in
      here Script _ h.1
      (record { start = m.start; language = m.language; script = omega arith; region = omega arith; variants = omega arith; extensions = omega arith; count = omega arith; number = m.number })
      (λ y. clash x.0 y) (λ y. clash x.1 y)
  by_kind a_region f n a =
      let q = r.place in
      let w = r.none-behind in
      let x = takes-region g n a in
      let re = r.region x in
      let h = onward a_region f n a (record { place = omega arith; none-behind = refl; script = λ z. clash {b = true} refl (sym z); region = λ z. clash {b = true} refl (sym z) }) in
      let m = h.0.ends in
      let z = h.0.no-script refl in
      let y = h.0.no-region refl in
      let d = adds-region t (body ts) f in
      here Region _ h.1
      (record { start = m.start; language = m.language; script = omega arith; region = omega arith; variants = omega arith; extensions = omega arith; count = omega arith; number = m.number })
      (λ y. d.script ∙ z) (λ y. clash x y)
  by_kind a_variant f n a =
      let q = r.place in
      let w = r.none-behind in
      let h = onward a_variant f n a (record { place = omega arith; none-behind = refl; script = λ z. clash {b = true} refl (sym z); region = λ z. clash {b = true} refl (sym z) }) in
      let m = h.0.ends in
      let z = h.0.no-script refl in
      let y = h.0.no-region refl in
      let d = adds-variant t (body ts) f in
      here Variant _ h.1
      (record { start = m.start; language = m.language; script = omega arith; region = omega arith; variants = omega arith; extensions = omega arith; count = omega arith; number = m.number })
      (λ x. d.script ∙ z) (λ x. d.region ∙ y)
  by_kind a_none f n a = takes_none g n a

  main-more : MainEnds g p singles at (t ∷ ts)
  unfolding after_other placed Passes
  main-more = go (accept (stage_of g) (kind_of t)) refl
    where
      go : (o : Option reading.Stage) → accept (stage_of g) (kind_of t) ≡ o → MainEnds g p singles at (t ∷ ts)
      go none a =
          let i : next_state (Main g) t ≡ Misplaced = next-other (Main g) t s ∙ rw (a, after_other) in
          no-misplaced singles listed back at t (rw i at (passed (Main g) singles listed back at t ts e).here)
      go (some n) a = by_kind (kind_of t) refl n a

main-law : (ts : List Tag) → MainLaw ts
unfolding body up_to grouped after_singleton
main-law [] g p singles listed back at r e = main-done g p singles at [] refl (ends-nil (Main g) p singles at)
main-law (t ∷ ts) g p singles listed back at r e =
    bool_cases (is_singleton t)
    (λ s.
    let q = r.place in
    let w = r.none-behind in
    main-done g p singles at (t ∷ ts) (body-single t ts s) (single t ts (extension-law ts) (Main g) p singles listed back at s (next-single (Main g) t s) (omega arith) e))
    (λ s. main-more t ts (main-law ts) s g p singles listed back at r e)

-- The whole: the standard's parts, by the first subtag, the rest of the language part, and what stands behind it.
unfoldable parts_by : Tag → List Tag → List (List Tag) → List Tag → Parts
parts_by first b hs private = record {
  start = start_of first;
  language = language_cut (head_tag b);
  script = length (head_tag b) + script_part (after_first b);
  region = length (head_tag b) + script_part (after_first b) + region_part (after_first b);
  variants = length (head_tag b) + script_part (after_first b) + region_part (after_first b) + variant_parts (after_first b);
  extensions = length (head_tag b) + script_part (after_first b) + region_part (after_first b) + variant_parts (after_first b) + parts (flat hs);
  variant_count = variant_count (after_first b);
  extension_count = length hs + private_count private;
}

parts-by : (ts : List Tag) → parts_of ts ≡ parts_by (head_tag ts) (body ts) (heads ts) (from is_x ts)
unfolding parts_of cuts_of cuts_after parts_by body heads script_part region_part variant_parts variant_count identifier_of
parts-by ts = refl

same_parts : (a b : Parts) → a.start ≡ b.start → a.language ≡ b.language → a.script ≡ b.script → a.region ≡ b.region → a.variants ≡ b.variants → a.extensions ≡ b.extensions
    → a.variant_count ≡ b.variant_count → a.extension_count ≡ b.extension_count → a ≡ b
same_parts a b e f g h i j k l = λ n. record { start = e n; language = f n; script = g n; region = h n; variants = i n; extensions = j n; variant_count = k n; extension_count = l n }

module _ (t : Tag) (ts : List Tag) (s : is_singleton t ≡ false) (e : walk_fault First [] [] 0 0 (t ∷ ts) ≡ none) where
  begun : (g : Stage) → first_state t ≡ Main g → stage_verdict g ≡ stage_verdict Language → Ready g (cut_stage g (0 + length t) unread) (0 + suc (length t))
      → (cut_stage g (0 + length t) unread).script ≡ length t → (cut_stage g (0 + length t) unread).region ≡ length t → (cut_stage g (0 + length t) unread).variant_count ≡ 0
      → (cut_stage g (0 + length t) unread).start ≡ start_of t → (cut_stage g (0 + length t) unread).language ≡ language_cut t
      → walk_parts First unread [] 0 (t ∷ ts) ≡ parts_of (t ∷ ts)
  unfolding after_other cut verdict_of singles_after stage_verdict head_tag after_first parts_by behind_count
  begun g f v r sc re n st la =
      let i : next_state First t ≡ Main g = next-other First t s ∙ f in
      let h = follows First (Main g) unread (cut_stage g (0 + length t) unread) [] [] [] 0 0 t ts e i refl (singles-stage g t []) in
      let m = (main-law ts g (cut_stage g (0 + length t) unread) [] h.after 0 (0 + suc (length t)) r h.clear).ends in
      let w = r.none-behind in
      let q = r.place in
      h.same ∙ sym (parts-by (t ∷ ts) ∙ rw (body_more t ts s, heads-more t ts s, from_more t ts s)
      (same_parts _ _ (sym (m.start ∙ st)) (sym (m.language ∙ la)) (omega arith) (omega arith) (omega arith) (omega arith) (omega arith) (omega arith)))

  begun-kind : is_language t ≡ false → same t root ≡ false → (k : Kind) → kind_of t ≡ k → walk_parts First unread [] 0 (t ∷ ts) ≡ parts_of (t ∷ ts)
  unfolding first_state stage_verdict cut_stage unread start_of language_cut takes_script takes_region Passes after_other
  begun-kind l r a_script f =
      begun Script (rw (l, r, f, first_state)) refl (record { place = omega arith; none-behind = refl; script = λ z. clash {b = true} refl (sym z); region = λ z. refl })
      (omega arith) (omega arith) refl (rw (l, r, start_of)) (rw (l, r, language_cut))
  begun-kind l r a_region f = no-misplaced [] [] 0 0 t (rw (next-other First t s, l, r, f, first_state) at (passed First [] [] 0 0 t ts e).here)
  begun-kind l r a_variant f = no-misplaced [] [] 0 0 t (rw (next-other First t s, l, r, f, first_state) at (passed First [] [] 0 0 t ts e).here)
  begun-kind l r a_none f = no-misplaced [] [] 0 0 t (rw (next-other First t s, l, r, f, first_state) at (passed First [] [] 0 0 t ts e).here)

  begun-any : walk_parts First unread [] 0 (t ∷ ts) ≡ parts_of (t ∷ ts)
  unfolding first_state stage_verdict cut_stage unread start_of language_cut takes_script takes_region
  begun-any =
      bool_cases (is_language t)
      (λ l. begun Language (rw (l, first_state)) refl (record { place = omega arith; none-behind = refl; script = λ z. refl; region = λ z. refl }) (omega arith) (omega arith) refl (rw (l, start_of)) (rw (l, language_cut) (omega arith)))
      (λ l. bool_cases (same t root)
      (λ r. begun Root (rw (l, r, first_state)) refl (record { place = omega arith; none-behind = refl; script = λ z. refl; region = λ z. refl }) (omega arith) (omega arith) refl (rw (l, r, start_of)) (rw (l, r, language_cut) (omega arith)))
      (λ r. begun-kind l r (kind_of t) refl))

walk-parts : (t : Tag) (ts : List Tag) → walk_fault First [] [] 0 0 (t ∷ ts) ≡ none → walk_parts First unread [] 0 (t ∷ ts) ≡ parts_of (t ∷ ts)
unfolding after_singleton Passes
walk-parts t ts e =
    bool_cases (is_singleton t) (λ s. no-misplaced [] [] 0 0 t (rw (next-single First t s) at (passed First [] [] 0 0 t ts e).here)) (λ s. begun-any t ts s e)

-- the walk gives the standard's outcome
pub walked : (t : Tag) (ts : List Tag) → outcome_as (grammar_fault by_part (t ∷ ts)) (parts_of (t ∷ ts)) ≡ outcome_as (walk_fault First [] [] 0 0 (t ∷ ts)) (walk_parts First unread [] 0 (t ∷ ts))
unfolding outcome_as
walked t ts = rw (← (walk-grammar t ts)) (go (walk_fault First [] [] 0 0 (t ∷ ts)) refl)
  where
    go : (o : Option Fault) → walk_fault First [] [] 0 0 (t ∷ ts) ≡ o → outcome_as o (parts_of (t ∷ ts)) ≡ outcome_as o (walk_parts First unread [] 0 (t ∷ ts))
    go none e = ap parted (sym (walk-parts t ts e))
    go (some f) e = refl
