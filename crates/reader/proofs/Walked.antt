-- The walk from left to right finds the standard's first fault. One law for every state inside an identifier: the walk
-- over the subtags that are left gives what the standard says of the rest of that body, then of the extensions behind it.
-- Assumes nothing.
use mathlib.Core.Path.{◌≡◌, refl, sym, ap, ◌∙◌}
use mathlib.Core.Bool.{Bool, true, false, ◌&&◌, ◌||◌}
use mathlib.Core.List.{List, [], ◌∷◌, ◌++◌}
use mathlib.Core.Option.{Option, none, some, none-ne-some}
use Prim.Native.Nat.{ℕ, zero, suc, ◌+◌, ◌≤◌}
use native.Mathlib.Omega.{arith}
use lib.ListN.{length}
use Rattle.standard.specs.Tag.{Tag, order, same, head_tag}
use Rattle.standard.specs.Grammar.{Kind, a_script, a_region, a_variant, a_none, kind_of, variant_kind, is_variant, is_language, is_singleton, is_two, is_field_key, u_tag, t_tag, x_tag, with_tag, grouped, flat}
use Rattle.standard.specs.Identifier.{parts}
use Rattle.standard.specs.Reading as reading
use Rattle.standard.specs.Reading.{Fault, fault, first_of, bad_tag, member, accept, by_part, rest_fault, part_fault, language_only, alone, groups_fault, no_language, start, grammar_fault, wrong_keyword, wrong_value, field_fault, fields_fault, extension_fault, private_fault, is_x, up_to, from, root}
use Rattle.standard.proofs.General.{clash, bool_cases}
use Rattle.standard.proofs.Tags.{same-eq}
use Rattle.reader.specs.declared.steps.Stage.{Stage}
use Rattle.reader.specs.declared.steps.Stage.TheVariants.{Language, Script, Region, Variant, Root}
use Rattle.reader.specs.declared.steps.Verdict.{Verdict}
use Rattle.reader.specs.declared.steps.State.{State}
use Rattle.reader.specs.declared.steps.State.TheVariants.{First, Main, Unicode, Keywords, Transform, Part, Key, Field, Other, Others, Private, Privates, Misplaced, Unfinished}
use Rattle.reader.specs.Walk.{stage_of, stage_by, placed, first_state, field_state, opens, after_singleton, after_other, next_state, pending, stage_verdict, verdict_of, misplaced_number, repeated, verdict_fault, singles_after, listed_after, walk_fault}
use Rattle.reader.proofs.Bodies.{body, heads, ahead, fields, behind, behind_more, behind-x, body_more, body-single, heads-head, from-head, single-length, ahead_more, ahead-key, fields-more, fields-key}
use Rattle.standard.proofs.Round.{parts-append}

first-assoc : (a b c : Option Fault) → first_of (first_of a b) c ≡ first_of a (first_of b c)
unfolding first_of
first-assoc none b c = refl
first-assoc (some f) b c = refl

parts_next : (at : ℕ) (t : Tag) (b : List Tag) → at + parts (t ∷ b) ≡ at + suc (length t) + parts b
unfolding parts
parts_next at t b = omega arith

-- One step.
first-elim : (o w : Option Fault) → elim o [ some f ↦ some f | none ↦ w ] ≡ first_of o w
unfolding first_of
first-elim none w = refl
first-elim (some f) w = refl

module _ (st : State) (singles listed : List Tag) (back at : ℕ) (t : Tag) (ts : List Tag) where
  unfoldable pub stepped : State → Option Fault
  stepped n = first_of (verdict_fault (verdict_of n) singles listed back at t) (walk_fault n (singles_after (verdict_of n) t singles) (listed_after (verdict_of n) t listed) at (at + suc (length t)) ts)

  pub step : (n : State) → next_state st t ≡ n → walk_fault st singles listed back at (t ∷ ts) ≡ stepped n
  unfolding walk_fault stepped
  step n e = first-elim (verdict_fault (verdict_of (next_state st t)) singles listed back at t) _ ∙ ap stepped e

pub next-single : (st : State) (t : Tag) → is_singleton t ≡ true → next_state st t ≡ after_singleton st (opens t)
unfolding next_state
next-single st t e = rw (e, next_state)

pub next-other : (st : State) (t : Tag) → is_singleton t ≡ false → next_state st t ≡ after_other st t
unfolding next_state
next-other st t e = rw (e, next_state)

-- What the standard says of the rest of a body in which the walk stands; `seen` are the variants or keys before it.
unfoldable fields_from : List Tag → ℕ → List Tag → Option Fault
fields_from seen at b = groups_fault (field_fault by_part.extension) seen (at + parts (ahead b)) (fields b)

unfoldable within : State → List Tag → ℕ → List Tag → Option Fault
within First seen at b = none
within (Main s) seen at b = rest_fault by_part.later (stage_of s) seen at b
within Unicode seen at b = bad_tag by_part.extension wrong_keyword at b
within Keywords seen at b = bad_tag by_part.extension wrong_keyword at b
within Transform seen at b = fields_fault by_part.extension at b
within (Part s) seen at b = first_of (rest_fault by_part.extension (stage_of s) seen at (ahead b)) (fields_from [] at b)
within Key seen at b = first_of (bad_tag by_part.extension wrong_value at (ahead b)) (fields_from seen at b)
within Field seen at b = first_of (bad_tag by_part.extension wrong_value at (ahead b)) (fields_from seen at b)
within Other seen at b = none
within Others seen at b = none
within Private seen at b = none
within Privates seen at b = none
within Misplaced seen at b = none
within Unfinished seen at b = none

-- what has begun at `back` lacks what must follow it
unfoldable unfinished : ℕ → List Tag → Option Fault → Option Fault
unfinished back [] f = fault 7 back
unfinished back (t ∷ ts) f = f

unfoldable closing : State → ℕ → List Tag → Option Fault → Option Fault
closing First back b f = f
closing (Main s) back b f = f
closing Unicode back b f = unfinished back b f
closing Keywords back b f = f
closing Transform back b f = unfinished back b f
closing (Part s) back b f = f
closing Key back b f = unfinished back (ahead b) f
closing Field back b f = f
closing Other back b f = unfinished back b f
closing Others back b f = f
closing Private back b f = f
closing Privates back b f = f
closing Misplaced back b f = f
closing Unfinished back b f = f

-- Keys are held against `listed` as against `seen`: no variant is a key.
abbrev Agrees : List Tag → List Tag → Type 0
Agrees listed seen = (k : Tag) → is_field_key k ≡ true → member k listed ≡ member k seen

-- what the walk holds later subtags against, and what the standard does
unfoldable Fits : State → List Tag → List Tag → Type 0
Fits First listed seen = ⊥
Fits (Main s) listed seen = listed ≡ seen
Fits Unicode listed seen = Unit {0}
Fits Keywords listed seen = Unit {0}
Fits Transform listed seen = listed ≡ []
Fits (Part s) listed seen = (listed ≡ seen) × Agrees listed []
Fits Key listed seen = Agrees listed seen
Fits Field listed seen = Agrees listed seen
Fits Other listed seen = Unit {0}
Fits Others listed seen = Unit {0}
Fits Private listed seen = ⊥
Fits Privates listed seen = ⊥
Fits Misplaced listed seen = ⊥
Fits Unfinished listed seen = ⊥

abbrev NoX : List Tag → Type 0
NoX singles = (t : Tag) → is_x t ≡ true → member t singles ≡ false

-- the number of a misplaced subtag in a state
abbrev number_in : State → ℕ
number_in First = by_part.first
number_in (Main s) = by_part.later
number_in Unicode = by_part.extension
number_in Keywords = by_part.extension
number_in Transform = by_part.extension
number_in (Part s) = by_part.extension
number_in Key = by_part.extension
number_in Field = by_part.extension
number_in Other = by_part.extension
number_in Others = by_part.extension
number_in Private = by_part.extension
number_in Privates = by_part.extension
number_in Misplaced = by_part.extension
number_in Unfinished = by_part.extension

-- what has come before the place `at`: `x` is none of the singletons, and with these m is the number from there on
record Before (m : ℕ) (singles : List Tag) (at : ℕ) : Type 0 where
  no-x : NoX singles
  number : (p : ℕ) → at ≤ p → misplaced_number singles p ≡ m

further : (m : ℕ) (singles : List Tag) (at n : ℕ) → Before m singles at → Before m singles (at + n)
further m singles at n b = record { no-x = b.no-x; number = λ p h. b.number p (omega arith) }

before-first : (n : ℕ) → Before by_part.later [] (0 + suc n)
unfolding member misplaced_number
before-first n = record { no-x = λ t e. refl; number = after }
  where
    after : (p : ℕ) → 0 + suc n ≤ p → misplaced_number [] p ≡ by_part.later
    after zero h = absurd (omega arith)
    after (suc p) h = refl

before-single : (m : ℕ) (t : Tag) (singles : List Tag) (at n : ℕ) → m ≡ by_part.extension → NoX (t ∷ singles) → Before m (t ∷ singles) (at + suc n)
unfolding misplaced_number
before-single m t singles at n e nx = record { no-x = nx; number = after }
  where
    after : (p : ℕ) → at + suc n ≤ p → misplaced_number (t ∷ singles) p ≡ m
    after zero h = absurd (omega arith)
    after (suc p) h = sym e

unfoldable expected : State → List Tag → List Tag → ℕ → ℕ → List Tag → Option Fault
expected st singles seen back at ts = closing st back (body ts) (first_of (within st seen at (body ts)) (behind singles (at + parts (body ts)) ts))

-- the law at the subtags `ts`
abbrev Law : List Tag → Type 0
Law ts = (st : State) (singles listed seen : List Tag) (back at : ℕ) → Before (number_in st) singles at → Fits st listed seen → walk_fault st singles listed back at ts ≡ expected st singles seen back at ts

-- Nothing is left.
law-nil : Law []
unfolding walk_fault pending expected closing within unfinished body grouped up_to ahead fields fields_from fields_fault part_fault rest_fault bad_tag groups_fault first_of behind heads from private_fault Fits
law-nil First singles listed seen back at b fit = absurd fit
law-nil (Main s) singles listed seen back at b fit = refl
law-nil Unicode singles listed seen back at b fit = refl
law-nil Keywords singles listed seen back at b fit = refl
law-nil Transform singles listed seen back at b fit = refl
law-nil (Part s) singles listed seen back at b fit = refl
law-nil Key singles listed seen back at b fit = refl
law-nil Field singles listed seen back at b fit = refl
law-nil Other singles listed seen back at b fit = refl
law-nil Others singles listed seen back at b fit = refl
law-nil Private singles listed seen back at b fit = absurd fit
law-nil Privates singles listed seen back at b fit = absurd fit
law-nil Misplaced singles listed seen back at b fit = absurd fit
law-nil Unfinished singles listed seen back at b fit = absurd fit

-- Private use, to the end.
pub after_privates : (t : Tag) → next_state Privates t ≡ Privates
unfolding next_state after_singleton after_other
after_privates t = bool_cases (is_singleton t) (λ e. rw (e, next_state)) (λ e. rw (e, next_state))

pub after_private : (t : Tag) → next_state Private t ≡ Privates
unfolding next_state after_singleton after_other
after_private t = bool_cases (is_singleton t) (λ e. rw (e, next_state)) (λ e. rw (e, next_state))

privates : (singles listed : List Tag) (back at : ℕ) (ts : List Tag) → walk_fault Privates singles listed back at ts ≡ none
unfolding walk_fault pending stepped verdict_of verdict_fault singles_after listed_after first_of
privates singles listed back at [] = refl
privates singles listed back at (t ∷ ts) = step Privates singles listed back at t ts Privates (after_privates t) ∙ privates singles listed at (at + suc (length t)) ts

private : (singles listed : List Tag) (at next : ℕ) (t : Tag) (ts : List Tag) → walk_fault Private singles listed at next ts ≡ private_fault at (t ∷ ts)
unfolding walk_fault pending stepped verdict_of verdict_fault singles_after listed_after first_of private_fault
private singles listed at next t [] = refl
private singles listed at next t (u ∷ ts) = step Private singles listed at next u ts Privates (after_private u) ∙ privates singles listed next (next + suc (length u)) ts

-- A singleton.
pub x-only : (t : Tag) → is_x t ≡ true → opens t ≡ Private
unfolding opens same order is_x
x-only t e = rw (same-eq t x_tag e)

no-x : (singles : List Tag) (t : Tag) → NoX singles → is_x t ≡ false → NoX (t ∷ singles)
unfolding member
no-x singles t nx f u e = rw (nx u e) (bool_cases (same u t) (λ g. clash (rw (same-eq u t g) at e) f) (λ g. rw g))

-- `x`
boundary-x : (st : State) (singles listed : List Tag) (back at : ℕ) (t : Tag) (ts : List Tag) → next_state st t ≡ opens t → is_x t ≡ true → NoX singles
    → walk_fault st singles listed back at (t ∷ ts) ≡ behind singles at (t ∷ ts)
unfolding stepped verdict_of verdict_fault singles_after listed_after first_of repeated
boundary-x st singles listed back at t ts e x nx =
    step st singles listed back at t ts Private (e ∙ x-only t x) ∙ rw (nx t x) (private (t ∷ singles) [] at (at + suc (length t)) t ts) ∙ sym (behind-x singles at t ts x)

-- another singleton: the standard's extension that it begins
behind-head : (singles : List Tag) (at : ℕ) (t : Tag) (ts : List Tag) → is_singleton t ≡ true → is_x t ≡ false
    → behind singles at (t ∷ ts) ≡ first_of (repeated at (member t singles)) (unfinished at (body ts) (first_of (extension_fault by_part.extension at (t ∷ body ts)) (behind (t ∷ singles) (at + suc (length t) + parts (body ts)) ts)))
unfolding behind head_tag first_of unfinished repeated groups_fault alone flat
behind-head singles at t ts e f = rw (heads-head t ts e f, from-head t ts e f) (go (member t singles) refl (body ts))
  where
    go : (m : Bool) → member t singles ≡ m → (b : List Tag)
        → first_of (groups_fault (extension_fault by_part.extension) singles at ((t ∷ b) ∷ heads ts)) (private_fault (at + parts (flat ((t ∷ b) ∷ heads ts))) (from is_x ts))
        ≡ first_of (repeated at m) (unfinished at b (first_of (extension_fault by_part.extension at (t ∷ b)) (first_of (groups_fault (extension_fault by_part.extension) (t ∷ singles) (at + suc (length t) + parts b) (heads ts)) (private_fault (at + suc (length t) + parts b + parts (flat (heads ts))) (from is_x ts)))))
    go true m b = rw (m, groups_fault)
    go false m [] = rw (m, groups_fault)
    go false m (u ∷ b) =
        let q : at + parts (t ∷ u ∷ (b ++ flat (heads ts))) ≡ at + suc (length t) + parts (u ∷ b) + parts (flat (heads ts)) =
        ap (λ (n : ℕ). at + n) (parts-append (t ∷ u ∷ b) (flat (heads ts))) ∙ omega (arith, parts_next at t (u ∷ b)) in
        rw (m, groups_fault) (first-assoc (extension_fault by_part.extension at (t ∷ u ∷ b)) _ _ ∙ rw (parts_next at t (u ∷ b), q))

-- the state that it begins
record Begun (o : State) (at next : ℕ) (t : Tag) (b : List Tag) : Type 0 where
  verdict : verdict_of o ≡ verdict_of Other
  number : number_in o ≡ by_part.extension
  fits : Fits o [] []
  closed : (f : Option Fault) → closing o at b f ≡ unfinished at b f
  inside : extension_fault by_part.extension at (t ∷ b) ≡ within o [] next b

begun : (at next : ℕ) (t : Tag) (b : List Tag) → next ≡ at + 2 → is_x t ≡ false → Begun (opens t) at next t b
unfolding opens extension_fault within closing Fits verdict_of
begun at next t b n x =
    bool_cases (same t u_tag) (λ e. rw (e, opens, extension_fault, n) (record { verdict = refl; number = refl; fits = tt; closed = λ f. refl; inside = rw (e, extension_fault) }))
    (λ e. bool_cases (same t t_tag)
    (λ f. rw (e, f, opens, n) (record { verdict = refl; number = refl; fits = refl; closed = λ f. refl; inside = rw (e, f, extension_fault) }))
    (λ f. rw (e, f, x, opens) (record { verdict = refl; number = refl; fits = tt; closed = λ f. refl; inside = rw (e, f, extension_fault) })))

boundary-head : (st : State) (singles listed : List Tag) (back at : ℕ) (t : Tag) (ts : List Tag) → Law ts → next_state st t ≡ opens t → is_singleton t ≡ true → is_x t ≡ false → NoX singles
    → walk_fault st singles listed back at (t ∷ ts) ≡ behind singles at (t ∷ ts)
unfolding stepped verdict_fault singles_after listed_after expected verdict_of
boundary-head st singles listed back at t ts law e s x nx =
    let b = begun at (at + suc (length t)) t (body ts) (ap (λ (n : ℕ). at + suc n) (single-length t s)) x in
    step st singles listed back at t ts (opens t) e
    ∙ rw b.verdict
    (ap (first_of (repeated at (member t singles))) (law (opens t) (t ∷ singles) [] [] at (at + suc (length t)) (before-single (number_in (opens t)) t singles at (length t) b.number (no-x singles t nx x)) b.fits ∙ b.closed _ ∙ rw b.inside))
    ∙ sym (behind-head singles at t ts s x)

boundary : (st : State) (singles listed : List Tag) (back at : ℕ) (t : Tag) (ts : List Tag) → Law ts → after_singleton st (opens t) ≡ opens t → is_singleton t ≡ true → NoX singles
    → walk_fault st singles listed back at (t ∷ ts) ≡ behind singles at (t ∷ ts)
boundary st singles listed back at t ts law e s nx =
    let n = next-single st t s ∙ e in
    bool_cases (is_x t) (λ x. boundary-x st singles listed back at t ts n x nx) (λ x. boundary-head st singles listed back at t ts law n s x nx)

module _ (t : Tag) (ts : List Tag) (law : Law ts) (s : is_singleton t ≡ true) where
  closed : (st : State) (singles listed seen : List Tag) (back at : ℕ) → NoX singles → after_singleton st (opens t) ≡ opens t
      → ((f : Option Fault) → closing st back [] f ≡ f) → within st seen at [] ≡ none → walk_fault st singles listed back at (t ∷ ts) ≡ expected st singles seen back at (t ∷ ts)
  unfolding expected first_of parts
  closed st singles listed seen back at nx e c w =
      let z : at + 0 ≡ at = omega arith in
      boundary st singles listed back at t ts law e s nx ∙ sym (rw (body-single t ts s) (c _ ∙ rw (w, z)))

  left_open : (st : State) (singles listed seen : List Tag) (back at : ℕ) → after_singleton st (opens t) ≡ Unfinished
      → ((f : Option Fault) → closing st back [] f ≡ fault 7 back) → walk_fault st singles listed back at (t ∷ ts) ≡ expected st singles seen back at (t ∷ ts)
  unfolding expected stepped verdict_of verdict_fault first_of
  left_open st singles listed seen back at e c = step st singles listed back at t ts Unfinished (next-single st t s ∙ e) ∙ sym (rw (body-single t ts s) (c _))

  law-single : Law (t ∷ ts)
  unfolding after_singleton closing within unfinished ahead fields fields_from grouped rest_fault bad_tag groups_fault first_of Fits
  law-single First singles listed seen back at b fit = absurd fit
  law-single (Main g) singles listed seen back at b fit = closed (Main g) singles listed seen back at b.no-x refl (λ f. refl) refl
  law-single Unicode singles listed seen back at b fit = left_open Unicode singles listed seen back at refl (λ f. refl)
  law-single Keywords singles listed seen back at b fit = closed Keywords singles listed seen back at b.no-x refl (λ f. refl) refl
  law-single Transform singles listed seen back at b fit = left_open Transform singles listed seen back at refl (λ f. refl)
  law-single (Part g) singles listed seen back at b fit = closed (Part g) singles listed seen back at b.no-x refl (λ f. refl) refl
  law-single Key singles listed seen back at b fit = left_open Key singles listed seen back at refl (λ f. refl)
  law-single Field singles listed seen back at b fit = closed Field singles listed seen back at b.no-x refl (λ f. refl) refl
  law-single Other singles listed seen back at b fit = left_open Other singles listed seen back at refl (λ f. refl)
  law-single Others singles listed seen back at b fit = closed Others singles listed seen back at b.no-x refl (λ f. refl) refl
  law-single Private singles listed seen back at b fit = absurd fit
  law-single Privates singles listed seen back at b fit = absurd fit
  law-single Misplaced singles listed seen back at b fit = absurd fit
  law-single Unfinished singles listed seen back at b fit = absurd fit

-- A subtag of a language part, in the walk's words.
stage-next : (s n : reading.Stage) (k : Kind) → accept s k ≡ some n → n ≡ stage_of (stage_by k)
unfolding accept stage_of stage_by
stage-next reading.after_language n a_script e = cc
stage-next reading.after_language n a_region e = cc
stage-next reading.after_language n a_variant e = cc
stage-next reading.after_language n a_none e = cc
stage-next reading.after_script n a_script e = absurd (none-ne-some n e)
stage-next reading.after_script n a_region e = cc
stage-next reading.after_script n a_variant e = cc
stage-next reading.after_script n a_none e = cc
stage-next reading.after_region n a_script e = absurd (none-ne-some n e)
stage-next reading.after_region n a_region e = absurd (none-ne-some n e)
stage-next reading.after_region n a_variant e = cc
stage-next reading.after_region n a_none e = cc
stage-next reading.after_root n k e = absurd (none-ne-some n e)

module _ (m : ℕ) (s : reading.Stage) (singles listed : List Tag) (back at : ℕ) (t : Tag) (b : List Tag) where
  rest-stop : accept s (kind_of t) ≡ none → rest_fault m s listed at (t ∷ b) ≡ fault m at
  unfolding rest_fault
  rest-stop e = rw (e, rest_fault)

  on-kind : Kind → Option Fault
  on-kind k = first_of (verdict_fault (stage_verdict (stage_by k)) singles listed back at t) (rest_fault m (stage_of (stage_by k)) (listed_after (stage_verdict (stage_by k)) t listed) (at + suc (length t)) b)

  -- by the kind, and for a variant by whether it is a repeat
  taken : reading.Stage → Bool → Bool → Option Fault
  taken n v r = elim (v && r) [ true ↦ fault 6 at | false ↦ rest_fault m n (elim v [ true ↦ t ∷ listed | false ↦ listed ]) (at + suc (length t)) b ]

  taken-kind : (k : Kind) (r : Bool) → member t listed ≡ r → taken (stage_of (stage_by k)) (variant_kind k) r ≡ on-kind k
  unfolding taken on-kind variant_kind stage_by stage_verdict verdict_fault listed_after first_of repeated
  taken-kind a_script r e = refl
  taken-kind a_region r e = refl
  taken-kind a_variant true e = rw e
  taken-kind a_variant false e = rw e
  taken-kind a_none r e = refl

  rest-on : (n : reading.Stage) → accept s (kind_of t) ≡ some n → rest_fault m s listed at (t ∷ b) ≡ on-kind (kind_of t)
  unfolding rest_fault taken is_variant
  rest-on n e =
      let u : rest_fault m s listed at (t ∷ b) ≡ taken n (is_variant t) (member t listed) = rw (e, rest_fault) in
      u ∙ ap (λ (k : reading.Stage). taken k (is_variant t) (member t listed)) (stage-next s n (kind_of t) e) ∙ taken-kind (kind_of t) (member t listed) refl

-- Any other subtag.
pub singles-stage : (g : Stage) (t : Tag) (singles : List Tag) → singles_after (stage_verdict g) t singles ≡ singles
unfolding singles_after stage_verdict
singles-stage Language t singles = refl
singles-stage Script t singles = refl
singles-stage Region t singles = refl
singles-stage Variant t singles = refl
singles-stage Root t singles = refl

-- no variant is a key
variant-no-field : (t : Tag) → is_field_key t ≡ false → (listed : List Tag) → Agrees listed [] → Agrees (t ∷ listed) []
unfolding member
variant-no-field t f listed a k e = rw (a k e) (bool_cases (same k t) (λ g. clash (rw (same-eq k t g) at e) f) (λ g. rw g))

agrees-listed : (g : Stage) (t : Tag) (listed : List Tag) → is_field_key t ≡ false → Agrees listed [] → Agrees (listed_after (stage_verdict g) t listed) []
unfolding listed_after stage_verdict
agrees-listed Language t listed f a = a
agrees-listed Script t listed f a = a
agrees-listed Region t listed f a = a
agrees-listed Variant t listed f a = variant-no-field t f listed a
agrees-listed Root t listed f a = a

agrees-key : (t : Tag) (listed seen : List Tag) → Agrees listed seen → Agrees (t ∷ listed) (t ∷ seen)
unfolding member
agrees-key t listed seen a k e = ap (λ (m : Bool). same k t || m) (a k e)

bad_tag-on : (n : ℕ) (p : Tag → Bool) (at : ℕ) (t : Tag) (b : List Tag) → p t ≡ false → bad_tag n p at (t ∷ b) ≡ bad_tag n p (at + suc (length t)) b
unfolding bad_tag
bad_tag-on n p at t b e = rw (e, bad_tag)

bad_tag-here : (n : ℕ) (p : Tag → Bool) (at : ℕ) (t : Tag) (b : List Tag) → p t ≡ true → bad_tag n p at (t ∷ b) ≡ fault n at
unfolding bad_tag
bad_tag-here n p at t b e = rw (e, bad_tag)

key-no-value : (t : Tag) → is_field_key t ≡ true → wrong_value t ≡ false
unfolding wrong_value
key-no-value t f = rw f (bool_cases (is_two t) (λ e. rw e) (λ e. rw e))

fields-later : (seen : List Tag) (at : ℕ) (t : Tag) (b : List Tag) → is_field_key t ≡ false → fields_from seen at (t ∷ b) ≡ fields_from seen (at + suc (length t)) b
unfolding fields_from
fields-later seen at t b f = rw (ahead_more t b f, fields-more t b f, parts_next at t (ahead b))

module _ (t : Tag) (ts : List Tag) (law : Law ts) (s : is_singleton t ≡ false) where
  -- what stands behind this body, seen from the next subtag
  later : List Tag → ℕ → Option Fault
  later singles at = behind singles (at + suc (length t) + parts (body ts)) ts

  expected-more : (st : State) (singles seen : List Tag) (back at : ℕ) → expected st singles seen back at (t ∷ ts) ≡ closing st back (t ∷ body ts) (first_of (within st seen at (t ∷ body ts)) (later singles at))
  unfolding expected later
  expected-more st singles seen back at = rw (body_more t ts s, behind_more singles (at + parts (t ∷ body ts)) t ts s, parts_next at t (body ts))

  -- the walk goes on in the state n, or stops at this subtag
  onward : (st n : State) (singles listed : List Tag) (back at : ℕ) → after_other st t ≡ n → walk_fault st singles listed back at (t ∷ ts) ≡ stepped st singles listed back at t ts n
  onward st n singles listed back at e = step st singles listed back at t ts n (next-other st t s ∙ e)

  stops : (m : ℕ) (st : State) (singles listed seen : List Tag) (back at : ℕ) → Before m singles at → after_other st t ≡ Misplaced → ((f : Option Fault) → closing st back (t ∷ body ts) f ≡ f) → within st seen at (t ∷ body ts) ≡ fault m at
      → walk_fault st singles listed back at (t ∷ ts) ≡ expected st singles seen back at (t ∷ ts)
  unfolding stepped verdict_of verdict_fault first_of
  stops m st singles listed seen back at h e c w = onward st Misplaced singles listed back at e ∙ rw (h.number at (omega arith)) (sym (expected-more st singles seen back at ∙ c _ ∙ rw w))

  -- `u`, and the other extensions
  more-keywords : (st : State) (singles listed seen : List Tag) (back at : ℕ) → Before by_part.extension singles at
      → ((k : Bool) → wrong_keyword t ≡ k → after_other st t ≡ elim k [ true ↦ Misplaced | false ↦ Keywords ])
      → ((f : Option Fault) → closing st back (t ∷ body ts) f ≡ f) → within st seen at (t ∷ body ts) ≡ bad_tag by_part.extension wrong_keyword at (t ∷ body ts)
      → walk_fault st singles listed back at (t ∷ ts) ≡ expected st singles seen back at (t ∷ ts)
  unfolding stepped verdict_of verdict_fault singles_after listed_after first_of bad_tag Fits expected within closing later
  more-keywords st singles listed seen back at nx a c w =
      bool_cases (wrong_keyword t) (λ k. stops by_part.extension st singles listed seen back at nx (a true k) c (w ∙ rw (k, bad_tag)))
      (λ k.
      onward st Keywords singles listed back at (a false k) ∙ law Keywords singles listed seen at (at + suc (length t)) (further by_part.extension singles at (suc (length t)) nx) tt
      ∙ sym (expected-more st singles seen back at ∙ c _ ∙ rw w (rw (k, bad_tag))))

  more-others : (st : State) (singles listed seen : List Tag) (back at : ℕ) → Before by_part.extension singles at → after_other st t ≡ Others
      → ((f : Option Fault) → closing st back (t ∷ body ts) f ≡ f) → within st seen at (t ∷ body ts) ≡ none
      → walk_fault st singles listed back at (t ∷ ts) ≡ expected st singles seen back at (t ∷ ts)
  unfolding stepped verdict_of verdict_fault singles_after listed_after first_of Fits expected within closing later
  more-others st singles listed seen back at nx a c w =
      onward st Others singles listed back at a ∙ law Others singles listed seen at (at + suc (length t)) (further by_part.extension singles at (suc (length t)) nx) tt
      ∙ sym (expected-more st singles seen back at ∙ c _ ∙ rw w)

  -- a language part, that of the identifier or that of `t`: its subtags b, and what follows them
  module _ (m : ℕ) (here : Stage → State) (verdict : (w : Stage) → verdict_of (here w) ≡ stage_verdict w) (b : List Tag) (follows : Option Fault) (g : Stage) (singles listed : List Tag) (back at : ℕ) (number : misplaced_number singles at ≡ m)
      (next : (o : Option reading.Stage) → accept (stage_of g) (kind_of t) ≡ o → after_other (here g) t ≡ placed here o (kind_of t))
      (later-law : (w : Stage) → walk_fault (here w) singles (listed_after (stage_verdict w) t listed) at (at + suc (length t)) ts ≡ first_of (rest_fault m (stage_of w) (listed_after (stage_verdict w) t listed) (at + suc (length t)) b) follows) where
    more-stage : walk_fault (here g) singles listed back at (t ∷ ts) ≡ first_of (rest_fault m (stage_of g) listed at (t ∷ b)) follows
    unfolding placed stepped verdict_of verdict_fault first_of on-kind
    more-stage = go (accept (stage_of g) (kind_of t)) refl
      where
        go : (o : Option reading.Stage) → accept (stage_of g) (kind_of t) ≡ o → walk_fault (here g) singles listed back at (t ∷ ts) ≡ first_of (rest_fault m (stage_of g) listed at (t ∷ b)) follows
        go none e = onward (here g) Misplaced singles listed back at (next none e) ∙ rw number (sym (rw (rest-stop m (stage_of g) singles listed back at t b e)))
        go (some n) e =
            let w = stage_by (kind_of t) in
            let v = verdict_fault (stage_verdict w) singles listed back at t in
            onward (here g) (here w) singles listed back at (next (some n) e)
            ∙ rw (verdict w, singles-stage w t singles) (ap (first_of v) (later-law w))
            ∙ sym (first-assoc v (rest_fault m (stage_of w) (listed_after (stage_verdict w) t listed) (at + suc (length t)) b) follows)
            ∙ ap (λ (o : Option Fault). first_of o follows) (sym (rest-on m (stage_of g) singles listed back at t b n e))

  more-main : (g : Stage) (singles listed : List Tag) (back at : ℕ) → Before by_part.later singles at → walk_fault (Main g) singles listed back at (t ∷ ts) ≡ expected (Main g) singles listed back at (t ∷ ts)
  unfolding after_other closing within expected verdict_of later Fits
  more-main g singles listed back at nx =
      more-stage by_part.later Main (λ w. refl) (body ts) (later singles at) g singles listed back at (nx.number at (omega arith)) (λ o e. rw (e, after_other))
      (λ w. law (Main w) singles (listed_after (stage_verdict w) t listed) (listed_after (stage_verdict w) t listed) at (at + suc (length t)) (further by_part.later singles at (suc (length t)) nx) refl)
      ∙ sym (expected-more (Main g) singles listed back at)

  more-part : (g : Stage) (singles listed : List Tag) (back at : ℕ) → Before by_part.extension singles at → is_field_key t ≡ false → Agrees listed []
      → walk_fault (Part g) singles listed back at (t ∷ ts) ≡ expected (Part g) singles listed back at (t ∷ ts)
  unfolding after_other closing within expected verdict_of later Fits
  more-part g singles listed back at nx f a =
      let follows = first_of (fields_from [] (at + suc (length t)) (body ts)) (later singles at) in
      more-stage by_part.extension Part (λ w. refl) (ahead (body ts)) follows g singles listed back at (nx.number at (omega arith)) (λ o e. rw (f, e, after_other))
      (λ w. law (Part w) singles (listed_after (stage_verdict w) t listed) (listed_after (stage_verdict w) t listed) at (at + suc (length t)) (further by_part.extension singles at (suc (length t)) nx) (refl, agrees-listed w t listed f a) ∙ first-assoc _ _ _)
      ∙ sym (expected-more (Part g) singles listed back at ∙ rw (ahead_more t (body ts) f, fields-later [] at t (body ts) f) (first-assoc _ _ _))

  -- the key of a field: the standard's group that it begins
  keyed : (st : State) (singles listed seen : List Tag) (back at : ℕ) → Before by_part.extension singles at → Agrees listed seen → is_field_key t ≡ true
      → stepped st singles listed back at t ts Key ≡ first_of (groups_fault (field_fault by_part.extension) seen at ((t ∷ ahead (body ts)) ∷ fields (body ts))) (later singles at)
  unfolding stepped verdict_of verdict_fault singles_after listed_after first_of Fits expected within closing later fields_from groups_fault head_tag alone field_fault unfinished repeated
  keyed st singles listed seen back at nx a f =
      ap (first_of (repeated at (member t listed))) (law Key singles (t ∷ listed) (t ∷ seen) at (at + suc (length t)) (further by_part.extension singles at (suc (length t)) nx) (agrees-key t listed seen a))
      ∙ rw (a t f) (go (ahead (body ts)) (member t seen) refl)
    where
      go : (b : List Tag) (m : Bool) → member t seen ≡ m
          → first_of (repeated at m) (unfinished at b (first_of (first_of (bad_tag by_part.extension wrong_value (at + suc (length t)) b) (groups_fault (field_fault by_part.extension) (t ∷ seen) (at + suc (length t) + parts b) (fields (body ts)))) (later singles at)))
          ≡ first_of (groups_fault (field_fault by_part.extension) seen at ((t ∷ b) ∷ fields (body ts))) (later singles at)
      go b true e = rw (e, groups_fault)
      go [] false e = rw (e, groups_fault)
      go (u ∷ b) false e = rw (e, groups_fault) (rw (parts_next at t (u ∷ b), bad_tag-on by_part.extension wrong_value at t (u ∷ b) (key-no-value t f)))

  -- from a state in which a field may begin
  key_here : (st : State) (singles listed seen keys : List Tag) (back at : ℕ) → Before by_part.extension singles at → Agrees listed keys → is_field_key t ≡ true → after_other st t ≡ Key
      → ((f : Option Fault) → closing st back (t ∷ body ts) f ≡ f) → within st seen at (t ∷ body ts) ≡ fields_from keys at (t ∷ body ts)
      → walk_fault st singles listed back at (t ∷ ts) ≡ expected st singles seen back at (t ∷ ts)
  unfolding fields_from parts
  key_here st singles listed seen keys back at nx a f e c w =
      let z : at + 0 ≡ at = omega arith in
      onward st Key singles listed back at e ∙ keyed st singles listed keys back at nx a f
      ∙ sym (expected-more st singles seen back at ∙ c _ ∙ rw w (rw (ahead-key t (body ts) f, fields-key t (body ts) f, z)))

  -- in a field, its key just read or not
  value-here : (st : State) (singles listed seen : List Tag) (back at : ℕ) → Before by_part.extension singles at → Agrees listed seen → is_field_key t ≡ false
      → ((k : Bool) → is_two t ≡ k → after_other st t ≡ elim k [ true ↦ Misplaced | false ↦ Field ])
      → ((f : Option Fault) → closing st back (t ∷ body ts) f ≡ f) → within st seen at (t ∷ body ts) ≡ within Field seen at (t ∷ body ts)
      → walk_fault st singles listed back at (t ∷ ts) ≡ expected st singles seen back at (t ∷ ts)
  unfolding stepped verdict_of verdict_fault singles_after listed_after first_of Fits expected within closing later wrong_value
  value-here st singles listed seen back at nx a f n c w =
      bool_cases (is_two t)
      (λ k. stops by_part.extension st singles listed seen back at nx (n true k) c (w ∙ rw (ahead_more t (body ts) f, bad_tag-here by_part.extension wrong_value at t (ahead (body ts)) (rw (k, f)))))
      (λ k.
      onward st Field singles listed back at (n false k) ∙ law Field singles listed seen at (at + suc (length t)) (further by_part.extension singles at (suc (length t)) nx) a
      ∙ sym (expected-more st singles seen back at ∙ c _ ∙ rw w (rw (ahead_more t (body ts) f, bad_tag-on by_part.extension wrong_value at t (ahead (body ts)) (rw k), fields-later seen at t (body ts) f))))

  more-key : (singles listed seen : List Tag) (back at : ℕ) → Before by_part.extension singles at → Agrees listed seen → walk_fault Key singles listed back at (t ∷ ts) ≡ expected Key singles seen back at (t ∷ ts)
  unfolding after_other field_state closing within unfinished stepped verdict_of verdict_fault first_of
  more-key singles listed seen back at nx a =
      bool_cases (is_field_key t)
      (λ f. onward Key Unfinished singles listed back at (rw (f, after_other, field_state)) ∙ sym (expected-more Key singles seen back at ∙ rw (ahead-key t (body ts) f)))
      (λ f. value-here Key singles listed seen back at nx a f (λ k e. rw (f, e, after_other, field_state)) (λ o. rw (ahead_more t (body ts) f)) refl)

  more-field : (singles listed seen : List Tag) (back at : ℕ) → Before by_part.extension singles at → Agrees listed seen → walk_fault Field singles listed back at (t ∷ ts) ≡ expected Field singles seen back at (t ∷ ts)
  unfolding after_other field_state closing within first_of bad_tag
  more-field singles listed seen back at nx a =
      bool_cases (is_field_key t)
      (λ f. key_here Field singles listed seen seen back at nx a f (rw (f, after_other, field_state)) (λ o. refl) (rw (ahead-key t (body ts) f)))
      (λ f. value-here Field singles listed seen back at nx a f (λ k e. rw (f, e, after_other, field_state)) (λ o. refl) refl)

  fields-fault : (at : ℕ) (b : List Tag) → fields_fault by_part.extension at b ≡ first_of (part_fault by_part.extension by_part.extension language_only at (ahead b)) (fields_from [] at b)
  unfolding fields_fault ahead fields fields_from
  fields-fault at b = refl

  more-transform : (singles : List Tag) (back at : ℕ) → Before by_part.extension singles at → walk_fault Transform singles [] back at (t ∷ ts) ≡ expected Transform singles [] back at (t ∷ ts)
  unfolding after_other closing unfinished within part_fault language_only first_of stepped verdict_of stage_verdict verdict_fault singles_after listed_after Fits expected later stage_of
  more-transform singles back at nx =
      bool_cases (is_field_key t)
      (λ f. key_here Transform singles [] [] [] back at nx (λ k e. refl) f (rw (f, after_other)) (λ o. refl) (fields-fault at (t ∷ body ts) ∙ rw (ahead-key t (body ts) f)))
      (λ f. bool_cases (is_language t)
      (λ l.
      onward Transform (Part Language) singles [] back at (rw (f, l, after_other))
      ∙ law (Part Language) singles [] [] at (at + suc (length t)) (further by_part.extension singles at (suc (length t)) nx) (refl, λ k e. refl)
      ∙ sym (expected-more Transform singles [] back at ∙ rw (fields-fault at (t ∷ body ts), ahead_more t (body ts) f, fields-later [] at t (body ts) f) (rw (l, language_only, part_fault))))
      (λ l. stops by_part.extension Transform singles [] [] back at nx (rw (f, l, after_other)) (λ o. refl) (fields-fault at (t ∷ body ts) ∙ rw (ahead_more t (body ts) f) (rw (l, language_only, part_fault)))))

  law-more : Law (t ∷ ts)
  unfolding Fits after_other closing unfinished within expected rest_fault first_of
  law-more First singles listed seen back at nx fit = absurd fit
  law-more (Main g) singles listed seen back at nx fit = rw fit (more-main g singles seen back at nx)
  law-more Unicode singles listed seen back at nx fit = more-keywords Unicode singles listed seen back at nx (λ k e. rw (e, after_other)) (λ o. refl) refl
  law-more Keywords singles listed seen back at nx fit = more-keywords Keywords singles listed seen back at nx (λ k e. rw (e, after_other)) (λ o. refl) refl
  law-more Transform singles listed seen back at nx fit = rw fit (more-transform singles back at nx)
  law-more (Part g) singles listed seen back at nx fit =
      bool_cases (is_field_key t)
      (λ f. key_here (Part g) singles listed seen [] back at nx fit.1 f (rw (f, after_other)) (λ o. refl) (rw (ahead-key t (body ts) f)))
      (λ f. rw (← fit.0) (more-part g singles listed back at nx f fit.1))
  law-more Key singles listed seen back at nx fit = more-key singles listed seen back at nx fit
  law-more Field singles listed seen back at nx fit = more-field singles listed seen back at nx fit
  law-more Other singles listed seen back at nx fit = more-others Other singles listed seen back at nx refl (λ o. refl) refl
  law-more Others singles listed seen back at nx fit = more-others Others singles listed seen back at nx refl (λ o. refl) refl
  law-more Private singles listed seen back at nx fit = absurd fit
  law-more Privates singles listed seen back at nx fit = absurd fit
  law-more Misplaced singles listed seen back at nx fit = absurd fit
  law-more Unfinished singles listed seen back at nx fit = absurd fit

law : (ts : List Tag) → Law ts
law [] = law-nil
law (t ∷ ts) = bool_cases (is_singleton t) (law-single t ts (law ts)) (law-more t ts (law ts))

-- The whole.
pub grouped-flat : (p : Tag → Bool) (ts : List Tag) → (grouped p ts).before ++ flat (grouped p ts).groups ≡ ts
unfolding grouped with_tag flat
grouped-flat p [] = refl
grouped-flat p (t ∷ ts) = go (p t) (grouped-flat p ts)
  where
    go : (b : Bool) → (grouped p ts).before ++ flat (grouped p ts).groups ≡ ts → (with_tag b t (grouped p ts)).before ++ flat (with_tag b t (grouped p ts)).groups ≡ t ∷ ts
    go true e = ap (◌∷◌ t) e
    go false e = ap (◌∷◌ t) e

pub parts-up_to : (ts : List Tag) → parts (up_to is_x ts) ≡ parts (body ts) + parts (flat (heads ts))
unfolding body heads
parts-up_to ts = ap parts (sym (grouped-flat is_singleton (up_to is_x ts))) ∙ parts-append (body ts) (flat (heads ts))

grammar-parts : (ts : List Tag) → grammar_fault by_part ts ≡ first_of (no_language by_part.first (body ts)) (first_of (part_fault by_part.first by_part.later start 0 (body ts)) (behind [] (parts (body ts)) ts))
unfolding grammar_fault behind body heads
grammar-parts ts = ap (λ (n : ℕ). first_of (no_language by_part.first (body ts)) (first_of (part_fault by_part.first by_part.later start 0 (body ts)) (first_of (groups_fault (extension_fault by_part.extension) [] (parts (body ts)) (heads ts)) (private_fault n (from is_x ts))))) (parts-up_to ts)

started : (t : Tag) (ts : List Tag) (g : Stage) → is_singleton t ≡ false → first_state t ≡ Main g → stage_verdict g ≡ stage_verdict Language → start t ≡ some (stage_of g) → walk_fault First [] [] 0 0 (t ∷ ts) ≡ grammar_fault by_part (t ∷ ts)
unfolding stepped verdict_of verdict_fault stage_verdict singles_after listed_after first_of after_other expected closing within Fits no_language part_fault member
started t ts g s e v f =
    let z : parts (t ∷ body ts) ≡ 0 + suc (length t) + parts (body ts) = omega (arith, parts_next 0 t (body ts)) in
    step First [] [] 0 0 t ts (Main g) (next-other First t s ∙ e)
    ∙ ap (λ (w : Verdict). first_of (verdict_fault w [] [] 0 0 t) (walk_fault (Main g) (singles_after w t []) (listed_after w t []) 0 (0 + suc (length t)) ts)) v
    ∙ law ts (Main g) [] [] [] 0 (0 + suc (length t)) (before-first (length t)) refl
    ∙ sym (grammar-parts (t ∷ ts) ∙ rw (body_more t ts s, behind_more [] (parts (t ∷ body ts)) t ts s) (rw (f, part_fault) (rw z)))

refused : (t : Tag) (ts : List Tag) → is_singleton t ≡ false → first_state t ≡ Misplaced → start t ≡ none → walk_fault First [] [] 0 0 (t ∷ ts) ≡ grammar_fault by_part (t ∷ ts)
unfolding stepped verdict_of misplaced_number verdict_fault first_of after_other no_language part_fault
refused t ts s e f =
    step First [] [] 0 0 t ts Misplaced (next-other First t s ∙ e) ∙ sym (grammar-parts (t ∷ ts) ∙ rw (body_more t ts s) (rw (f, part_fault)))

by_kind : (t : Tag) (ts : List Tag) → is_singleton t ≡ false → is_language t ≡ false → same t root ≡ false → (k : Kind) → kind_of t ≡ k → walk_fault First [] [] 0 0 (t ∷ ts) ≡ grammar_fault by_part (t ∷ ts)
unfolding first_state start stage_of stage_verdict
by_kind t ts s l r a_script e = started t ts Script s (rw (l, r, e, first_state)) refl (rw (l, r, e, start))
by_kind t ts s l r a_region e = refused t ts s (rw (l, r, e, first_state)) (rw (l, r, e, start))
by_kind t ts s l r a_variant e = refused t ts s (rw (l, r, e, first_state)) (rw (l, r, e, start))
by_kind t ts s l r a_none e = refused t ts s (rw (l, r, e, first_state)) (rw (l, r, e, start))

-- the walk finds the standard's first fault, and none where the standard finds none
pub walk-grammar : (t : Tag) (ts : List Tag) → walk_fault First [] [] 0 0 (t ∷ ts) ≡ grammar_fault by_part (t ∷ ts)
unfolding first_state start stage_of stage_verdict stepped verdict_of misplaced_number verdict_fault first_of after_singleton no_language
walk-grammar t ts =
    bool_cases (is_singleton t) (λ s. step First [] [] 0 0 t ts Misplaced (next-single First t s) ∙ sym (grammar-parts (t ∷ ts) ∙ rw (body-single t ts s)))
    (λ s. bool_cases (is_language t) (λ l. started t ts Language s (rw (l, first_state)) refl (rw (l, start)))
    (λ l. bool_cases (same t root) (λ r. started t ts Root s (rw (l, r, first_state)) refl (rw (l, r, start))) (λ r. by_kind t ts s l r (kind_of t) refl)))
