-- The walk in the code's terms is the walk over the standard's subtags, for subtags of 1 to 8 small letters and digits:
-- marks stand for the singletons seen, numbers for the variants and keys. Assumes nothing.
use mathlib.Core.Path.{◌≡◌, refl, sym, ap, ap₂, ◌∙◌}
use mathlib.Core.Bool.{Bool, true, false, cond, not, ◌&&◌, ◌||◌}
use mathlib.Core.List.{List, [], ◌∷◌, ◌++◌, map}
use mathlib.Core.Option.{Option, none, some}
use Prim.Native.Nat.{ℕ, zero, suc, ◌+◌, ◌^◌, compare, Ordering}
use native.Mathlib.Omega.{arith}
use lib.Bits.{bit_or}
use lib.Count.{ones}
use lib.Dec.{eqb, leb, compare_is_eq}
use lib.ListN.{length}
use borrow.Author.Tests.{eq-eqb, ne_eqb, eqb-true, eqb-false}
use Rattle.standard.specs.Tag.{Tag, and_then, order, same, All}
use Rattle.standard.specs.Grammar as grammar
use Rattle.standard.specs.Grammar.{every, a_script, a_region, a_variant, a_none, one_size, two_size, kind_of, is_singleton, is_two}
use Rattle.standard.specs.Reading as reading
use Rattle.standard.specs.Reading.{Fault, first_of, member, accept, wrong_keyword, is_x, root}
use Rattle.standard.proofs.General.{bool_cases, clash, and-true}
use Rattle.standard.proofs.Bytes.{word}
use Rattle.standard.proofs.Shapes.{Word}
use Rattle.subtag.specs.declared.Subtag.{Subtag}
use Rattle.subtag.specs.Subtags.{first_byte, packed, key_of, subtag_of, PlainBytes, PlainTag}
use Rattle.subtag.specs.Kinds.{size_from, language_from, kind_from, keyword_from, field_from}
use Rattle.subtag.proofs.Shapes.{language-from, kind-from, keyword-from, field-from, singleton-from, two_from}
use Rattle.subtag.proofs.Keys.{same_key}
use Rattle.reader.specs.declared.Parts.{Parts}
use Rattle.std.specs.Prelude.{Some, None}
use Rattle.reader.specs.declared.steps.Verdict.{Verdict}
use Rattle.reader.specs.declared.steps.Verdict.TheVariants as verdicts
use Rattle.reader.specs.declared.steps.Stage.{Stage}
use Rattle.reader.specs.declared.steps.Stage.TheVariants.{Language, Script, Region, Variant, Root}
use Rattle.reader.specs.declared.steps.State.{State}
use Rattle.reader.specs.declared.steps.State.TheVariants.{First, Main, Unicode, Keywords, Transform, Part, Key, Field, Other, Others, Private, Privates, Misplaced, Unfinished}
use Rattle.reader.specs.Parts.{Outcome, refused, outcome_as}
use Rattle.reader.specs.Marks.{place_of, bit, has, marked_with}
use Rattle.reader.specs.Walk.{stage_of, stage_by, placed, first_state, field_state, opens, after_singleton, after_other, next_state, pending, stage_verdict, verdict_of, misplaced_number, repeated, verdict_fault, singles_after, listed_after, walk_fault, cut, unread, walk_parts}
use Rattle.reader.specs.Steps.{root_key, script_first, first_from, stage_from, part_from, keywords_from, transform_from, value_from, other_from, opens_from, next_from, misplaced_from, among, ended, steps}
use Rattle.reader.proofs.Sets.{Marks, marks-empty, marks-some, marks-none, marks-more, seen_test}
use Rattle.reader.proofs.Places.{place_in, place_same}
use Rattle.reader.proofs.Choices.{number-first, number-later, number-extension}
use Rattle.reader.proofs.Walked.{step, stepped}

-- Sizes.
one_size_lem : (n : ℕ) → one_size (size_from n) ≡ eqb n 1
unfolding one_size size_from
one_size_lem n =
    bool_cases (eqb n 0) (λ e. rw (eqb-true n 0 e))
    (λ e. bool_cases (eqb n 1) (λ f. rw (e, f)) (λ f. rw (e, f) (go (eqb n 2) (eqb n 3) (eqb n 4) (leb n 8))))
  where
    go : (a b c d : Bool) → one_size (cond a grammar.size2 (cond b grammar.size3 (cond c grammar.size4 (cond d grammar.size5to8 grammar.size_over8)))) ≡ false
    go true b c d = refl
    go false true c d = refl
    go false false true d = refl
    go false false false true = refl
    go false false false false = refl

two_size_lem : (n : ℕ) → two_size (size_from n) ≡ eqb n 2
unfolding two_size size_from
two_size_lem n =
    bool_cases (eqb n 0) (λ e. rw (eqb-true n 0 e))
    (λ e. bool_cases (eqb n 1) (λ f. rw (eqb-true n 1 f))
    (λ f. bool_cases (eqb n 2) (λ g. rw (e, f, g)) (λ g. rw (e, f, g) (go (eqb n 3) (eqb n 4) (leb n 8)))))
  where
    go : (b c d : Bool) → two_size (cond b grammar.size3 (cond c grammar.size4 (cond d grammar.size5to8 grammar.size_over8))) ≡ false
    go true c d = refl
    go false true d = refl
    go false false true = refl
    go false false false = refl

-- Words that the code knows by a byte or a number.
same-one : (a b : ℕ) → same (a ∷ []) (b ∷ []) ≡ eqb a b
unfolding same order
same-one a b = go (compare a b)
  where
    go : (o : Ordering) → compare_is_eq (and_then o Ordering.eq) ≡ compare_is_eq o
    go Ordering.lt = refl
    go Ordering.eq = refl
    go Ordering.gt = refl

same-root : (t : Tag) → PlainTag t → same t root ≡ eqb (key_of t) root_key
unfolding key_of packed PlainTag PlainBytes
same-root t h = same_key t root h (omega arith, omega arith, (omega arith, omega arith, (omega arith, omega arith, (omega arith, omega arith, (omega arith, omega arith, tt)))))

single-byte : (t : Tag) → length t ≡ 1 → t ≡ first_byte t ∷ []
unfolding first_byte
single-byte [] e = absurd (omega arith)
single-byte (b ∷ []) e = refl
single-byte (b ∷ c ∷ bs) e = absurd (omega arith)

choose : Bool → Bool → Bool → State
choose a b c = elim a [ true ↦ Unicode | false ↦ elim b [ true ↦ Transform | false ↦ elim c [ true ↦ Private | false ↦ Other ] ] ]

opens-from : (t : Tag) → length t ≡ 1 → opens_from (first_byte t) ≡ opens t
unfolding opens_from opens is_x choose
opens-from t e = sym (chosen (word-is 117) (word-is 116) (word-is 120))
  where
    word-is : (b : ℕ) → same t (b ∷ []) ≡ eqb (first_byte t) b
    word-is b = ap (λ (x : Tag). same x (b ∷ [])) (single-byte t e) ∙ same-one (first_byte t) b

    chosen : {a b c d e f : Bool} → a ≡ d → b ≡ e → c ≡ f → choose a b c ≡ choose d e f
    chosen g h i = λ n. choose (g n) (h n) (i n)

-- The transition.
script-first : (k : grammar.Kind) → script_first k ≡ elim k [ a_script ↦ Main Script | a_region ↦ Misplaced | a_variant ↦ Misplaced | a_none ↦ Misplaced ]
unfolding script_first
script-first a_script = refl
script-first a_region = refl
script-first a_variant = refl
script-first a_none = refl

module _ (t : Tag) (h : PlainTag t) where
  single-from : eqb (length t) 1 ≡ is_singleton t
  single-from = sym (singleton-from t ∙ one_size_lem (length t))

  pair-from : eqb (length t) 2 ≡ is_two t
  pair-from = sym (two_from t ∙ two_size_lem (length t))

  stage-from : (here : Stage → State) (s : Stage) → stage_from here s (subtag_of t) ≡ placed here (accept (stage_of s) (kind_of t)) (kind_of t)
  unfolding stage_from
  stage-from here s = rw (kind-from t)

  first-from : first_from (subtag_of t) ≡ first_state t
  unfolding first_from first_state subtag_of
  first-from =
      let q = ap script_first (kind-from t) ∙ script-first (kind_of t) in
      let r = sym (same-root t h) in
      λ n. elim (language-from t n) [ true ↦ Main Language | false ↦ elim (r n) [ true ↦ Main Root | false ↦ q n ] ]

  keywords-from : keywords_from (subtag_of t) ≡ elim (wrong_keyword t) [ true ↦ Misplaced | false ↦ Keywords ]
  unfolding keywords_from wrong_keyword subtag_of
  keywords-from = λ n. elim (pair-from n && not (keyword-from t n)) [ true ↦ Misplaced | false ↦ Keywords ]

  transform-from : transform_from (subtag_of t) ≡ after_other Transform t
  unfolding transform_from after_other
  transform-from = λ n. elim (field-from t n) [ true ↦ Key | false ↦ elim (language-from t n) [ true ↦ Part Language | false ↦ Misplaced ] ]

  part-from : (s : Stage) → part_from s (subtag_of t) ≡ after_other (Part s) t
  unfolding part_from after_other
  part-from s = let q = stage-from Part s in λ n. elim (field-from t n) [ true ↦ Key | false ↦ q n ]

  value-from : (key : State) → value_from key (subtag_of t) ≡ field_state key t
  unfolding value_from field_state subtag_of
  value-from key = λ n. elim (field-from t n) [ true ↦ key | false ↦ elim (pair-from n) [ true ↦ Misplaced | false ↦ Field ] ]

  other_from_lem : (st : State) → other_from st (subtag_of t) ≡ after_other st t
  unfolding other_from after_other
  other_from_lem First = first-from
  other_from_lem (Main s) = stage-from Main s
  other_from_lem Unicode = keywords-from
  other_from_lem Keywords = keywords-from
  other_from_lem Transform = transform-from
  other_from_lem (Part s) = part-from s
  other_from_lem Key = value-from Unfinished
  other_from_lem Field = value-from Key
  other_from_lem Other = refl
  other_from_lem Others = refl
  other_from_lem Private = refl
  other_from_lem Privates = refl
  other_from_lem Misplaced = refl
  other_from_lem Unfinished = refl

  pub next-from : (st : State) → next_from st (subtag_of t) ≡ next_state st t
  unfolding next_from next_state subtag_of
  next-from st = bool_cases (eqb (length t) 1) (λ e. go true e (ap (after_singleton st) (opens-from t (eqb-true (length t) 1 e)))) (λ e. go false e (other_from_lem st))
    where
      taken : Bool → State → State → State
      taken b x y = elim b [ true ↦ x | false ↦ y ]

      chosen : Bool → Type 0
      chosen b = elim b [ true ↦ after_singleton st (opens_from (first_byte t)) ≡ after_singleton st (opens t) | false ↦ other_from st (subtag_of t) ≡ after_other st t ]

      go : (b : Bool) → eqb (length t) 1 ≡ b → chosen b → taken (eqb (length t) 1) (after_singleton st (opens_from (first_byte t))) (other_from st (subtag_of t)) ≡ taken (is_singleton t) (after_singleton st (opens t)) (after_other st t)
      go true e q = rw (e, sym single-from ∙ e) q
      go false e q = rw (e, sym single-from ∙ e) q

-- Only a singleton is held against singletons.
quiet : Verdict → Bool
quiet v = elim v [ verdicts.Misplaced ↦ true | verdicts.Unfinished ↦ true | verdicts.Singleton ↦ false | verdicts.Listed ↦ true | verdicts.Plain ↦ true ]

Quiet : State → Type 0
Quiet n = quiet (verdict_of n) ≡ true

quiet-stage : (s : Stage) → quiet (stage_verdict s) ≡ true
unfolding quiet
quiet-stage Language = refl
quiet-stage Script = refl
quiet-stage Region = refl
quiet-stage Variant = refl
quiet-stage Root = refl

quiet-either : (b : Bool) (x y : State) → Quiet x → Quiet y → Quiet (elim b [ true ↦ x | false ↦ y ])
quiet-either true x y p q = p
quiet-either false x y p q = q

quiet-placed : (here : Stage → State) → ((s : Stage) → Quiet (here s)) → (o : Option reading.Stage) (k : grammar.Kind) → Quiet (placed here o k)
unfolding placed Quiet quiet
quiet-placed here h none k = refl
quiet-placed here h (some s) k = h (stage_by k)

quiet-kind : (k : grammar.Kind) → Quiet (script_first k)
unfolding script_first Quiet quiet
quiet-kind a_script = refl
quiet-kind a_region = refl
quiet-kind a_variant = refl
quiet-kind a_none = refl

quiet-other : (st : State) (t : Subtag) → Quiet (other_from st t)
unfolding other_from first_from stage_from keywords_from transform_from part_from value_from Quiet quiet
quiet-other First t = quiet-either (language_from t) _ _ refl (quiet-either (eqb t.key root_key) _ _ refl (quiet-kind (kind_from t)))
quiet-other (Main s) t = quiet-placed Main quiet-stage (accept (stage_of s) (kind_from t)) (kind_from t)
quiet-other Unicode t = quiet-either (eqb t.len 2 && not (keyword_from t)) _ _ refl refl
quiet-other Keywords t = quiet-either (eqb t.len 2 && not (keyword_from t)) _ _ refl refl
quiet-other Transform t = quiet-either (field_from t) _ _ refl (quiet-either (language_from t) _ _ refl refl)
quiet-other (Part s) t = quiet-either (field_from t) _ _ refl (quiet-placed Part quiet-stage (accept (stage_of s) (kind_from t)) (kind_from t))
quiet-other Key t = quiet-either (field_from t) _ _ refl (quiet-either (eqb t.len 2) _ _ refl refl)
quiet-other Field t = quiet-either (field_from t) _ _ refl (quiet-either (eqb t.len 2) _ _ refl refl)
quiet-other Other t = refl
quiet-other Others t = refl
quiet-other Private t = refl
quiet-other Privates t = refl
quiet-other Misplaced t = refl
quiet-other Unfinished t = refl

singleton-length : (st : State) (t : Tag) → PlainTag t → verdict_of (next_state st t) ≡ verdicts.Singleton → length t ≡ 1
unfolding next_from subtag_of Quiet quiet
singleton-length st t h v =
    bool_cases (eqb (length t) 1) (λ e. eqb-true (length t) 1 e)
    (λ e.
    let n : next_from st (subtag_of t) ≡ other_from st (subtag_of t) = rw (e, next_from) in
    clash {b = true} refl (sym (sym (ap quiet v) ∙ ap (λ (m : State). quiet (verdict_of m)) (sym (next-from t h st) ∙ n) ∙ quiet-other st (subtag_of t))))

-- Marks and numbers stand for what was seen.
eqb-flip : (a b : ℕ) → eqb a b ≡ eqb b a
eqb-flip a b =
    bool_cases (eqb a b) (λ e. e ∙ sym (eq-eqb b a (sym (eqb-true a b e))))
    (λ e. e ∙ sym (ne_eqb b a (λ f. eqb-false a b e (sym f))))

places : List Tag → List ℕ
places ss = map (λ (t : Tag). place_of (first_byte t)) ss

length-places : (ss : List Tag) → length (places ss) ≡ length ss
unfolding places
length-places [] = refl
length-places (s ∷ ss) = ap suc (length-places ss)

record Single (t : Tag) : Type 0 where
  one : length t ≡ 1
  low : word (first_byte t) ≡ true

single_of : (t : Tag) → length t ≡ 1 → Word t → Single t
unfolding every first_byte
single_of [] e w = absurd (omega arith)
single_of (b ∷ bs) e w = record { one = e; low = (and-true (word b) (every word bs) w).0 }

has-member : (t : Tag) → Single t → (ss : List Tag) → All Single ss → has (places ss) (place_of (first_byte t)) ≡ member t ss
unfolding has places member All
has-member t h [] a = refl
has-member t h (s ∷ ss) a = ap₂ ◌||◌ (one a.0) (has-member t h ss a.1)
  where
    one : Single s → eqb (place_of (first_byte s)) (place_of (first_byte t)) ≡ same t s
    one k =
        place_same (first_byte s) (first_byte t) k.low h.low ∙ eqb-flip (first_byte s) (first_byte t) ∙ sym (same-one (first_byte t) (first_byte s))
        ∙ sym (ap₂ same (single-byte t h.one) (single-byte s k.one))

abbrev Held : List Tag → List ℕ → Type 0
Held listed keys = (t : Tag) → PlainTag t → among (key_of t) keys ≡ member t listed

among-last : (k x : ℕ) (keys : List ℕ) → among k (keys ++ (x ∷ [])) ≡ (eqb x k || among k keys)
unfolding among
among-last k x [] = refl
among-last k x (y ∷ keys) = ap (λ (b : Bool). eqb y k || b) (among-last k x keys) ∙ swap (eqb y k) (eqb x k) (among k keys)
  where
    swap : (a b c : Bool) → (a || (b || c)) ≡ (b || (a || c))
    swap true true c = refl
    swap true false c = refl
    swap false true c = refl
    swap false false c = refl

held_more : (listed : List Tag) (keys : List ℕ) (u : Tag) → Held listed keys → PlainTag u → Held (u ∷ listed) (keys ++ (key_of u ∷ []))
unfolding member
held_more listed keys u h p t q =
    among-last (key_of t) (key_of u) keys ∙ ap₂ ◌||◌ (eqb-flip (key_of u) (key_of t) ∙ sym (same_key t u q p)) (h t q)

held_none : Held [] []
unfolding among member
held_none t p = refl

-- 02, T-03: the number of a misplaced subtag by the marks is that by the singletons
number-from : (set at : ℕ) (singles : List Tag) → Marks set (places singles) → misplaced_from set at ≡ misplaced_number singles at
unfolding misplaced_number places
number-from set zero singles m = sym (number-first set 0 refl)
number-from set (suc at) [] m = sym (number-later set (suc at) (λ e. absurd (omega arith)) (marks-empty set m))
number-from set (suc at) (s ∷ singles) m = sym (number-extension set (suc at) (λ e. absurd (omega arith)) (marks-some set (place_of (first_byte s)) (places singles) m))

-- The law.
pub record Fine (t : Tag) : Type 0 where
  pub plain : PlainTag t
  pub low : Word t

record Stands (set : ℕ) (singles : List Tag) (keys : List ℕ) (listed : List Tag) : Type 0 where
  marks : Marks set (places singles)
  all-single : All Single singles
  held : Held listed keys

abbrev Law : List Tag → Type 0
Law ts = (st : State) (p : Parts) (set : ℕ) (keys : List ℕ) (singles listed : List Tag) (back at : ℕ) → Stands set singles keys listed → steps st p set keys back at ts ≡ outcome_as (walk_fault st singles listed back at ts) (walk_parts st p singles at ts)

law-nil : Law []
unfolding steps ended walk_fault walk_parts outcome_as
law-nil st p set keys singles listed back at h =
    let n : ones set ≡ length singles = h.marks.count ∙ length-places singles in
    bool_cases (pending st) (λ e. rw (e, outcome_as) (rw (e, ended))) (λ e. rw (e, outcome_as) (rw (e, ended) (rw n)))

module _ (t : Tag) (ts : List Tag) (fine : Fine t) (law : Law ts) (st : State) (p : Parts) (set : ℕ) (keys : List ℕ) (singles listed : List Tag) (back at : ℕ) (h : Stands set singles keys listed) where
  next : State
  next = next_state st t

  -- the walk goes on, or stops
  result : Verdict → Outcome
  result v =
      outcome_as (first_of (verdict_fault v singles listed back at t) (walk_fault next (singles_after v t singles) (listed_after v t listed) at (at + suc (length t)) ts))
      (walk_parts next (cut next (at + length t) p) (singles_after v t singles) (at + suc (length t)) ts)

  -- the walk goes on with these singletons and these variants or keys
  goes : (m : ℕ) (more : List ℕ) (ss ls : List Tag) → Stands m ss more ls
      → steps (next_from st (subtag_of t)) (cut (next_from st (subtag_of t)) (at + length t) p) m more at (at + suc (length t)) ts
      ≡ outcome_as (walk_fault next ss ls at (at + suc (length t)) ts) (walk_parts next (cut next (at + length t) p) ss (at + suc (length t)) ts)
  unfolding next
  goes m more ss ls k = rw (next-from t fine.plain st) (law next (cut next (at + length t) p) m more ss ls at (at + suc (length t)) k)

  on-listed : verdict_of next ≡ verdicts.Listed → (b : Bool) → member t listed ≡ b → steps st p set keys back at (t ∷ ts) ≡ result verdicts.Listed
  unfolding steps next result verdict_fault singles_after listed_after first_of outcome_as repeated
  on-listed e true m = rw (next-from t fine.plain st, e, h.held t fine.plain ∙ m, steps) (rw (m, first_of, repeated))
  on-listed e false m =
      rw (next-from t fine.plain st, e, h.held t fine.plain ∙ m, steps)
      (rw (m, first_of) (goes set (keys ++ (key_of t ∷ [])) singles (t ∷ listed) (record { marks = h.marks; all-single = h.all-single; held = held_more listed keys t h.held fine.plain })))

  marked-as : (b : Bool) → eqb (bit set (place_of (first_byte t))) 1 ≡ b → marked_with set (first_byte t) ≡ elim b [ true ↦ None | false ↦ Some (bit_or set (2 ^ place_of (first_byte t))) ]
  unfolding marked_with
  marked-as b f = rw (f, marked_with)

  on-single : verdict_of next ≡ verdicts.Singleton → Single t → (b : Bool) → member t singles ≡ b → steps st p set keys back at (t ∷ ts) ≡ result verdicts.Singleton
  unfolding steps next result verdict_fault singles_after listed_after first_of outcome_as repeated All places
  on-single e s true m =
      let f = marked-as true (seen_test h.marks (place_of (first_byte t)) ∙ has-member t s singles h.all-single ∙ m) in
      rw (next-from t fine.plain st, e, f, steps) (rw (m, first_of, repeated))
  on-single e s false m =
      let g = has-member t s singles h.all-single ∙ m in
      let f = marked-as false (seen_test h.marks (place_of (first_byte t)) ∙ g) in
      let i = place_in (first_byte t) in
      rw (next-from t fine.plain st, e, f, steps)
      (rw (m, first_of) (goes (bit_or set (2 ^ place_of (first_byte t))) [] (t ∷ singles) [] (record { marks = marks-more set (places singles) (place_of (first_byte t)) h.marks g (omega arith); all-single = (s, h.all-single); held = held_none })))

  by-verdict : (v : Verdict) → verdict_of next ≡ v → steps st p set keys back at (t ∷ ts) ≡ result v
  unfolding steps next result verdict_fault singles_after listed_after first_of outcome_as
  by-verdict verdicts.Misplaced e = rw (next-from t fine.plain st, e, steps) (ap (λ (n : ℕ). refused n at) (number-from set at singles h.marks))
  by-verdict verdicts.Unfinished e = rw (next-from t fine.plain st, e, steps)
  by-verdict verdicts.Plain e = rw (next-from t fine.plain st, e, steps) (goes set keys singles listed h)
  by-verdict verdicts.Listed e = on-listed e (member t listed) refl
  by-verdict verdicts.Singleton e = on-single e (single_of t (singleton-length st t fine.plain e) fine.low) (member t singles) refl

  law-cons : steps st p set keys back at (t ∷ ts) ≡ outcome_as (walk_fault st singles listed back at (t ∷ ts)) (walk_parts st p singles at (t ∷ ts))
  unfolding next result walk_parts stepped
  law-cons = by-verdict (verdict_of next) refl ∙ ap (λ (o : Option Fault). outcome_as o (walk_parts st p singles at (t ∷ ts))) (sym (step st singles listed back at t ts (next_state st t) refl))

law : (ts : List Tag) → All Fine ts → Law ts
unfolding All
law [] a = law-nil
law (t ∷ ts) a = law-cons t ts a.0 (law ts a.1)

-- from the start
pub walked-steps : (ts : List Tag) → All Fine ts → steps First unread 0 [] 0 0 ts ≡ outcome_as (walk_fault First [] [] 0 0 ts) (walk_parts First unread [] 0 ts)
unfolding places All
walked-steps ts a = law ts a First unread 0 [] [] [] 0 0 (record { marks = marks-none; all-single = tt; held = held_none })
