-- One turn of the walk's loop, in the code's terms: what the scan, the transition and the verdict give at a place, and
-- what the walk makes of it. Assumes nothing.
use mathlib.Core.Path.{◌≡◌, refl, sym, ap, ◌∙◌}
use mathlib.Core.Bool.{Bool, true, false, ◌||◌}
use mathlib.Core.List.{List, [], ◌∷◌, ◌++◌}
use Prim.Native.Nat.{ℕ, suc, ◌+◌, ◌-◌, ◌≤◌, ◌<◌}
use native.Mathlib.Numerals.{add-one}
use native.Mathlib.Omega.{arith}
use lib.Dec.{eqb}
use lib.ListN.{length, get_or, take, drop, length-set, drop_of_length-le}
use lib.Seq.{take-suc-set}
use Rattle.std.specs.List.{list_any}
use Rattle.standard.specs.Tag.{Tag, head_tag}
use Rattle.standard.specs.Reading.{split, after_first}
use Rattle.subtag.specs.declared.Subtag.{Subtag}
use Rattle.subtag.specs.Subtags.{first_byte, key_of, subtag_of}
use Rattle.subtag.proofs.Walk.{split-cons, judged, scanned-len, scanned-fits, walk_more, walk_end}
use Rattle.reader.specs.declared.Parts.{Parts}
use Rattle.std.specs.Prelude.{Option, Some, None}
use Rattle.reader.specs.declared.steps.Verdict.{Verdict}
use Rattle.reader.specs.declared.steps.Verdict.TheVariants as verdicts
use Rattle.reader.specs.declared.steps.Stage.{Stage}
use Rattle.reader.specs.declared.steps.Stage.TheVariants.{Language, Script, Region, Variant, Root}
use Rattle.reader.specs.declared.steps.State.{State}
use Rattle.reader.specs.declared.steps.State.TheVariants.{First, Main, Unicode, Keywords, Transform, Part, Key, Field, Other, Others, Private, Privates, Misplaced, Unfinished}
use Rattle.reader.specs.Marks.{marked_with}
use Rattle.reader.specs.Parts.{Outcome, refused}
use Rattle.reader.specs.Walk.{verdict_of, cut_stage, extended, cut, unread}
use Rattle.reader.specs.Steps.{next_from, misplaced_from, among, ended, steps, steps_of}

-- the subtag at a place, and those behind it
abbrev pub here : List ℕ → ℕ → Tag
here s at = head_tag (split (drop at s))

abbrev behind : List ℕ → ℕ → List Tag
behind s at = after_first (split (drop at s))

-- what the calls say
pub record Told (s : List ℕ) (at : ℕ) (t : Subtag) (st n : State) (v : Verdict) : Type 0 where
  pub is : t ≡ subtag_of (here s at)
  pub len_is : t.len ≡ length (here s at)
  pub len-fits : t.len ≤ length s - at
  pub next : next_from st (subtag_of (here s at)) ≡ n
  pub verdict : verdict_of n ≡ v

pub told : (s : List ℕ) (at : ℕ) (t : Subtag) (st n : State) (v : Verdict) → t ≡ subtag_of (head_tag (split (take (length s - at) (drop at s)))) → n ≡ next_from st t → v ≡ verdict_of n → Told s at t st n v
told s at t st n v e f g =
    let j = judged s at t e in
    record { is = j; len_is = scanned-len (here s at) t j; len-fits = scanned-fits s at t e; next = sym (f ∙ ap (next_from st) j); verdict = sym g }

-- the walk after this subtag
unfoldable pub rest : List ℕ → ℕ → ℕ → State → Parts → ℕ → List ℕ → Outcome
rest s at len n p set keys = steps n (cut n (at + len) p) set keys at (at + suc len) (behind s at)

unfoldable pub on_listed : Bool → List ℕ → ℕ → ℕ → State → Parts → ℕ → List ℕ → ℕ → Outcome
on_listed true s at len n p set keys key = refused 6 at
on_listed false s at len n p set keys key = rest s at len n p set (keys ++ (key ∷ []))

module _ (s : List ℕ) (at : ℕ) (t : Subtag) (st n : State) (v : Verdict) (h : Told s at t st n v) (p : Parts) (set : ℕ) (keys : List ℕ) (back : ℕ) where
  abbrev Now : Outcome
  Now = steps st p set keys back at (split (drop at s))

  cons : Now ≡ steps st p set keys back at (here s at ∷ behind s at)
  cons = ap (steps st p set keys back at) (split-cons (drop at s))

  pub turn-misplaced : v ≡ verdicts.Misplaced → Now ≡ refused (misplaced_from set at) at
  unfolding steps
  turn-misplaced e = cons ∙ rw (h.next, h.verdict, e, steps)

  pub turn-unfinished : v ≡ verdicts.Unfinished → Now ≡ refused 7 back
  unfolding steps
  turn-unfinished e = cons ∙ rw (h.next, h.verdict, e, steps)

  pub turn-plain : v ≡ verdicts.Plain → Now ≡ rest s at t.len n p set keys
  unfolding steps rest
  turn-plain e = cons ∙ rw (h.next, h.verdict, e, steps) (rw (h.next, h.len_is))

  pub turn-repeat : v ≡ verdicts.Singleton → (m : Option ℕ) → m ≡ marked_with set t.first → m ≡ None → Now ≡ refused 6 at
  unfolding steps subtag_of
  turn-repeat e m f g = let k : marked_with set (first_byte (here s at)) ≡ None = ap (λ (u : Subtag). marked_with set u.first) (sym h.is) ∙ sym f ∙ g in cons ∙ rw (h.next, h.verdict, e, k, steps)

  pub turn-new : v ≡ verdicts.Singleton → (m : Option ℕ) → m ≡ marked_with set t.first → (k : ℕ) → m ≡ Some k → Now ≡ rest s at t.len n p k []
  unfolding steps subtag_of rest
  turn-new e m f k g = let q : marked_with set (first_byte (here s at)) ≡ Some k = ap (λ (u : Subtag). marked_with set u.first) (sym h.is) ∙ sym f ∙ g in cons ∙ rw (h.next, h.verdict, e, q, steps) (rw (h.next, h.len_is))

  pub turn-listed : v ≡ verdicts.Listed → Now ≡ on_listed (among t.key keys) s at t.len n p set keys t.key
  unfolding steps subtag_of rest on_listed
  turn-listed e =
      let q : t.key ≡ key_of (here s at) = ap (λ (u : Subtag). u.key) h.is in
      cons ∙ rw q (go (among (key_of (here s at)) keys) refl)
    where
      go : (b : Bool) → among (key_of (here s at)) keys ≡ b → steps st p set keys back at (here s at ∷ behind s at) ≡ on_listed b s at t.len n p set keys (key_of (here s at))
      go true f = rw (h.next, h.verdict, e, f, steps)
      go false f = rw (h.next, h.verdict, e, f, steps) (rw (h.next, h.len_is))

-- behind this subtag
module _ (s : List ℕ) (at len : ℕ) (e : len ≡ length (here s at)) (n : State) (p : Parts) (set : ℕ) (keys : List ℕ) where
  pub rest_end : length s - at ≤ len → rest s at len n p set keys ≡ ended n (cut n (at + len) p) set at
  unfolding rest steps after_first
  rest_end h = ap (λ (ts : List Tag). steps n (cut n (at + len) p) set keys at (at + suc len) (after_first ts)) (walk_end s at len e h)

  pub rest_more : len < length s - at → rest s at len n p set keys ≡ steps n (cut n (at + len) p) set keys at (at + len + 1) (split (drop (at + len + 1) s))
  unfolding rest after_first
  rest_more h =
      let z : at + suc len ≡ at + len + 1 = omega arith in
      ap (λ (ts : List Tag). steps n (cut n (at + len) p) set keys at (at + suc len) (after_first ts)) (walk_more s at len e h) ∙ rw z

-- What `contains` finds among the numbers before.
pub among-any : (key : ℕ) (xs : List ℕ) → list_any (λ (x : ℕ). eqb x key) xs ≡ among key xs
unfolding among
among-any key [] = refl
among-any key (x ∷ xs) = ap (◌||◌ (eqb x key)) (among-any key xs)

-- The walk's invariants: before a subtag; while its number is held against those before; and behind it.
pub record Walking (id listed : List ℕ) (count set : ℕ) (st : State) (p : Parts) (back at : ℕ) : Type 0 where
  pub short : length id ≤ 255
  pub within : at ≤ length id
  pub few : count ≤ at
  pub room : length listed ≡ 256
  pub variants : p.variant_count ≤ at
  pub outcome : steps_of id ≡ steps st p set (take count listed) back at (split (drop at id))

pub record Behind (id listed : List ℕ) (count set : ℕ) (p : Parts) (at : ℕ) (t : Subtag) (n : State) : Type 0 where
  pub few : count ≤ at + 1
  pub room : length listed ≡ 256
  pub outcome : steps_of id ≡ rest id at t.len n p set (take count listed)

pub walking_start : (id listed : List ℕ) → length id ≤ 255 → length listed ≡ 256 → (p : Parts) → p ≡ unread → Walking id listed 0 0 First p 0 0
unfolding steps_of unread
walking_start id listed h k p e = rw e (record { short = h; within = omega arith; few = omega arith; room = k; variants = omega arith; outcome = refl })

module _ (id listed : List ℕ) (count set : ℕ) (st : State) (p : Parts) (back at : ℕ) (w : Walking id listed count set st p back at) (t : Subtag) (n : State) (v : Verdict) (h : Told id at t st n v) where
  pub behind-plain : v ≡ verdicts.Plain → Behind id listed count set p at t n
  behind-plain e = record { few = let f = w.few in omega arith; room = w.room; outcome = w.outcome ∙ turn-plain id at t st n v h p set (take count listed) back e }

  -- its number among those before, and not
  module _ (e : v ≡ verdicts.Listed) (r : Bool) (f : r ≡ list_any (λ (x : ℕ). eqb x t.key) (take count listed)) where
    turn : steps_of id ≡ on_listed r id at t.len n p set (take count listed) t.key
    turn =
        w.outcome ∙ turn-listed id at t st n v h p set (take count listed) back e
        ∙ ap (λ (b : Bool). on_listed b id at t.len n p set (take count listed) t.key) (sym (among-any t.key (take count listed)) ∙ sym f)

    pub again : r ≡ true → steps_of id ≡ refused 6 at
    unfolding on_listed
    again g = turn ∙ ap (λ (b : Bool). on_listed b id at t.len n p set (take count listed) t.key) g

    pub behind-listed : r ≡ false → Behind id (lib.ListN.set listed count t.key) (count + 1) set p at t n
    unfolding on_listed
    behind-listed g =
        let few = w.few in
        let short = w.short in
        let within = w.within in
        let room = w.room in
        record {
          few = omega arith;
          room = length-set listed count t.key ∙ room;
          outcome = turn ∙ ap (λ (b : Bool). on_listed b id at t.len n p set (take count listed) t.key) g
              ∙ ap (λ (x : List ℕ). rest id at t.len n p set x) (sym (rw add-one (take-suc-set listed count t.key (omega arith))));
        }

  pub behind-new : v ≡ verdicts.Singleton → (m : Option ℕ) → m ≡ marked_with set t.first → (k : ℕ) → m ≡ Some k → Behind id listed 0 k p at t n
  behind-new e m f k g = record { few = omega arith; room = w.room; outcome = w.outcome ∙ turn-new id at t st n v h p set (take count listed) back e m f k g }

count-stage : (s : Stage) (end : ℕ) (p : Parts) → (cut_stage s end p).variant_count ≤ p.variant_count + 1
unfolding cut_stage
count-stage Language end p = omega arith
count-stage Script end p = omega arith
count-stage Region end p = omega arith
count-stage Variant end p = omega arith
count-stage Root end p = omega arith

count_cut : (n : State) (end : ℕ) (p : Parts) → (cut n end p).variant_count ≤ p.variant_count + 1
unfolding cut extended
count_cut First end p = omega arith
count_cut (Main s) end p = count-stage s end p
count_cut Unicode end p = omega arith
count_cut Keywords end p = omega arith
count_cut Transform end p = omega arith
count_cut (Part s) end p = omega arith
count_cut Key end p = omega arith
count_cut Field end p = omega arith
count_cut Other end p = omega arith
count_cut Others end p = omega arith
count_cut Private end p = omega arith
count_cut Privates end p = omega arith
count_cut Misplaced end p = omega arith
count_cut Unfinished end p = omega arith

module _ (id listed : List ℕ) (count set : ℕ) (p : Parts) (at : ℕ) (t : Subtag) (n : State) (b : Behind id listed count set p at t n) (e : t.len ≡ length (here id at)) (q : Parts) (f : q ≡ cut n (at + t.len) p) where
  pub walk-last : length id - at ≤ t.len → steps_of id ≡ ended n q set at
  walk-last h = b.outcome ∙ rest_end id at t.len e n p set (take count listed) h ∙ ap (λ (x : Parts). ended n x set at) (sym f)

  pub walk-next : length id ≤ 255 → at ≤ length id → p.variant_count ≤ at → t.len < length id - at → Walking id listed count set n q at (at + t.len + 1)
  walk-next s w v h =
      let k = count_cut n (at + t.len) p in
      let c = b.few in
      record {
        short = s;
        within = omega arith;
        few = omega arith;
        room = b.room;
        variants = rw f (omega arith);
        outcome = b.outcome ∙ rest_more id at t.len e n p set (take count listed) h ∙ ap (λ (x : Parts). steps n x set (take count listed) at (at + t.len + 1) (split (drop (at + t.len + 1) id))) (sym f);
      }
