-- The order of the tests: bytes, sizes, then the walk. Assumes nothing.
use mathlib.Core.Path.{◌≡◌, refl, sym, ap, ◌∙◌}
use mathlib.Core.Bool.{Bool, true, false, not, cond}
use mathlib.Core.List.{List, [], ◌∷◌}
use mathlib.Core.Logic.{⊎_elim}
use mathlib.Core.Option.{Option, none}
use Prim.Native.Nat.{ℕ, suc, ◌+◌, ◌-◌, ◌≤◌, ◌<◌}
use native.Mathlib.Numerals.{add-one}
use native.Mathlib.Omega.{arith}
use lib.ListN.{length, drop}
use borrow.Author.Tests.{le-leb, lt-leb}
use Rattle.standard.specs.Tag.{Tag, head_tag, All}
use Rattle.standard.specs.Reading.{Fault, fault, first_of, no_bytes, too_long, clean, unclean, bad_tag, wrong_size, split, after_first, by_part, grammar_fault, fault_by, fault_of}
use Rattle.standard.proofs.General.{clash, le-or-lt}
use Rattle.standard.proofs.Groups.{Lacks}
use Rattle.standard.proofs.Faults.{none-bad_tag}
use Rattle.standard.proofs.Shapes.{Word}
use Rattle.subtag.specs.Subtags.{PlainTag}
use Rattle.subtag.proofs.Keys.{word-plain, split-words}
use Rattle.subtag.proofs.Shapes.{wrong-empty, wrong-long, right-size}
use Rattle.subtag.proofs.Walk.{split-cons, walk_more, walk_end}
use Rattle.std.specs.Prelude as code
use Rattle.std.specs.List.{position_from}
use Rattle.std.specs.Prelude.{Some, None}
use Rattle.reader.specs.Parts.{refused, outcome_as, outcome, found_as}
use Rattle.reader.specs.Steps.{steps_of}
use Rattle.reader.proofs.Parting.{walked}
use Rattle.reader.proofs.Stepping.{Fine, walked-steps}

-- The first byte that is foreign, by its place.
pub unclean-from : (i : ℕ) (x : List ℕ) → found_as 3 (position_from (λ b. not (clean b)) i x) ≡ unclean i x
unfolding unclean found_as
unclean-from i [] = refl
unclean-from i (b ∷ x) = go (clean b) (unclean-from (i + 1) x)
  where
    go : (r : Bool) → found_as 3 (position_from (λ b. not (clean b)) (i + 1) x) ≡ unclean (i + 1) x
        → found_as 3 (cond (not r) (Some i) (position_from (λ b. not (clean b)) (i + 1) x)) ≡ elim r [ true ↦ unclean (suc i) x | false ↦ fault 3 i ]
    go true e = e ∙ ap (λ (n : ℕ). unclean n x) (add-one i)
    go false e = refl

-- The subtags from a place on.
module _ (s : List ℕ) (at len : ℕ) (e : len ≡ length (head_tag (split (drop at s)))) where
  abbrev Sizes : Option Fault
  Sizes = bad_tag 4 wrong_size at (split (drop at s))

  pub size-bad : wrong_size (head_tag (split (drop at s))) ≡ true → Sizes ≡ fault 4 at
  unfolding bad_tag
  size-bad h = ap (bad_tag 4 wrong_size at) (split-cons (drop at s)) ∙ rw (h, bad_tag)

  pub size-empty : len ≡ 0 → Sizes ≡ fault 4 at
  size-empty h = size-bad (wrong-empty (head_tag (split (drop at s))) (omega arith))

  pub size-long : 8 < len → Sizes ≡ fault 4 at
  size-long h = size-bad (wrong-long (head_tag (split (drop at s))) (omega arith))

  module _ (h : 0 < len) (k : len ≤ 8) where
    right : wrong_size (head_tag (split (drop at s))) ≡ false
    right = right-size (head_tag (split (drop at s))) (omega arith) (omega arith)

    pub size-last : length s - at ≤ len → Sizes ≡ none
    unfolding bad_tag
    size-last l = ap (bad_tag 4 wrong_size at) (walk_end s at len e l) ∙ rw (right, bad_tag)

    pub size-next : len < length s - at → Sizes ≡ bad_tag 4 wrong_size (at + len + 1) (split (drop (at + len + 1) s))
    unfolding bad_tag
    size-next l =
        let z : at + suc (length (head_tag (split (drop at s)))) ≡ at + len + 1 = omega arith in
        ap (bad_tag 4 wrong_size at) (walk_more s at len e l) ∙ rw (right, bad_tag) (rw z)

-- Every subtag is of 1 to 8 small letters and digits.
not-empty : (t : Tag) → wrong_size t ≡ false → 0 < length t
not-empty t e = ⊎_elim (λ h. clash (wrong-empty t (omega arith)) e) (λ h. h) (le-or-lt (length t) 0)

not-long : (t : Tag) → wrong_size t ≡ false → length t ≤ 8
not-long t e = ⊎_elim (λ h. h) (λ h. clash (wrong-long t h) e) (le-or-lt (length t) 8)

pub fine : (ts : List Tag) → All Word ts → Lacks wrong_size ts → All Fine ts
unfolding All PlainTag
fine [] a b = tt
fine (t ∷ ts) a b = (record { plain = (not-empty t b.0, not-long t b.0, word-plain t a.0); low = a.0 }, fine ts a.1 b.1)

-- The whole.
pub outcome-empty : (x : List ℕ) → length x ≡ 0 → refused 1 0 ≡ outcome x
unfolding outcome fault_of fault_by no_bytes first_of outcome_as
outcome-empty [] e = refl
outcome-empty (b ∷ x) e = absurd (omega arith)

no_bytes_lem : (x : List ℕ) → 0 < length x → no_bytes x ≡ none
unfolding no_bytes
no_bytes_lem [] h = absurd (omega arith)
no_bytes_lem (b ∷ x) h = refl

pub too_long_lem : (x : List ℕ) → 255 < length x → too_long x ≡ fault 2 0
unfolding too_long
too_long_lem x h = rw (lt-leb (length x) 255 h, too_long)

short-enough : (x : List ℕ) → length x ≤ 255 → too_long x ≡ none
unfolding too_long
short-enough x h = rw (le-leb (length x) 255 h, too_long)

pub outcome-long : (x : List ℕ) → 255 < length x → refused 2 0 ≡ outcome x
unfolding outcome fault_of fault_by first_of outcome_as
outcome-long x h = rw (no_bytes_lem x (omega arith)) (rw (too_long_lem x h))

module _ (x : List ℕ) (h : 0 < length x) (k : length x ≤ 255) where
  in_size : fault_of x ≡ first_of (unclean 0 x) (first_of (bad_tag 4 wrong_size 0 (split x)) (grammar_fault by_part (split x)))
  unfolding fault_of fault_by first_of
  in_size = rw (no_bytes_lem x h) (rw (short-enough x k))

  pub outcome-byte : (f : code.Option ℕ) (at : ℕ) → found_as 3 f ≡ unclean 0 x → f ≡ Some at → refused 3 at ≡ outcome x
  unfolding outcome first_of outcome_as found_as
  outcome-byte f at e g = rw (in_size, ← e, g)

  module _ (c : unclean 0 x ≡ none) where
    pub outcome-size : (f : code.Option ℕ) (at : ℕ) → found_as 4 f ≡ bad_tag 4 wrong_size 0 (split x) → f ≡ Some at → refused 4 at ≡ outcome x
    unfolding outcome first_of outcome_as found_as
    outcome-size f at e g = rw (in_size, c, ← e, g)

    pub outcome-walk : (f : code.Option ℕ) → found_as 4 f ≡ bad_tag 4 wrong_size 0 (split x) → f ≡ None → steps_of x ≡ outcome x
    unfolding outcome first_of found_as steps_of
    outcome-walk f e g =
        let n : bad_tag 4 wrong_size 0 (split x) ≡ none = sym e ∙ ap (found_as 4) g in
        let w = walked-steps (split x) (fine (split x) (split-words x 0 c) (none-bad_tag 4 wrong_size 0 (split x) n)) in
        rw (in_size, c, n) (w ∙ rw (split-cons x) (sym (walked (head_tag (split x)) (after_first (split x)))))
