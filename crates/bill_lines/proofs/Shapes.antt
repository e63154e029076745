-- Laws of a usage line's shape. Assumes nothing.
use mathlib.Core.Path.{◌≡◌, refl, sym, ap, ◌∙◌}
use mathlib.Core.Bool.{Bool, true, false}
use mathlib.Core.List.{[], ◌∷◌}
use mathlib.Core.Option.{Option, none, some, none-ne-some}
use mathlib.Core.Logic.{◌⊎◌, inl, inr}
use Prim.Native.Nat.{ℕ, suc, ◌+◌, ◌-◌, ◌*◌, ◌≤◌, ◌<◌}
use native.Mathlib.Omega.{arith}
use lib.Dec.{eqb}
use lib.ListN.{length, take, drop, get_or}
use borrow.Author.Tests.{le-leb, lt-leb, eqb-false, eq-eqb, ne_eqb}
use Rattle.standard.specs.Grammar.{digit}
use Rattle.standard.specs.Delivery.{Bytes}
use Rattle.standard.proofs.General.{bool_cases}
use Rattle.byte_string.specs.Strings.{end_of}
use Rattle.subtag.proofs.Bytes.{digit-in}
use Rattle.bill_rules.specs.Bill.{leading, member_of, before_tab, after_tab}
use Rattle.bill_rules.proofs.Refusals.{leading-digit}
use Rattle.bill_lines.specs.Shapes.{member_if, Shaped}
use Rattle.std.specs.Prelude.{Some, None}

pub number-eq : {m n : ℕ} → ◌≡◌ {A = Option ℕ} (some m) (some n) → m ≡ n
number-eq e = cc

-- the first digit of a number is 1 to 9
pub leading-in : (d : ℕ) → leading d ≡ true → (49 ≤ d) × (d ≤ 57)
leading-in d e =
    let a = leading-digit d e in
    let r = digit-in d a.0 in
    let z = eqb-false d 48 a.1 in
    (omega arith, r.high)

-- 0 is no member
is-leading : (d : ℕ) → digit d ≡ true → (d ≡ 48 → ⊥) → leading d ≡ true
unfolding leading
is-leading d e f = rw (e, ne_eqb d 48 f)

pub one-digit : (d : ℕ) → digit d ≡ true → (d ≡ 48 → ⊥) → (some (d - 48) ≡ member_of (d ∷ [])) × (1 ≤ d - 48) × (d - 48 ≤ 64)
unfolding member_of
one-digit d e f = let l = is-leading d e f in let h = leading-in d l in (rw l, omega (arith, h.0), omega (arith, h.1))

pub one-other : (d : ℕ) → (digit d ≡ false) ⊎ (d ≡ 48) → none ≡ member_of (d ∷ [])
unfolding member_of leading
one-other d (inl e) = rw e
one-other d (inr e) = rw (eq-eqb d 48 e) (bool_cases (digit d) (λ q. rw q) (λ q. rw q))

-- a first digit d, which names the member t or none, and a second e
pub first-none : (d e : ℕ) → none ≡ member_of (d ∷ []) → none ≡ member_of (d ∷ e ∷ [])
unfolding member_of
first-none d e q = bool_cases (leading d) (λ l. absurd (none-ne-some (d - 48) (q ∙ rw l))) (λ l. rw l)

module _ (d t : ℕ) (q : some t ≡ member_of (d ∷ [])) where
  tens-first : leading d ≡ true
  unfolding member_of
  tens-first = bool_cases (leading d) (λ l. l) (λ l. absurd (none-ne-some t (sym (q ∙ rw l))))

  tens-are : t ≡ d - 48
  unfolding member_of
  tens-are = number-eq (q ∙ rw tens-first)

  pub tens-in : (1 ≤ t) × (t ≤ 9)
  tens-in = let h = leading-in d tens-first in let k = tens-are in (omega (arith, h.0), omega (arith, h.1))

  module _ (e : ℕ) where
    pub two-other : digit e ≡ false → none ≡ member_of (d ∷ e ∷ [])
    unfolding member_of
    two-other g = rw (tens-first, g)

    pub two-over : digit e ≡ true → 64 < t * 10 + (e - 48) → none ≡ member_of (d ∷ e ∷ [])
    unfolding member_of
    two-over g h = rw (tens-first, g, lt-leb ((d - 48) * 10 + (e - 48)) 64 (rw tens-are at h))

    pub two_digits : digit e ≡ true → t * 10 + (e - 48) ≤ 64 → some (t * 10 + (e - 48)) ≡ member_of (d ∷ e ∷ [])
    unfolding member_of
    two_digits g h = rw tens-are (rw (tens-first, g, le-leb ((d - 48) * 10 + (e - 48)) 64 (rw tens-are at h)))

-- the tab
pub tab-before : (l : Bytes) → before_tab l ≡ take (end_of 9 l 0) l
unfolding before_tab end_of
tab-before [] = refl
tab-before (x ∷ l) = go (eqb x 9) refl (tab-before l)
  where
    go : (b : Bool) → eqb x 9 ≡ b → before_tab l ≡ take (end_of 9 l 0) l → before_tab (x ∷ l) ≡ take (end_of 9 (x ∷ l) 0) (x ∷ l)
    go true e i = rw (e, before_tab)
    go false e i = rw (e, before_tab) (ap (λ (y : Bytes). x ∷ y) i)

pub tab-after : (l : Bytes) → end_of 9 l 0 < length l → after_tab l ≡ some (drop (end_of 9 l 0 + 1) l)
unfolding after_tab end_of
tab-after [] h = absurd (omega arith)
tab-after (x ∷ l) h = go (eqb x 9) refl h (tab-after l)
  where
    go : (b : Bool) → eqb x 9 ≡ b → end_of 9 (x ∷ l) 0 < suc (length l) → (end_of 9 l 0 < length l → after_tab l ≡ some (drop (end_of 9 l 0 + 1) l)) → after_tab (x ∷ l) ≡ some (drop (end_of 9 (x ∷ l) 0 + 1) (x ∷ l))
    go true e k i = rw (e, after_tab)
    go false e k i =
        let n : end_of 9 (x ∷ l) 0 ≡ suc (end_of 9 l 0) = rw e in
        rw (e, after_tab) (i (omega arith) ∙ ap (λ (m : ℕ). some (drop m (x ∷ l))) (let z : suc (end_of 9 l 0 + 1) ≡ suc (end_of 9 l 0) + 1 = omega arith in z))

pub tab-none : (l : Bytes) → length l ≤ end_of 9 l 0 → after_tab l ≡ none
unfolding after_tab end_of
tab-none [] h = refl
tab-none (x ∷ l) h = go (eqb x 9) refl h (tab-none l)
  where
    go : (b : Bool) → eqb x 9 ≡ b → suc (length l) ≤ end_of 9 (x ∷ l) 0 → (length l ≤ end_of 9 l 0 → after_tab l ≡ none) → after_tab (x ∷ l) ≡ none
    go true e k i = let n : end_of 9 (x ∷ l) 0 ≡ 0 = rw e in absurd (omega arith)
    go false e k i = let n : end_of 9 (x ∷ l) 0 ≡ suc (end_of 9 l 0) = rw e in rw (e, after_tab) (i (omega arith))

-- the shapes that a line may have
pub no-tab : (l : Bytes) → length l ≤ end_of 9 l 0 → Shaped l None
unfolding member_if
no-tab l h = ap (λ (o : Option Bytes). member_if o (member_of (before_tab l))) (tab-none l h)

-- a tab at t, and what the bytes before it name
module _ (l : Bytes) (t : ℕ) (e : t ≡ end_of 9 l 0) (h : t < length l) where
  after : after_tab l ≡ some (drop (t + 1) l)
  after = tab-after l (rw (sym e) h) ∙ ap (λ (n : ℕ). some (drop (n + 1) l)) (sym e)

  before : member_of (before_tab l) ≡ member_of (take t l)
  before = ap member_of (tab-before l ∙ ap (λ (n : ℕ). take n l) (sym e))

  pub number-tab : (m : ℕ) → some m ≡ member_of (take t l) → (1 ≤ m) × (m ≤ 64) → Shaped l (Some (record { member = m; start = t + 1 }))
  number-tab m f k = (before ∙ sym f, k, omega arith, after)

  pub other-tab : none ≡ member_of (take t l) → Shaped l None
  unfolding member_if
  other-tab f = ap (λ (o : Option Bytes). member_if o (member_of (before_tab l))) after ∙ before ∙ sym f

-- one byte, two bytes, or others
pub as-one : (x : Bytes) → length x ≡ 1 → member_of (get_or x 0 0 ∷ []) ≡ member_of x
as-one [] h = absurd (omega arith)
as-one (a ∷ []) h = refl
as-one (a ∷ b ∷ x) h = absurd (omega arith)

pub as-two : (x : Bytes) → length x ≡ 2 → member_of (get_or x 0 0 ∷ get_or x 1 0 ∷ []) ≡ member_of x
as-two [] h = absurd (omega arith)
as-two (a ∷ []) h = absurd (omega arith)
as-two (a ∷ b ∷ []) h = refl
as-two (a ∷ b ∷ c ∷ x) h = absurd (omega arith)

pub wrong-size : (x : Bytes) → (length x ≡ 1 → ⊥) → (length x ≡ 2 → ⊥) → none ≡ member_of x
unfolding member_of
wrong-size [] f g = refl
wrong-size (a ∷ []) f g = absurd (f refl)
wrong-size (a ∷ b ∷ []) f g = absurd (g refl)
wrong-size (a ∷ b ∷ c ∷ x) f g = refl
