-- Laws of counts, starts of lines and keys. Assumes nothing.
use mathlib.Core.Path.{◌≡◌, refl, ap, ◌∙◌}
use mathlib.Core.Bool.{not}
use mathlib.Core.List.{List, [], ◌∷◌, reverse}
use Prim.Native.Nat.{ℕ, zero, suc, ◌+◌, ◌≤◌, ◌<◌}
use native.Mathlib.Omega.{arith}
use lib.ListN.{length, get_or}
use borrow.Author.Tests.{le-leb, lt-leb, ltb-true, ltb-false}
use Prim.Native.Nat.{min}
use lib.Dec.{eqb, ltb}
use Rattle.std.proofs.Common.{filter}
use Rattle.std.specs.List.{take_while}
use Rattle.std.proofs.lemmas.List.{reverse-append}
use Rattle.std.proofs.lemmas.List.Sums.{take_while-cons}
use lib.Seq.{take-suc}
use lib.ListN.{take}
use Rattle.standard.proofs.General.{bool_cases}
use Rattle.table_report.specs.Cases.{by_length, capitals}
use Rattle.byte_string.specs.Strings.{end_of}
use Rattle.byte_string.proofs.Ends.{end-le}
use Rattle.row_shapes.specs.Rows.{second_tab}
use Rattle.table_report.specs.Faults.{hit_of, count_of, line_start}

-- the bytes that are counted, as std has them
pub counts-is : (b : ℕ) (s : List ℕ) → length (filter (λ (x : ℕ). eqb x b) s) ≡ count_of b s
unfolding count_of hit_of
counts-is b [] = refl
counts-is b (x ∷ s) = let i = counts-is b s in bool_cases (eqb x b) (λ e. rw e (omega arith)) (λ e. rw e (omega arith))

pub count_le : (b : ℕ) (s : List ℕ) → count_of b s ≤ length s
unfolding count_of hit_of
count_le b [] = omega arith
count_le b (x ∷ s) = let i = count_le b s in bool_cases (eqb x b) (λ e. rw e (omega arith)) (λ e. rw e (omega arith))

-- the capitals of the subtag that ends first
pub capitals-least : (x : List ℕ) (a b m : ℕ) → a ≡ end_of 45 x 0 → b ≡ end_of 9 x 0 → m ≡ min a b → by_length m ≡ capitals x
unfolding capitals
capitals-least x a b m e f g = rw (← e, ← f) (bool_cases (ltb a b) (λ h. rw h (let k = ltb-true _ _ h in ap by_length (omega arith))) (λ h. rw h (let k = ltb-false _ _ h in ap by_length (omega arith))))

-- a line starts behind the last 0A: what stands behind that is a run without it
pub start-run : (x : List ℕ) (at : ℕ) → at ≤ length x → line_start x at + length (take_while (λ (b : ℕ). not (eqb b 10)) (reverse (take at x))) ≡ at
unfolding line_start
start-run x zero h = refl
start-run x (suc p) h =
    let i = start-run x p (omega arith) in
    let r : reverse (take (suc p) x) ≡ get_or x p 0 ∷ reverse (take p x) = ap reverse (take-suc x p 0 (omega arith)) ∙ reverse-append (take p x) (get_or x p 0 ∷ []) in
    rw (r, take_while-cons (λ (b : ℕ). not (eqb b 10)) (get_or x p 0) (reverse (take p x))) (bool_cases (eqb (get_or x p 0) 10) (λ e. rw e (omega arith)) (λ e. rw e (omega arith)))

-- the second tab
module _ (l : List ℕ) (a : ℕ) (e : a ≡ end_of 9 l 0) where
  pub second_none : length l ≤ a → (a ≡ second_tab l (end_of 9 l 0)) × (a ≤ length l)
  unfolding second_tab
  second_none h = (rw (← e, le-leb (length l) a h), omega (arith, end-le 9 l 0))

  pub second-some : a < length l → (r : ℕ) → r ≡ end_of 9 l (a + 1) → (r ≡ second_tab l (end_of 9 l 0)) × (r ≤ length l)
  unfolding second_tab
  second-some h r g = (rw (← e, lt-leb (length l) a h) g, omega (arith, end-le 9 l (a + 1)))
