-- Open this first for the refused lines: there are as many as the bill says, and each has a fault. Assumes nothing.
use mathlib.Core.Path.{◌≡◌, refl, sym, ap, ◌∙◌}
use mathlib.Core.Bool.{Bool, true, false, not, cond, ◌&&◌}
use mathlib.Core.List.{List, [], ◌∷◌}
use mathlib.Core.Option.{Option, none, some}
use Prim.Native.Nat.{ℕ, suc, ◌+◌, ◌-◌, ◌*◌}
use lib.Dec.{leb, eqb}
use lib.ListN.{length}
use borrow.Author.Tests.{not-true}
use Rattle.standard.specs.Tag.{Tag}
use Rattle.standard.specs.Grammar.{digit}
use Rattle.standard.specs.Identifier.{Tables, Answer, done, refused, minimised}
use Rattle.standard.specs.Reading.{Read, good, bad, read}
use Rattle.standard.specs.Delivery.{Bytes}
use Rattle.standard.specs.Calls.{minimise}
use Rattle.standard.specs.Make.{operate, made, make_of, make}
use Rattle.standard.proofs.General.{and-true, clash}
use Rattle.bill_rules.specs.Bill.{leading, member_of, before_tab, after_tab, key_of_answer, key_of_read, key_of, usage_by, usage_at, usage, refusing, refusals, more, Row, bill, bill_of}
use Rattle.bill_rules.specs.Refusals.{MemberFault, no_member, no_number, zero_first, LineFault, digits, leading_zero, range_fault, member_fault, made_fault, member_first, fault_at, line_fault, Numbered, listed, refused_from, refused_lines}
use Rattle.bill_rules.proofs.Sums.{bill-parts}

-- whether something is wrong
unfoldable pub faulty : {A : Type 0} → Option A → Bool
faulty none = false
faulty (some f) = true

-- a member number is of digits and has no leading zero
pub leading-digit : (d : ℕ) → leading d ≡ true → (digit d ≡ true) × (eqb d 48 ≡ false)
unfolding leading
leading-digit d e = let a = and-true (digit d) (not (eqb d 48)) e in (a.0, not-true (eqb d 48) a.1)

-- a member that is none is faulty, and one that is something is not
range-faulty : (d z : Bool) (o : Option ℕ) → (refusing o ≡ false → (d ≡ true) × (z ≡ false)) → refusing o ≡ faulty (cond d (cond z (some zero_first) (range_fault o)) (some no_number))
unfolding refusing faulty range_fault
range-faulty true true none h = refl
range-faulty true false none h = refl
range-faulty false z none h = refl
range-faulty d z (some m) h = rw ((h refl).0, (h refl).1)

-- the tests that a member passes
one-passed : (b : Bool) (n : ℕ) → refusing (cond b (some n) none) ≡ false → b ≡ true
unfolding refusing
one-passed true n e = refl
one-passed false n e = sym e

none-faulty : refusing (member_of []) ≡ faulty (some no_member)
unfolding member_of refusing faulty
none-faulty = refl

passes : (d : ℕ) (x : Bytes) → refusing (member_of (d ∷ x)) ≡ false → (digits (d ∷ x) ≡ true) × (leading_zero (d ∷ x) ≡ false)
unfolding member_of digits leading_zero refusing
passes d [] h = let a = leading-digit d (one-passed (leading d) (d - 48) h) in (rw a.0, refl)
passes d (e ∷ []) h =
    let n = (d - 48) * 10 + (e - 48) in
    let a = and-true (leading d) (digit e && leb n 64) (one-passed (leading d && (digit e && leb n 64)) n h) in
    let b = and-true (digit e) (leb n 64) a.1 in
    let f = leading-digit d a.0 in
    (rw (f.0, b.0), f.1)
passes d (e ∷ f ∷ x) h = clash {b = true} refl h

member-faulty : (x : Bytes) → refusing (member_of x) ≡ faulty (member_fault x)
unfolding member_fault
member-faulty [] = none-faulty
member-faulty (d ∷ x) = range-faulty (digits (d ∷ x)) (leading_zero (d ∷ x)) (member_of (d ∷ x)) (passes d x)

-- minimising refuses where there is no key
answer-faulty : (start : ℕ) (a : Answer) → refusing (key_of_answer a) ≡ faulty (made_fault start (made a))
unfolding key_of_answer made made_fault refusing faulty
answer-faulty start (done m) = refl
answer-faulty start (refused n) = refl

read-faulty : (T : Tables) (start : ℕ) (r : Read) → refusing (key_of_read T r) ≡ faulty (made_fault start (make_of T minimise r))
unfolding key_of_read make_of operate made_fault refusing faulty
read-faulty T start (good i) = answer-faulty start (minimised T i)
read-faulty T start (bad n p) = refl

made-faulty : (T : Tables) (start : ℕ) (x : Bytes) → refusing (key_of T x) ≡ faulty (made_fault start (make T minimise x))
unfolding key_of make
made-faulty T start x = read-faulty T start (read x)

first-faulty : (m : Option ℕ) (k : Option Tag) (f : Option MemberFault) (g : Option LineFault) → refusing m ≡ faulty f → refusing k ≡ faulty g → refusing (usage_by m k) ≡ faulty (member_first f g)
unfolding usage_by member_first refusing faulty
first-faulty none k none g e h = clash {b = true} refl e
first-faulty none k (some f) g e h = refl
first-faulty (some m) k (some f) g e h = clash {b = false} e refl
first-faulty (some m) none none g e h = h
first-faulty (some m) (some k) none g e h = h

fault-at : (T : Tables) (m : Bytes) (o : Option Bytes) → refusing (usage_at T (member_of m) o) ≡ faulty (fault_at T m o)
unfolding usage_at fault_at refusing faulty
fault-at T m none = refl
fault-at T m (some x) = first-faulty (member_of m) (key_of T x) (member_fault m) (made_fault (length m + 1) (make T minimise x)) (member-faulty m) (made-faulty T (length m + 1) x)

-- A line has a fault exactly where the bill refuses it.
pub refused-faulty : (T : Tables) (l : Bytes) → refusing (usage T l) ≡ faulty (line_fault T l)
unfolding usage line_fault
refused-faulty T l = fault-at T (before_tab l) (after_tab l)

-- as many lines are listed as are refused, from whichever number on
listed-length : (o : Option LineFault) (l : Numbered) (ls : List Numbered) → length (listed o l ls) ≡ more (faulty o) (length ls)
unfolding listed more faulty
listed-length none l ls = refl
listed-length (some f) l ls = refl

from-counted : (T : Tables) (n : ℕ) (ls : List Bytes) → length (refused_from T n ls) ≡ refusals T ls
unfolding refused_from refusals
from-counted T n [] = refl
from-counted T n (l ∷ ls) =
    listed-length (line_fault T l) (record { number = n; line = l }) (refused_from T (suc n) ls)
    ∙ ap (more (faulty (line_fault T l))) (from-counted T (suc n) ls) ∙ ap (λ (b : Bool). more b (refusals T ls)) (sym (refused-faulty T l))

-- 02, T-01: "then a row with key `-`, members 0 and the number of refused lines": where lines have a bill, the refused
-- lines are as many as that number.
pub refused-counted : (T : Tables) (ls : List Bytes) (rs : List Row) (n : ℕ) → bill_of T ls ≡ bill rs n → length (refused_lines T ls) ≡ n
unfolding refused_lines
refused-counted T ls rs n e = from-counted T 1 ls ∙ (bill-parts T ls rs n e).1
