-- What is wrong with a usage line that the bill counts as refused, and the refused lines of an input. Assumes nothing.
use Rattle.std.specs.Prelude.{Bool, true, false, cond, ◌&&◌, List, [], ◌∷◌, ℕ, suc, ◌+◌, eqb, length}
use Rattle.std.proofs.Math.Option.{Option, none, some}
use Rattle.standard.specs.Grammar.{digit}
use Rattle.standard.specs.Identifier.{Tables}
use Rattle.standard.specs.Delivery.{Bytes, Made, result, refusal}
use Rattle.standard.specs.Calls.{minimise}
use Rattle.standard.specs.Make.{make}
use Rattle.bill_rules.specs.Bill.{member_of, before_tab, after_tab}

-- What is wrong before the identifier.
pub data MemberFault : Type 0 where
  no_tab no_member no_number zero_first out_of_range : MemberFault

-- What is wrong with a usage line: its member, or number and place of its identifier's refusal, the place counted from the
-- line's first byte.
pub data LineFault : Type 0 where
  of_member : MemberFault → LineFault
  of_identifier : ℕ → ℕ → LineFault

-- digits and nothing else
unfoldable pub digits : Bytes → Bool
digits [] = true
digits (d ∷ x) = digit d && digits x

-- two bytes or more, and the first is 0
unfoldable pub leading_zero : Bytes → Bool
leading_zero [] = false
leading_zero (d ∷ []) = false
leading_zero (d ∷ e ∷ x) = eqb d 48

-- of digits without a leading zero, which name a member or none
unfoldable pub range_fault : Option ℕ → Option MemberFault
range_fault none = some out_of_range
range_fault (some m) = none

-- 02, T-01: a member number is decimal, 1 to 64, without a leading zero; the first that is wrong.
unfoldable pub member_fault : Bytes → Option MemberFault
member_fault [] = some no_member
member_fault (d ∷ x) =
    cond (digits (d ∷ x)) (cond (leading_zero (d ∷ x)) (some zero_first) (range_fault (member_of (d ∷ x)))) (some no_number)

-- the refusal of an identifier that starts at this place of its line; 8 and 9 have place 0 in it
unfoldable pub made_fault : ℕ → Made → Option LineFault
made_fault start (result r s) = none
made_fault start (refusal n p t) = some (of_identifier n (start + p))

-- the member's fault stands; else the identifier's
unfoldable pub member_first : Option MemberFault → Option LineFault → Option LineFault
member_first none g = g
member_first (some f) g = some (of_member f)

-- of the bytes before the first tab, and those behind it
unfoldable pub fault_at : Tables → Bytes → Option Bytes → Option LineFault
fault_at T m none = some (of_member no_tab)
fault_at T m (some x) = member_first (member_fault m) (made_fault (length m + 1) (make T minimise x))

-- 02, T-01: a line of wrong shape or with a refused identifier is a refused line; what is wrong with it first.
unfoldable pub line_fault : Tables → Bytes → Option LineFault
line_fault T l = fault_at T (before_tab l) (after_tab l)

-- A line of an input with its number.
pub record Numbered : Type 0 where
  pub number : ℕ
  pub line : Bytes

-- a line in front of others, where something is wrong with it
unfoldable pub listed : Option LineFault → Numbered → List Numbered → List Numbered
listed none l ls = ls
listed (some f) l ls = l ∷ ls

-- the refused ones of lines whose first has the number n, in their order
unfoldable pub refused_from : Tables → ℕ → List Bytes → List Numbered
refused_from T n [] = []
refused_from T n (l ∷ ls) = listed (line_fault T l) (record { number = n; line = l }) (refused_from T (suc n) ls)

-- the refused lines of an input, whose first line has the number 1
unfoldable pub refused_lines : Tables → List Bytes → List Numbered
refused_lines T ls = refused_from T 1 ls
