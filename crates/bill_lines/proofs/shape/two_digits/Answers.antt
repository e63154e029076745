-- `bill_lines::shape::two_digits` meets its contract. Assumes nothing.
use mathlib.Core.Path.{◌≡◌, sym, ap, ◌∙◌}
use mathlib.Core.List.{[], ◌∷◌}
use mathlib.Core.Option.{some}
use native.Mathlib.Omega.{arith}
use Rattle.bill_rules.specs.Bill.{member_of}
use Rattle.subtag.proofs.Bytes.{digit-in}
use Rattle.bill_lines.specs.Shapes.{member_is}
use Rattle.bill_lines.proofs.Shapes.{first-none, tens-in, two-other, two-over, two_digits}
use Rattle.bill_lines.proofs.shape.two_digits.Goals as goal
use Rattle.bill_lines.proofs.shape.two_digits.Goals.{In_ok-tens}

-- the first digit's member
first : (c : In_ok-tens) → some c.in_ok-tens.tens ≡ member_of (c.args.d ∷ [])
first c = sym (ap member_is c.in_ok-tens.was) ∙ c.one_digit.ensures.0

pub returns-in_err-tens : goal.returns-in_err-tens
returns-in_err-tens c = rw c.from_residual.ensures (first-none _ c.args.e (sym (ap member_is c.in_err-tens.was) ∙ c.one_digit.ensures.0), tt)

pub returns-then-not-is_digit : goal.returns-then-not-is_digit
returns-then-not-is_digit c = (two-other _ _ (first (goal.at.returns-then-not-is_digit c).In_ok-tens) _ (sym c.is_digit.ensures ∙ c.if-not-is_digit.true), tt)

pub overflow_mul-n : goal.overflow_mul-n
overflow_mul-n c = let k = tens-in _ _ (first (goal.at.overflow_mul-n c).In_ok-tens) in omega (arith, k.1)

pub overflow_sub-n : goal.overflow_sub-n
overflow_sub-n c = (digit-in _ (sym c.is_digit.ensures ∙ c.if-not-is_digit.false)).low

pub overflow_add-n : goal.overflow_add-n
overflow_add-n c =
    let k = tens-in _ _ (first (goal.at.overflow_add-n c).In_ok-tens) in
    let h = digit-in c.args.e (sym c.is_digit.ensures ∙ c.if-not-is_digit.false) in
    omega (arith, k.1, h.high)

pub returns-then-n-le64 : goal.returns-then-n-le64
returns-then-n-le64 c =
    let f = first (goal.at.returns-then-n-le64 c).In_ok-tens in
    let k = tens-in _ _ f in
    (two_digits _ _ f _ (sym c.is_digit.ensures ∙ c.if-not-is_digit.false) c.if-n-le64.true, (omega (arith, k.0), c.if-n-le64.true))

pub returns-else-n-le64 : goal.returns-else-n-le64
returns-else-n-le64 c = (two-over _ _ (first (goal.at.returns-else-n-le64 c).In_ok-tens) _ (sym c.is_digit.ensures ∙ c.if-not-is_digit.false) c.if-n-le64.false, tt)
