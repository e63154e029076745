-- `bill_lines::shape::one_digit` meets its contract. Assumes nothing.
use mathlib.Core.Path.{sym, ◌∙◌}
use mathlib.Core.Logic.{inl, inr, ⊎_elim}
use Rattle.subtag.proofs.Bytes.{digit-in}
use Rattle.bill_lines.proofs.Shapes.{one-digit, one-other}
use Rattle.bill_lines.proofs.shape.one_digit.Goals as goal

pub overflow_sub-result : goal.overflow_sub-result
overflow_sub-result c = (digit-in _ (sym c.is_digit.ensures ∙ c.if-is_digit.true)).low

pub returns-then-d-ne48 : goal.returns-then-d-ne48
returns-then-d-ne48 c = let k = one-digit _ (sym c.is_digit.ensures ∙ c.if-is_digit.true) c.if-d-ne48.true in (k.0, (k.1, k.2))

pub returns-else-is_digit : goal.returns-else-is_digit
returns-else-is_digit c = (one-other _ (⊎_elim (λ z. inr z.1) (λ f. inl (sym c.is_digit.ensures ∙ f)) c.else-is_digit.either), tt)
