-- `table::hints::find_by` meets its contract. Assumes nothing.
use mathlib.Core.Path.{sym, ◌∙◌}
use native.Mathlib.Omega.{arith}
use Rattle.table.proofs.Hinting.{hint-none, hint-alone, hint-shared, some-found}
use Rattle.table.proofs.hints.find_by.Goals as goal

pub returns-in-0 : goal.returns-in-0
returns-in-0 c = (λ s l. hint-none _ _ _ l c.in-0.is, tt)

pub returns-in-1-to-32767 : goal.returns-in-1-to-32767
returns-in-1-to-32767 c = (λ s l. hint-alone _ _ _ l _ (omega arith) (omega arith) c.row_at.ensures.0, c.row_at.ensures.1)

pub returns-then-is_some : goal.returns-then-is_some
returns-then-is_some c =
    (λ s l. hint-shared _ _ _ l _ (omega arith) (omega arith) c.row_at-first.ensures.0 (some-found _ (sym c.is_some.ensures ∙ c.if-is_some.true)), c.row_at-first.ensures.1)
