-- `encoding::ends_in_return` meets its contract. Assumes nothing.
use mathlib.Core.Path.{sym, ◌∙◌}
use mathlib.Core.Logic.{inl, inr}
use native.Mathlib.Omega.{arith}
use borrow.Author.Tests.{le-ltb}
use Rattle.encoding.proofs.Laws as laws
use Rattle.encoding.proofs.ends_in_return.Goals as goal
use Rattle.encoding.proofs.ends_in_return.Goals.{then-end-gt0, else-end-gt0}

pub returns-then-end-lines : goal.returns-then-end-lines
returns-then-end-lines c = sym (laws.return-at _ _ c.end_of-end.ensures c.if-end-lines.true.1 (λ e. omega (arith, c.if-end-lines.true.0)))

pub returns-else-end-lines : goal.returns-else-end-lines
returns-else-end-lines c = elim c.if-end-gt0.branch [
  | then-end-gt0 w ↦ elim c.if-end-lines.either [ inl h ↦ w.t-4-is ∙ le-ltb _ _ h.1 ∙ sym (laws.return-none _ _ c.end_of-end.ensures h.1) | inr h ↦ absurd (omega (arith, w.if-end-gt0.true, h)) ]
  | else-end-gt0 w ↦ w.t-4-is ∙ le-ltb _ _ w.if-end-gt0.false ∙ sym (laws.return-none-or-first _ _ c.end_of-end.ensures (omega (arith, w.if-end-gt0.false)))
]
