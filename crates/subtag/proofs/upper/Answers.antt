-- `subtag::upper` meets its contract. Assumes nothing.
use native.Mathlib.Omega.{arith}
use mathlib.Core.Path.{sym, ◌∙◌}
use Rattle.standard.specs.Grammar.{upper_byte}
use Rattle.subtag.proofs.Bytes.{small-in}
use Rattle.subtag.proofs.upper.Goals as goal

pub overflow_sub-result : goal.overflow_sub-result
overflow_sub-result c = let h = small-in _ (sym c.is_small.ensures ∙ c.if-is_small.true) in omega arith

pub returns-then-is_small : goal.returns-then-is_small
unfolding upper_byte
returns-then-is_small c = rw (sym c.is_small.ensures ∙ c.if-is_small.true)

pub returns-else-is_small : goal.returns-else-is_small
unfolding upper_byte
returns-else-is_small c = rw (sym c.is_small.ensures ∙ c.if-is_small.false)
