-- `table::below_row` meets its contract. Assumes nothing.
use mathlib.Core.Path.{sym, ◌∙◌}
use borrow.Author.Rules.{rules}
use Rattle.std.proofs.lemmas.Bool.Decides.{nat_tests}
use native.Mathlib.Omega.{arith}
use Rattle.table.proofs.Searches.{below-start, below-short, below_less, below_more, below-same, below_end, below-tab}
use Rattle.table.proofs.below_row.Goals as goal

pub loop-i-init : goal.loop-i-init
loop-i-init c = below-start _ _

pub returns-then-line-i : goal.returns-then-line-i
returns-then-line-i c = sym (c.loop-i.invariant ∙ below-short _ _ _ c.loop-i-test.true (search rules))

pub returns-then-line-i-2 : goal.returns-then-line-i-2
returns-then-line-i-2 c = sym (c.loop-i.invariant ∙ below_less _ _ _ c.loop-i-test.true (search rules) c.if-line-i-2.true)

pub returns-then-b-line : goal.returns-then-b-line
returns-then-b-line c = sym (c.loop-i.invariant ∙ below_more _ _ _ c.loop-i-test.true (search rules) c.if-b-line.true)

pub loop-i-preserved : goal.loop-i-preserved
loop-i-preserved c = c.loop-i.invariant ∙ below-same _ _ _ c.loop-i-test.true (search rules) (search rules) (search rules)

pub returns-then-line-key : goal.returns-then-line-key
returns-then-line-key c = sym (c.loop-i.invariant ∙ below_end _ _ _ c.loop-i-test.false (omega arith) ∙ grind (arith, nat_tests))

pub returns-else-line-key : goal.returns-else-line-key
returns-else-line-key c = sym (c.loop-i.invariant ∙ below-tab _ _ _ c.loop-i-test.false c.loop-i.auto.i-end c.if-line-key.false)
