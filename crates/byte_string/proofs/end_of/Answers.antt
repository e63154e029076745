-- `byte_string::end_of` meets its contract. Assumes nothing.
use mathlib.Core.Path.{refl, sym, ◌∙◌}
use borrow.Author.Rules.{rules}
use Rattle.byte_string.proofs.Ends.{end-hit, end-miss, end-past}
use Rattle.byte_string.proofs.end_of.Goals as goal

pub returns-then-n-from : goal.returns-then-n-from
returns-then-n-from c = sym (end-past _ _ _ c.if-n-from.true)

pub loop-i-init : goal.loop-i-init
loop-i-init c = refl

pub returns-then-s-i : goal.returns-then-s-i
returns-then-s-i c = sym (c.loop-i.invariant ∙ end-hit _ _ _ (search rules) c.if-s-i.true)

pub returns-then-s-next : goal.returns-then-s-next
returns-then-s-next c =
    sym
    (c.loop-i.invariant
    ∙ (end-miss _ _ _ (search rules) c.if-s-i.false
    ∙ end-hit _ _ _ (search rules) c.if-s-next.true))

pub loop-i-preserved : goal.loop-i-preserved
loop-i-preserved c =
    c.loop-i.invariant
    ∙ (end-miss _ _ _ (search rules) c.if-s-i.false
    ∙ end-miss _ _ _ (search rules) c.if-s-next.false)

pub returns-then-s-i-2 : goal.returns-then-s-i-2
returns-then-s-i-2 c = sym (c.loop-i.invariant ∙ end-hit _ _ _ (search rules) c.if-s-i-2.true)

pub returns-else-s-i-2 : goal.returns-else-s-i-2
returns-else-s-i-2 c =
    sym
    (c.loop-i.invariant
    ∙ (end-miss _ _ _ (search rules) c.if-s-i-2.false ∙ end-past _ _ _ (search rules)))

pub returns-else-i-n : goal.returns-else-i-n
returns-else-i-n c = sym (c.loop-i.invariant ∙ end-past _ _ _ c.if-i-n.false)
