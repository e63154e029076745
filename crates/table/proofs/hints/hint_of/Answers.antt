-- `table::hints::hint_of` meets its contract. Assumes nothing.
use Rattle.table.proofs.Hinting.{hint-far, hint-new, hint-second, hint-more}
use Rattle.table.proofs.hints.hint_of.Goals as goal

pub returns-then-place-gt32766 : goal.returns-then-place-gt32766
returns-then-place-gt32766 c = hint-far _ _ c.if-place-gt32766.true

pub returns-then-old-eq0 : goal.returns-then-old-eq0
returns-then-old-eq0 c = hint-new _ _ c.if-place-gt32766.false c.if-old-eq0.true

pub returns-then-old-lt32768 : goal.returns-then-old-lt32768
returns-then-old-lt32768 c = hint-second _ _ c.if-place-gt32766.false c.if-old-eq0.false c.if-old-lt32768.true

pub returns-else-old-lt32768 : goal.returns-else-old-lt32768
returns-else-old-lt32768 c = hint-more _ _ c.if-place-gt32766.false c.if-old-lt32768.false
