-- `canonical::lsr::after_separator` meets its contract. Assumes nothing.
use native.Mathlib.Omega.{arith}
use mathlib.Core.Path.{sym}
use Rattle.canonical.proofs.Places as places
use Rattle.canonical.proofs.lsr.after_separator.Goals as goal

pub returns-then-at-end : goal.returns-then-at-end
returns-then-at-end c = (sym (places.behind _ _ c.if-at-end.true), omega arith)

pub returns-else-at-end : goal.returns-else-at-end
returns-else-at-end c = (sym (places.at_once _ _ c.if-at-end.false), omega arith)
