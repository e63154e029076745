-- `canonical::lsr::script_start` meets its contract. Assumes nothing.
use native.Mathlib.Omega.{arith}
use mathlib.Core.Path.{sym, ◌∙◌}
use Rattle.canonical.proofs.Places as places
use Rattle.canonical.proofs.lsr.script_start.Goals as goal

pub returns-then-language-eq0 : goal.returns-then-language-eq0
returns-then-language-eq0 c = (sym (places.start_first _ _ c.if-language-eq0.true), omega arith)

pub returns-else-language-eq0 : goal.returns-else-language-eq0
returns-else-language-eq0 c = (c.after_separator.ensures.0 ∙ sym (places.start-later _ _ c.if-language-eq0.false), c.after_separator.ensures.1)
