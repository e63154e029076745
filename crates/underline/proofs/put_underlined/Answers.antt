-- `underline::put_underlined` meets its contract. Assumes nothing.
use mathlib.Core.Path.{refl}
use native.Mathlib.Omega.{arith}
use Rattle.underline.specs.Underline.{part_spans, lines_text, underlined_text}
use Rattle.underline.proofs.put_underlined.Goals as goal

pub returns-in-None : goal.returns-in-None
unfolding underlined_text part_spans lines_text
returns-in-None c = rw c.in-None.is (omega arith, refl, omega arith)
