-- `bill_lines::line::counted` meets its contract. Assumes nothing.
use mathlib.Core.Path.{refl}
use Rattle.bill_lines.specs.State.{one_more}
use Rattle.bill_lines.proofs.line.counted.Goals as goal

pub returns : goal.returns
unfolding one_more
returns c = refl
