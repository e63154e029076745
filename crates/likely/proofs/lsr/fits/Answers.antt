-- `likely::lsr::fits` meets its contract. Assumes nothing.
use mathlib.Core.List.{[]}
use Rattle.likely.proofs.Lookups.{misfit-row, misfit-script, fit-region}
use Rattle.likely.proofs.lsr.fits.Goals as goal

pub returns-in_default : goal.returns-in_default
returns-in_default c = λ q. misfit-row _ _ _ (c.in_default.ensures q)

pub returns-then-same : goal.returns-then-same
returns-then-same c = λ q. fit-region _ _ _ _ _ (c.in-Some.ensures q) c.cut_value-row.ensures _ _ c.first_of.ensures c.same.ensures c.first_of-then-same.ensures _ c.if-same.true c.same-then-same.ensures

pub returns-else-same : goal.returns-else-same
returns-else-same c = λ q. misfit-script _ _ _ _ _ (c.in-Some.ensures q) c.cut_value-row.ensures _ [] c.first_of.ensures c.same.ensures c.if-same.false
