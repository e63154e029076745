-- `likely::lsr::minimised` meets its contract. Assumes nothing.
use Rattle.likely.proofs.Lookups.{ready-alone, ready-region, ready-script, kept-alone, kept-region, kept-script, kept-both}
use Rattle.likely.proofs.lsr.minimised.Goals as goal

pub returns-then-fits : goal.returns-then-fits
returns-then-fits c = λ q. kept-alone _ _ (c.fits.ensures (ready-alone _ _ _ q)) c.if-fits.true

pub returns-then-fits-2 : goal.returns-then-fits-2
returns-then-fits-2 c = λ q. kept-region _ _ (c.fits.ensures (ready-alone _ _ _ q)) c.if-fits.false (c.fits-else-fits.ensures (ready-region _ _ _ q)) c.if-fits-2.true

pub returns-then-fits-3 : goal.returns-then-fits-3
returns-then-fits-3 c = λ q. kept-script _ _ (c.fits.ensures (ready-alone _ _ _ q)) c.if-fits.false (c.fits-else-fits.ensures (ready-region _ _ _ q)) c.if-fits-2.false (c.fits-else-fits-2.ensures (ready-script _ _ _ q)) c.if-fits-3.true

pub returns-else-fits-3 : goal.returns-else-fits-3
returns-else-fits-3 c = λ q. kept-both _ _ (c.fits.ensures (ready-alone _ _ _ q)) c.if-fits.false (c.fits-else-fits.ensures (ready-region _ _ _ q)) c.if-fits-2.false (c.fits-else-fits-2.ensures (ready-script _ _ _ q)) c.if-fits-3.false
