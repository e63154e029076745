-- `likely::rows::find_shorter` meets its contract. Assumes nothing.
use Rattle.likely.proofs.Lookups.{ready-alone, ready-region, ready-script, shorter-first, shorter-second, shorter-third}
use Rattle.likely.proofs.rows.find_shorter.Goals as goal

pub returns-in-Some : goal.returns-in-Some
returns-in-Some c = λ q. shorter-first _ _ _ _ _ (c.in-Some.ensures (ready-script _ _ _ q))

pub returns-in-Some-find : goal.returns-in-Some-find
returns-in-Some-find c = λ q. shorter-second _ _ _ _ (c.in_default.ensures (ready-script _ _ _ q)) _ (c.in-Some-find.ensures (ready-region _ _ _ q))

pub returns : goal.returns
returns c = λ q. shorter-third _ _ _ _ (c.in_default.ensures (ready-script _ _ _ q)) _ (c.in_default-find.ensures (ready-region _ _ _ q)) (c.find-3.ensures (ready-alone _ _ _ q))
