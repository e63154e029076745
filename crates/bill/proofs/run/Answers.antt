-- `bill::run` meets its contract. Assumes nothing.
use mathlib.Core.Path.{ap}
use lib.ListN.{length}
use Rattle.program_io.proofs.Runs.{is-printed}
use Rattle.bill.proofs.Laws.{makes-map}
use Rattle.bill.proofs.run.Goals as goal

pub returns : goal.returns
returns c =
    let m = c.make_text-made in
    let b = c.begin in
    let p = c.print-output in
    (m.ensures.makes.0, makes-map _ _ _ _ _ _ _ (λ t e. is-printed b.result p.result _ t b.ensures.0 p.ensures (ap length e)) m.ensures.makes.1)
