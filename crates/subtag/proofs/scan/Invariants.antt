-- `subtag::scan` meets its contract. The invariant: what was counted, and what is still to come. Assumes nothing.
use mathlib.Core.Path.{◌≡◌}
use Rattle.subtag.proofs.Scanning as scanning
use Rattle.subtag.proofs.scan.Given as goal

abbrev pub invariant-loop-b : goal.invariant-loop-b
invariant-loop-b l = record { here : l.len ≡ l.b-index; judging : scanning.Judging l.rest l.letters l.digits l.key l.weight l.len }
