-- `tsv::shown::put_safe` meets its contract. Assumes nothing.
use mathlib.Core.Path.{◌≡◌}
use lib.ListN.{length}
use Rattle.tsv.proofs.Showing as laws
use Rattle.tsv.proofs.shown.put_safe.Given as goal

abbrev pub invariant-loop-b : goal.invariant-loop-b
invariant-loop-b l = (length l.out ≡ length l.initial.out) × laws.Showing l.initial.out l.at l.first l.b-index l.p l.out
