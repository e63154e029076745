-- `table_report::cases::put_recased` meets its contract. Assumes nothing.
use mathlib.Core.Path.{◌≡◌}
use lib.ListN.{length, drop}
use lib.Seq.{sets}
use Rattle.table_report.specs.Cases.{recased}
use Rattle.table_report.proofs.cases.put_recased.Given as goal

abbrev pub invariant-loop-i : goal.invariant-loop-i
invariant-loop-i l = (sets l.initial.out 0 (recased l.first 0 l.row) ≡ sets l.out l.i (recased l.first l.n (drop l.i l.row))) × (length l.out ≡ length l.initial.out)
