-- `table_report::texts::line_start` meets its contract. Assumes nothing.
use native.Mathlib.Omega.{arith}
use mathlib.Core.Path.{◌≡◌}
use mathlib.Core.Bool.{not}
use mathlib.Core.List.{reverse}
use Prim.Native.Nat.{ℕ}
use lib.Dec.{eqb}
use lib.ListN.{length, take}
use Rattle.std.proofs.Common.{rules, tests, take_while}
use Rattle.std.proofs.lemmas.Iterator.Adapters.{YieldsList-from_rev_slice}
use Rattle.std.proofs.lemmas.Iterator.Search.{YieldsList-from_take_while}
use Rattle.std.proofs.lemmas.Iterator.Consumers.{count_from_yields_List}
use Rattle.table_report.proofs.Counts.{start-run}
use Rattle.table_report.proofs.texts.line_start.Goals as goal
use Rattle.table_report.proofs.texts.line_start.Goals.{After-count}

-- the bytes behind the last 0A
run : (c : After-count) → c.count.result ≡ length (take_while (λ (x : ℕ). not (eqb x 10)) (reverse (take c.args.at c.args.x.now)))
run c =
    count_from_yields_List c.take_while.result _ c.count.ensures.ran
    (YieldsList-from_take_while _ (λ (x : ℕ). not (eqb x 10)) (YieldsList-from_rev_slice (take c.args.at c.args.x.now) cc) c.take_while.ensures.closure c.take_while.ensures.done (λ x b q k. search (rules, tests)))

pub returns : goal.returns
returns c = let r = run (goal.at.returns c).After-count in let k = start-run c.args.x.now c.args.at c.requires in (omega arith, omega arith)
