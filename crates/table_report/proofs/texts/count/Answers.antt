-- `table_report::texts::count` meets its contract. Assumes nothing.
use native.Mathlib.Omega.{arith}
use mathlib.Core.Path.{◌≡◌, ◌∙◌}
use Prim.Native.Nat.{ℕ}
use lib.Dec.{eqb}
use Rattle.std.proofs.Common.{rules, tests}
use Rattle.std.proofs.lemmas.Iterator.{YieldsList-from_slice}
use Rattle.std.proofs.lemmas.Iterator.Consumers.{YieldsList-from_filter, count_from_yields_List}
use Rattle.table_report.specs.Faults.{count_of}
use Rattle.table_report.proofs.Counts.{counts-is, count_le}
use Rattle.table_report.proofs.texts.count.Goals as goal

pub returns : goal.returns
returns c =
    let b = c.args.b in
    let s = c.args.s.now in
    let e : c.count.result ≡ count_of b s =
    count_from_yields_List c.filter.result _ c.count.ensures.ran (YieldsList-from_filter _ (λ (x : ℕ). eqb x b) (YieldsList-from_slice s cc) c.filter.ensures.closure (λ x r q k. search (rules, tests))) ∙ counts-is b s in
    (e, omega (arith, count_le b s))
