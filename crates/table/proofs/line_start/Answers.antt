-- `table::line_start` meets its contract. Assumes nothing.
use borrow.Author.Rules.{rules}
use Prim.Native.Nat.{◌-◌}
use lib.ListN.{take, drop}
use Rattle.std.proofs.Common.{tests}
use Rattle.std.proofs.lemmas.Iterator.{IsFirst-from_position}
use Rattle.std.proofs.lemmas.Iterator.Adapters.{YieldsList-from_rev_slice}
use Rattle.table.proofs.Searches.{Newline, Other, start-found, start_none}
use Rattle.table.proofs.line_start.Goals as goal

pub returns-in-Some : goal.returns-in-Some
returns-in-Some c =
    let f = IsFirst-from_position _ _ _ Newline Other c.in-Some.ensures.ran (YieldsList-from_rev_slice (take (c.args.from - c.args.lo) (drop c.args.lo c.args.t.now)) cc) (λ x q k. search (rules, tests)) (λ x q k. search (rules, tests)) in
    start-found _ _ _ (search rules) (search rules) _ f.0 f.1 f.2

pub returns-in-None : goal.returns-in-None
returns-in-None c =
    start_none _ _ _ (search rules) (search rules) (IsFirst-from_position _ _ _ Newline Other c.in-None.ensures.ran (YieldsList-from_rev_slice (take (c.args.from - c.args.lo) (drop c.args.lo c.args.t.now)) cc) (λ x q k. search (rules, tests)) (λ x q k. search (rules, tests)))
