-- `likely::rows::find_row` meets its contract. Assumes nothing.
use Rattle.std.proofs.Common.{rules, tests}
use Rattle.likely.proofs.Lookups.{ready-alone, row-first, row-no-script, row-no-region, row-shorter}
use Rattle.likely.proofs.rows.find_row.Goals as goal
use Rattle.likely.proofs.rows.find_row.Goals.{then-is_empty-via-then-is_empty, then-is_empty-via-else-is_empty+then-is_empty-2}

pub returns-in-Some : goal.returns-in-Some
returns-in-Some c = λ q. row-first _ _ _ _ _ (c.in-Some.ensures q)

pub returns-then-is_empty : goal.returns-then-is_empty
returns-then-is_empty c = λ q.
    let a = c.in_default.ensures q in
    let e = c.find-then-is_empty.ensures (ready-alone _ _ _ q) in
    elim c.then-is_empty.branch [
      | then-is_empty-via-then-is_empty w ↦ row-no-script _ _ _ _ a _ (search (rules, tests)) e
      | then-is_empty-via-else-is_empty+then-is_empty-2 w ↦ row-no-region _ _ _ _ a _ (search (rules, tests)) e
    ]

pub returns : goal.returns
returns c = λ q. row-shorter _ _ _ _ (c.in_default.ensures q) _ (c.find_shorter.ensures q)
