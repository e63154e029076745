-- `parents::lines::without_last` meets its contract. Assumes nothing.
use borrow.Author.Rules.{rules}
use Rattle.std.proofs.Common.{tests}
use Rattle.std.proofs.lemmas.Iterator.{IsFirst-from_position}
use Rattle.std.proofs.lemmas.Iterator.Adapters.{YieldsList-from_rev_slice}
use Rattle.parents.proofs.Writing.{Dash, Other, without-found, without_none}
use Rattle.parents.proofs.lines.without_last.Goals as goal

pub returns-in-Some : goal.returns-in-Some
returns-in-Some c =
    let f = IsFirst-from_position _ _ _ Dash Other c.in-Some.ensures.ran (YieldsList-from_rev_slice c.args.id.now cc) (λ x q k. search (rules, tests)) (λ x q k. search (rules, tests)) in
    without-found _ _ f.0 f.1 f.2

pub returns-in-None : goal.returns-in-None
returns-in-None c =
    without_none _ (IsFirst-from_position _ _ _ Dash Other c.in-None.ensures.ran (YieldsList-from_rev_slice c.args.id.now cc) (λ x q k. search (rules, tests)) (λ x q k. search (rules, tests))) _ c.requires
