-- `reader::read_parts` meets its contract. Assumes nothing.
use native.Mathlib.Omega.{arith}
use mathlib.Core.Path.{sym, ap, ◌∙◌}
use borrow.Author.Tests.{eqb-true, eqb-false}
use Rattle.reader.specs.Parts.{outcome_of, found_as}
use Rattle.reader.proofs.Outcomes as outcomes
use Rattle.reader.proofs.read_parts.Goals as goal

pub returns-then-is_empty : goal.returns-then-is_empty
unfolding outcome_of
returns-then-is_empty c = outcomes.outcome-empty _ (eqb-true _ 0 (sym c.is_empty.ensures ∙ c.if-is_empty.true))

pub returns-then-id-gt255 : goal.returns-then-id-gt255
unfolding outcome_of
returns-then-id-gt255 c = outcomes.outcome-long _ c.if-id-gt255.true

pub returns-in-Some : goal.returns-in-Some
unfolding outcome_of
returns-in-Some c =
    let h = eqb-false _ 0 (sym c.is_empty.ensures ∙ c.if-is_empty.false) in
    outcomes.outcome-byte _ (omega arith) (omega arith) _ _ c.foreign_byte.ensures c.in-Some.is

pub returns-in-Some-wrong_size : goal.returns-in-Some-wrong_size
unfolding outcome_of found_as
returns-in-Some-wrong_size c =
    let h = eqb-false _ 0 (sym c.is_empty.ensures ∙ c.if-is_empty.false) in
    outcomes.outcome-size _ (omega arith) (omega arith) (sym c.foreign_byte.ensures ∙ ap (found_as 3) c.in_default.is) _ _ c.wrong_size.ensures c.in-Some-wrong_size.is

pub returns : goal.returns
unfolding found_as
returns c =
    let h = eqb-false _ 0 (sym c.is_empty.ensures ∙ c.if-is_empty.false) in
    c.walk.ensures
    ∙ outcomes.outcome-walk _ (omega arith) (omega arith) (sym c.foreign_byte.ensures ∙ ap (found_as 3) c.in_default.is) _ c.wrong_size.ensures c.in_default-wrong_size.is
