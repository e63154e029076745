-- `subtag::kind_of` meets its contract. Assumes nothing.
use native.Mathlib.Omega.{arith}
use mathlib.Core.Bool.{true, false}
use mathlib.Core.Path.{sym, ◌∙◌}
use borrow.Author.Tests.{eq-eqb, ne_eqb}
use Rattle.subtag.proofs.Shapes as shapes
use Rattle.subtag.proofs.kind_of.Goals as goal

pub returns-in-2 : goal.returns-in-2
returns-in-2 c = shapes.kind-two _ true c.in-2.is (eq-eqb _ 2 c.if-t-eq2.true)

pub returns-in_default : goal.returns-in_default
returns-in_default c = shapes.kind-two _ false c.in-2.is (ne_eqb _ 2 c.if-t-eq2.false)

pub returns-in-3 : goal.returns-in-3
returns-in-3 c = shapes.kind-three _ true c.in-3.is (eq-eqb _ 3 c.if-t-eq3.true)

pub returns-in_default-2 : goal.returns-in_default-2
returns-in_default-2 c = shapes.kind-three _ false c.in-3.is (ne_eqb _ 3 c.if-t-eq3.false)

pub returns-in-4 : goal.returns-in-4
returns-in-4 c = shapes.kind-four-letters _ c.in-4.is c.if-t-eq4.true

pub returns-in-4-2 : goal.returns-in-4-2
returns-in-4-2 c = shapes.kind-four _ true c.in-4.is c.if-t-eq4.false (sym c.is_digit.ensures ∙ c.if-is_digit.true)

pub returns-in_default-3 : goal.returns-in_default-3
returns-in_default-3 c = shapes.kind-four _ false c.in-4.is c.if-t-eq4.false (sym c.is_digit.ensures ∙ c.if-is_digit.false)

pub returns-in-5-to-8 : goal.returns-in-5-to-8
returns-in-5-to-8 c = shapes.kind-several _ (omega arith) (omega arith)

pub returns-in_default-4 : goal.returns-in_default-4
returns-in_default-4 c = shapes.kind-short _ (omega arith)

pub returns-in_default-5 : goal.returns-in_default-5
returns-in_default-5 c = shapes.kind-long _ (omega arith)
