-- `refused_rows::fault::check_identifier` meets its contract. Assumes nothing.
use Rattle.std.proofs.Common.{[], arith}
use Rattle.standard.specs.Table.{tables_of}
use Rattle.standard.specs.Calls.{minimise}
use Rattle.standard.specs.Make.{make}
use Rattle.refused_rows.specs.Faults.{fault_is}
use Rattle.refused_rows.proofs.Faults as laws
use native.Mathlib.Omega.{arith}
use Rattle.refused_rows.proofs.fault.check_identifier.Goals as goal
use Rattle.refused_rows.proofs.fault.check_identifier.Goals.{After-from-answer}

said : (c : After-from-answer) → let a = c.args in laws.Told a.start (make (tables_of a.tables.aliases.rows.now a.tables.likely.rows.now []) minimise a.id.now) c.from-answer.result
said c =
    laws.told c.args.tables.aliases.rows.now c.args.tables.likely.rows.now c.args.id.now c.args.tables.tested.passes c.args.start c.form_tested.result c.from-answer.result _ c.args.form.now c.requires.0 c.from-answer.ensures c.form_tested.ensures

pub returns-then-answer-eq0 : goal.returns-then-answer-eq0
unfolding fault_is
returns-then-answer-eq0 c = (said (goal.at.returns-then-answer-eq0 c).After-from-answer).fine c.if-answer-eq0.true

pub overflow_add-result : goal.overflow_add-result
overflow_add-result c = omega (arith, (said (goal.at.overflow_add-result c).After-from-answer).near, c.requires.1)

pub returns : goal.returns
unfolding fault_is
returns c = (said (goal.at.returns c).After-from-answer).wrong c.if-answer-eq0.false
