-- `table_report::shape::row_fault` meets its contract. Assumes nothing.
use mathlib.Core.Path.{sym, ◌∙◌}
use borrow.Author.Tests.{eq-eqb, eqb-true}
use Rattle.standard.proofs.General.{clash}
use Rattle.table_report.proofs.Judged as judged
use Rattle.table_report.proofs.shape.row_fault.Goals as goal

pub returns-then-is_empty : goal.returns-then-is_empty
returns-then-is_empty c = judged.fault-empty _ _ (eqb-true _ 0 (sym c.is_empty.ensures ∙ c.if-is_empty.true))

pub returns-then-row-last-eq13 : goal.returns-then-row-last-eq13
returns-then-row-last-eq13 c = judged.fault-return _ _ (λ e. clash (eq-eqb _ 0 e) (sym c.is_empty.ensures ∙ c.if-is_empty.false)) c.if-row-last-eq13.true

pub returns-then-tabs-eq0 : goal.returns-then-tabs-eq0
returns-then-tabs-eq0 c = judged.fault-no-tab _ _ (λ e. clash (eq-eqb _ 0 e) (sym c.is_empty.ensures ∙ c.if-is_empty.false)) c.if-row-last-eq13.false _ 0 c.count-tabs.ensures.0 c.if-tabs-eq0.true

pub returns-then-tabs-wanted : goal.returns-then-tabs-wanted
returns-then-tabs-wanted c = judged.fault-few _ _ (λ e. clash (eq-eqb _ 0 e) (sym c.is_empty.ensures ∙ c.if-is_empty.false)) c.if-row-last-eq13.false _ _ c.count-tabs.ensures.0 c.if-tabs-eq0.false c.tabs_of-wanted.ensures c.if-tabs-wanted.true

pub returns-then-wanted-tabs : goal.returns-then-wanted-tabs
returns-then-wanted-tabs c = judged.fault-many _ _ (λ e. clash (eq-eqb _ 0 e) (sym c.is_empty.ensures ∙ c.if-is_empty.false)) c.if-row-last-eq13.false _ _ c.count-tabs.ensures.0 c.if-tabs-eq0.false c.tabs_of-wanted.ensures c.if-tabs-wanted.false c.if-wanted-tabs.true

pub returns-else-wanted-tabs : goal.returns-else-wanted-tabs
returns-else-wanted-tabs c = c.field_fault.ensures ∙ judged.fault-field _ _ (λ e. clash (eq-eqb _ 0 e) (sym c.is_empty.ensures ∙ c.if-is_empty.false)) c.if-row-last-eq13.false _ _ c.count-tabs.ensures.0 c.if-tabs-eq0.false c.tabs_of-wanted.ensures c.if-tabs-wanted.false c.if-wanted-tabs.false
