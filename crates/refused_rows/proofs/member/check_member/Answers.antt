-- `refused_rows::member::check_member` meets its contract. Assumes nothing.
use Rattle.std.proofs.Common.{sym, ap, not, ◌∙◌}
use borrow.Author.Tests.{eqb-true, eq-eqb}
use Rattle.standard.proofs.General.{clash}
use Rattle.refused_rows.specs.Faults.{wrong_is, member_is}
use Rattle.refused_rows.proofs.Members as laws
use Rattle.refused_rows.proofs.member.check_member.Goals as goal

pub returns-then-is_empty : goal.returns-then-is_empty
unfolding member_is wrong_is
returns-then-is_empty c = laws.no_bytes_lem _ (eqb-true _ 0 (sym c.is_empty.ensures ∙ c.if-is_empty.true))

pub returns-then-not-all_digits : goal.returns-then-not-all_digits
unfolding member_is wrong_is
returns-then-not-all_digits c = laws.no-digits _ (λ e. clash (eq-eqb _ 0 e) (sym c.is_empty.ensures ∙ c.if-is_empty.false)) (sym c.all_digits.ensures ∙ c.if-not-all_digits.true)

pub returns-then-has_leading_zero : goal.returns-then-has_leading_zero
unfolding member_is wrong_is
returns-then-has_leading_zero c = laws.zero-first _ (λ e. clash (eq-eqb _ 0 e) (sym c.is_empty.ensures ∙ c.if-is_empty.false)) (sym c.all_digits.ensures ∙ c.if-not-all_digits.false) (sym c.has_leading_zero.ensures ∙ c.if-has_leading_zero.true)

pub returns-then-is_none : goal.returns-then-is_none
unfolding member_is wrong_is
returns-then-is_none c = laws.out_of_range_lem _ (λ e. clash (eq-eqb _ 0 e) (sym c.is_empty.ensures ∙ c.if-is_empty.false)) (sym c.all_digits.ensures ∙ c.if-not-all_digits.false) (sym c.has_leading_zero.ensures ∙ c.if-has_leading_zero.false) (laws.none-named _ _ c.member_named.ensures (c.is_none.ensures ∙ ap not c.if-is_none.true))

pub returns-else-is_none : goal.returns-else-is_none
unfolding member_is wrong_is
returns-else-is_none c = laws.in-range _ (λ e. clash (eq-eqb _ 0 e) (sym c.is_empty.ensures ∙ c.if-is_empty.false)) (sym c.all_digits.ensures ∙ c.if-not-all_digits.false) (sym c.has_leading_zero.ensures ∙ c.if-has_leading_zero.false) _ c.member_named.ensures (c.is_none.ensures ∙ ap not c.if-is_none.false)
