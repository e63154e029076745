-- `subtag::lowered` meets its contract. Assumes nothing.
use native.Mathlib.Omega.{arith}
use mathlib.Core.Path.{sym, ◌∙◌}
use Rattle.standard.specs.Grammar.{lower_byte}
use Rattle.subtag.specs.Bytes.{is_capital}
use Rattle.subtag.proofs.Bytes.{by-class, classed, capital-in, capital-class}
use Rattle.subtag.proofs.lowered.Goals as goal

pub overflow_add-result : goal.overflow_add-result
overflow_add-result c =
    let h = capital-in _ (sym (by-class _ is_capital (c.eq.ensures ∙ capital-class _) c.requires (classed _).capital) ∙ c.if-eq.true) in
    omega arith

pub returns-then-eq : goal.returns-then-eq
unfolding lower_byte
returns-then-eq c = rw (sym (by-class _ is_capital (c.eq.ensures ∙ capital-class _) c.requires (classed _).capital) ∙ c.if-eq.true)

pub returns-else-eq : goal.returns-else-eq
unfolding lower_byte
returns-else-eq c = rw (sym (by-class _ is_capital (c.eq.ensures ∙ capital-class _) c.requires (classed _).capital) ∙ c.if-eq.false)
