-- `subtag::normalise` meets its contract. Assumes nothing.
use mathlib.Core.Path.{sym, ◌∙◌}
use Rattle.subtag.specs.Bytes.{is_separator}
use Rattle.subtag.proofs.Bytes.{by-class, classed, separator-class, normalise-sep, normalise-other}
use Rattle.subtag.proofs.normalise.Goals as goal

pub returns-then-eq : goal.returns-then-eq
returns-then-eq c = sym (normalise-sep _ (sym (by-class _ is_separator (c.eq.ensures ∙ separator-class _) c.class_of-k.ensures (classed _).separator) ∙ c.if-eq.true))

pub returns-else-eq : goal.returns-else-eq
returns-else-eq c =
    c.lowered.ensures
    ∙ sym (normalise-other _ (sym (by-class _ is_separator (c.eq.ensures ∙ separator-class _) c.class_of-k.ensures (classed _).separator) ∙ c.if-eq.false))
