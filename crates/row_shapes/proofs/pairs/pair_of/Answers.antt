-- `row_shapes::pairs::pair_of` meets its contract. Assumes nothing.
use mathlib.Core.Path.{sym, ◌∙◌}
use Rattle.row_shapes.proofs.Texts.{pair-no-key, pair-no-tab, pair-no-value, pair-no-end, pair-yes}
use Rattle.row_shapes.proofs.pairs.pair_of.Goals as goal

pub returns-in_err-key : goal.returns-in_err-key
returns-in_err-key c = rw c.from_residual.ensures (pair-no-key _ c.in_err-key.ensures)

pub returns-then-not-stands : goal.returns-then-not-stands
returns-then-not-stands c = pair-no-tab _ _ c.in_ok-key.ensures (sym c.stands.ensures ∙ c.if-not-stands.true)

pub returns-in_err-value : goal.returns-in_err-value
returns-in_err-value c = rw c.from_residual-in_err-value.ensures (pair-no-value _ _ c.in_ok-key.ensures c.in_err-value.ensures)

pub returns-then-not-stands-2 : goal.returns-then-not-stands-2
returns-then-not-stands-2 c = pair-no-end _ _ c.in_ok-key.ensures _ c.in_ok-value.ensures (sym c.stands-2.ensures ∙ c.if-not-stands-2.true)

pub returns : goal.returns
returns c =
    pair-yes _ _ c.in_ok-key.ensures _ c.in_ok-value.ensures (sym c.stands.ensures ∙ c.if-not-stands.false) (sym c.stands-2.ensures ∙ c.if-not-stands-2.false)
