-- `bill_ledger::place_of` meets its contract. Assumes nothing.
use mathlib.Core.Path.{sym, ◌∙◌}
use native.Mathlib.Omega.{arith}
use Rattle.bill_ledger.proofs.Moves.{search-start, search-above, search-below, search-end}
use Rattle.bill_ledger.proofs.place_of.Goals as goal

pub loop-lo-init : goal.loop-lo-init
loop-lo-init c = (omega arith, omega arith, search-start _ _ _)

pub is_below-requires : goal.is_below-requires
is_below-requires c = (omega arith, c.requires.1)

pub loop-lo-preserved-then-is_below : goal.loop-lo-preserved-then-is_below
loop-lo-preserved-then-is_below c =
    (omega arith, omega arith, search-above _ _ _ _ _ _ (omega arith) (sym c.is_below.ensures ∙ c.if-is_below.true) c.loop-lo.invariant.2)

pub loop-lo-preserved : goal.loop-lo-preserved
loop-lo-preserved c =
    (omega arith, omega arith, search-below _ _ _ _ _ _ (omega arith) (sym c.is_below.ensures ∙ c.if-is_below.false) c.loop-lo.invariant.2)

pub returns : goal.returns
returns c = (omega arith, search-end _ _ _ _ _ (omega arith) c.loop-lo.invariant.2)
