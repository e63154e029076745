-- `parents::lines::parent_of` meets its contract. Assumes nothing.
use native.Mathlib.Omega.{arith}
use Rattle.parents.proofs.Writing.{without-le, by-variants, by_row, by_none}
use Rattle.parents.proofs.lines.parent_of.Goals as goal

pub returns-then-variants-gt0 : goal.returns-then-variants-gt0
returns-then-variants-gt0 c = let w = c.without_last.ensures in (without-le _ _ w c.requires.0, λ s. by-variants _ _ _ _ c.if-variants-gt0.true w)

pub returns-in-Some : goal.returns-in-Some
returns-in-Some c = (omega (arith, c.in-Some.ensures.within), λ s. by_row _ _ _ _ c.if-variants-gt0.false (c.in-Some.ensures.value s))

pub returns-in-None : goal.returns-in-None
returns-in-None c =
    let w = c.without_last-in-None.ensures in
    (without-le _ _ w c.requires.0, λ s. by_none _ _ _ _ c.if-variants-gt0.false (c.in-None.ensures.value s) w)
