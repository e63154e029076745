-- `inspect_rows::put_meant` meets its contract. Assumes nothing.
use native.Mathlib.Omega.{arith}
use Rattle.inspect_rows.proofs.Texts as rows
use Rattle.inspect_rows.proofs.put_meant.Goals as goal

pub returns-then-number-ne0 : goal.returns-then-number-ne0
returns-then-number-ne0 c = let p = c.put_meaning.ensures in rw (rows.meant-number _ _ c.if-number-ne0.true) (p.0, p.1, omega (arith, p.2))

pub returns-then-key-eq0 : goal.returns-then-key-eq0
returns-then-key-eq0 c = let p = c.put_meaning-then-key-eq0.ensures in rw (rows.meant-done _ _ c.if-number-ne0.false c.if-key-eq0.true) (p.0, p.1, omega (arith, p.2))

pub returns : goal.returns
returns c = rw (rows.meant-key _ _ c.if-number-ne0.false c.if-key-eq0.false) c.put_no_key.ensures
