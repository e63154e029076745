-- `tsv::put_number` meets its contract. Assumes nothing.
use native.Mathlib.Omega.{arith}
use Rattle.tsv.proofs.Laws as laws
use mathlib.Core.Path.{◌≡◌}
use lib.ListN.{length}
use borrow.Author.Rules.{rules}
use Rattle.tsv.proofs.put_number.Goals as goal

pub returns-then-n-lt10 : goal.returns-then-n-lt10
returns-then-n-lt10 c = let p = c.put_digit.ensures in (p.0, p.1, omega (arith, p.2))

pub put_from-requires : goal.put_from-requires
put_from-requires c = let e : length c.digits_of-d.result.bytes ≡ 20 = search rules in (omega (arith, c.digits_of-d.ensures.1), omega arith)

pub returns : goal.returns
returns c =
    let a = c.args in
    let d = c.digits_of-d.ensures in
    let p = rw d.0 at c.put_from.ensures in
    (p.0, p.1, omega (arith, p.0, laws.number-length a.n a.mark))
