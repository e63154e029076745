-- `tsv::put_digit` meets its contract. Assumes nothing.
use native.Mathlib.Omega.{arith}
use lib.ListN.{length-set}
use Rattle.tsv.proofs.Laws as laws
use Rattle.tsv.proofs.put_digit.Goals as goal

pub bounds-out-at-2 : goal.bounds-out-at-2
bounds-out-at-2 c = let a = c.args in omega (arith, length-set a.out.now a.at c.digit.result)

pub returns : goal.returns
returns c = laws.digit-put c.args.out.now c.args.at c.args.n c.args.mark c.digit.result c.requires.0 c.digit.ensures
