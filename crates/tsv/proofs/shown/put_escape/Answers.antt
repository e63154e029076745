-- `tsv::shown::put_escape` meets its contract. Assumes nothing.
use native.Mathlib.Omega.{arith}
use Prim.Native.Nat.{◌+◌}
use lib.ListN.{set, length-set}
use Rattle.tsv.proofs.Showing as laws
use Rattle.tsv.proofs.shown.put_escape.Goals as goal

pub bounds-out-at-2 : goal.bounds-out-at-2
bounds-out-at-2 c = let a = c.args in omega (arith, length-set a.out.now a.at 92)

pub bounds-out-at-3 : goal.bounds-out-at-3
bounds-out-at-3 c = let a = c.args in omega (arith, length-set a.out.now a.at 92, length-set (set a.out.now a.at 92) (a.at + 1) 120)

pub bounds-out-at-4 : goal.bounds-out-at-4
bounds-out-at-4 c =
    let a = c.args in
    let o = set a.out.now a.at 92 in
    let p = set o (a.at + 1) 120 in
    omega (arith, length-set a.out.now a.at 92, length-set o (a.at + 1) 120, length-set p (a.at + 2) c.hex_digit.result)

pub returns : goal.returns
returns c = laws.byte-escape c.args.out.now c.args.at c.args.b _ _ c.requires.0 c.hex_digit.ensures c.hex_digit-2.ensures
