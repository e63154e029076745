-- `bill_ledger::insert_counts` meets its contract. Assumes nothing.
use Prim.Native.Nat.{◌*◌}
use native.Mathlib.Omega.{arith}
use lib.ListN.{length-set}
use Rattle.bill_ledger.proofs.Inserts.{counts-more}
use Rattle.bill_ledger.proofs.Moves.{moved}
use Rattle.bill_ledger.proofs.insert_counts.Goals as goal

pub bounds-counts-from-2 : goal.bounds-counts-from-2
bounds-counts-from-2 c =
    let v = c.copy_within in
    let a = c.args in
    omega (arith, v.ensures.len, length-set v.new.self (2 * a.at) a.marks)

pub returns : goal.returns
returns c =
    let v = c.copy_within in
    counts-more c.args.counts.now v.new.self c.args.n c.args.at c.args.marks (omega arith) (omega arith) c.requires.2 (moved _ _ _ _ _ (omega arith) (omega arith) v.ensures.len v.ensures.by_index)
