-- `bill_ledger::insert_key` meets its contract. Assumes nothing.
use Prim.Native.Nat.{◌*◌}
use native.Mathlib.Omega.{arith}
use lib.ListN.{length, length-set}
use Rattle.bill_ledger.specs.Places.{KeyMore}
use Rattle.bill_ledger.proofs.Inserts.{key_more}
use Rattle.bill_ledger.proofs.Moves.{moved}
use Rattle.bill_ledger.proofs.insert_key.Goals as goal
use Rattle.bill_ledger.proofs.insert_key.Goals.{After-keys-2-1}

pub put-requires : goal.put-requires
put-requires c =
    let v = c.copy_within in
    let a = c.args in
    omega (arith, v.ensures.len, length-set v.new.self (32 * a.at) (length a.key.now))

key-there : (c : After-keys-2-1)
    → KeyMore c.args.keys.now c.put.new.out c.args.n c.args.at c.args.key.now
key-there c =
    let v = c.copy_within in
    rw c.put.ensures.1 (key_more c.args.keys.now v.new.self c.args.n c.args.at c.args.key.now c.requires.1 c.requires.0 c.requires.2 c.requires.3 (moved _ _ _ _ _ (omega arith) (omega arith) v.ensures.len v.ensures.by_index))

pub returns : goal.returns
returns c = key-there (goal.at.returns c).After-keys-2-1
