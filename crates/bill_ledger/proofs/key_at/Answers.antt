-- `bill_ledger::key_at` meets its contract. Assumes nothing.
use mathlib.Core.Path.{refl}
use native.Mathlib.Omega.{arith}
use Rattle.bill_ledger.proofs.Places.{key-part}
use Rattle.bill_ledger.proofs.Moves.{most-31, length-part}
use Rattle.bill_ledger.proofs.key_at.Goals as goal

pub returns : goal.returns
returns c =
    let a = c.args in
    let m = c.min-len in
    let k = key-part a.keys.now a.i _ _ m.result refl refl (most-31 _ _ m.ensures) (omega arith) in
    (k, length-part a.keys.now _ _ m.result refl (omega arith))
