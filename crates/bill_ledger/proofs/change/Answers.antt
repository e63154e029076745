-- `bill_ledger::change` meets its contract. Assumes nothing.
use Prim.Native.Nat.{◌*◌}
use native.Mathlib.Omega.{arith}
use lib.Bits.{bit_or}
use lib.ListN.{get_or, length-set}
use Rattle.bill_ledger.proofs.Changes.{changed}
use Rattle.bill_ledger.proofs.change.Goals as goal

pub bounds-counts-i-3 : goal.bounds-counts-i-3
bounds-counts-i-3 c =
    omega (arith, c.requires.1, length-set c.args.counts.now (2 * c.args.at) (bit_or (get_or c.args.counts.now (2 * c.args.at) 0) c.args.mark))

pub bounds-counts-i-4 : goal.bounds-counts-i-4
bounds-counts-i-4 c =
    omega (arith, c.requires.1, length-set c.args.counts.now (2 * c.args.at) (bit_or (get_or c.args.counts.now (2 * c.args.at) 0) c.args.mark))

pub returns : goal.returns
returns c =
    λ ks n u e h f. changed ks c.args.counts.now u c.args.at n c.args.mark c.saturating_add.result c.requires.0 c.requires.1 e h f (λ k. omega (arith, k, c.saturating_add.ensures))
