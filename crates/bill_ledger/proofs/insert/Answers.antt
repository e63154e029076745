-- `bill_ledger::insert` meets its contract. Assumes nothing.
use mathlib.Core.Path.{◌≡◌, sym, ap, ◌∙◌}
use Prim.Native.Nat.{suc, ◌+◌}
use native.Mathlib.Omega.{arith}
use Rattle.bill_ledger.specs.Places.{entries_from}
use Rattle.bill_ledger.proofs.Changes.{inserted}
use Rattle.bill_ledger.proofs.insert.Goals as goal

pub returns : goal.returns
returns c =
    let v = c.insert_counts in
    let k = c.insert_key in (
      record { keys = k.ensures.size ∙ c.requires.2.keys; counts = v.ensures.size ∙ c.requires.2.counts },
      λ u e m. ap (entries_from k.new.keys v.new.counts 0) (let z : c.args.n + 1 ≡ suc c.args.n = omega arith in z)
          ∙ inserted c.args.keys.now k.new.keys c.args.counts.now v.new.counts u c.args.at c.args.n c.args.mark c.requires.1 m (rw (sym e) at k.ensures) v.ensures,
    )
