-- `underline::put_marks` meets its contract. Assumes nothing.
use native.Mathlib.Omega.{arith}
use Prim.Native.Nat.{ℕ, ◌-◌}
use lib.ListN.{length-replicate}
use Rattle.underline.proofs.Marking as laws
use Rattle.underline.proofs.put_marks.Goals as goal

pub put_times-p-requires : goal.put_times-p-requires
put_times-p-requires c =
    let a = c.args in
    omega (arith, laws.marks-size a.column a.s)

pub put_times-requires : goal.put_times-requires
put_times-requires c =
    let a = c.args in
    let p = c.put_times-p in
    omega (arith, laws.marks-size a.column a.s, length-replicate {A = ℕ} (a.s.start - a.column) 32, p.ensures.0)

pub returns : goal.returns
returns c =
    let p = c.put_times-p in
    let q = c.put_times in
    laws.marks-written _ _ _ _ _ _ _ _ p.ensures q.ensures
