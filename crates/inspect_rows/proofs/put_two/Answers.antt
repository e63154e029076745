-- `inspect_rows::put_two` meets its contract. Assumes nothing.
use native.Mathlib.Omega.{arith}
use mathlib.Core.Path.{refl}
use Rattle.byte_string.proofs.Stores.{wrote-two}
use Rattle.tsv.specs.Fields.{decimal, field}
use Rattle.inspect_rows.proofs.put_two.Goals as goal

pub returns : goal.returns
returns c =
    let a = c.args in
    let p = c.put_number-p.ensures in
    let q = c.put_number.ensures in
    let w = wrote-two a.out.now c.put_number-p.new.out c.put_number.new.out a.at c.put_number-p.result c.put_number.result (field (decimal a.first) 9) (field (decimal a.second) a.mark) _ refl p.0 p.1 q.0 q.1 in
    (w.0, w.1, omega (arith, p.2, q.2))
