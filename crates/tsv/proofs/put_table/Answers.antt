-- `tsv::put_table` meets its contract. Assumes nothing.
use native.Mathlib.Omega.{arith}
use Rattle.tsv.proofs.Laws as laws
use Rattle.tsv.proofs.put_table.Goals as goal

pub put_number-q-requires : goal.put_number-q-requires
put_number-q-requires c = omega (arith, laws.table-word, c.put-p.ensures.0)

pub put_number-r-requires : goal.put_number-r-requires
put_number-r-requires c = omega (arith, laws.table-word, c.put-p.ensures.0, c.put_number-q.ensures.2)

pub put_number-requires : goal.put_number-requires
put_number-requires c = omega (arith, laws.table-word, c.put-p.ensures.0, c.put_number-q.ensures.2, c.put_number-r.ensures.2)

pub returns : goal.returns
returns c =
    let w = laws.table-written c.args.out.now c.put-p.new.out c.put_number-q.new.out c.put_number-r.new.out c.put_number.new.out c.put-p.result c.put_number-q.result c.put_number-r.result c.put_number.result _ _ _
    c.put-p.ensures (c.put_number-q.ensures.0, c.put_number-q.ensures.1) (c.put_number-r.ensures.0, c.put_number-r.ensures.1) (c.put_number.ensures.0, c.put_number.ensures.1) in
    (omega (arith, w.0), w.1, omega (arith, laws.table-word, c.put-p.ensures.0, c.put_number-q.ensures.2, c.put_number-r.ensures.2, c.put_number.ensures.2))
