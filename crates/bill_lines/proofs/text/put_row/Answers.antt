-- `bill_lines::text::put_row` meets its contract. Assumes nothing.
use native.Mathlib.Omega.{arith}
use Rattle.bill_lines.proofs.Texts.{row_written}
use Rattle.bill_lines.proofs.text.put_row.Goals as goal

pub returns : goal.returns
returns c =
    let a = c.args in
    let m = c.members_of-members in
    let k = c.put_key-p in
    let p = c.put_number-q in
    let q = c.put_number in
    let w = row_written a.out.now k.new.out p.new.out q.new.out a.at k.result p.result q.result a.keys.now a.counts.now a.i m.result m.ensures (k.ensures.0, k.ensures.1) (p.ensures.0, p.ensures.1) (q.ensures.0, q.ensures.1) in
    (w.0, w.1, omega (arith, k.ensures.2, p.ensures.2, q.ensures.2))
