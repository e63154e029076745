-- `bill_lines::text::put_last` meets its contract. Assumes nothing.
use native.Mathlib.Omega.{arith}
use Rattle.bill_lines.proofs.Texts.{last-start, last_written}
use Rattle.bill_lines.proofs.text.put_last.Goals as goal

pub put_number-requires : goal.put_number-requires
put_number-requires c = omega (arith, last-start, c.put-p.ensures.0)

pub returns : goal.returns
returns c =
    let p = c.put-p in
    let q = c.put_number in
    let w = last_written c.args.out.now p.new.out q.new.out c.args.at p.result q.result c.args.refused p.ensures.0 p.ensures.1 q.ensures.0 q.ensures.1 in
    (w.0, w.1, omega (arith, last-start, p.ensures.0, q.ensures.2))
