-- `bill_lines::text::put_bill` meets its contract. Assumes nothing.
use native.Mathlib.Omega.{arith}
use Rattle.bill_ledger.specs.Places.{entries_from}
use Rattle.bill_lines.specs.Text.{last_text, entries_text}
use Rattle.bill_lines.proofs.Texts.{bill-written}
use Rattle.bill_lines.proofs.text.put_bill.Goals as goal

pub returns : goal.returns
returns c =
    let h = c.put_header-p in
    let m = c.put_rows-q in
    let l = c.put_last in
    let a = c.args in
    let w = bill-written a.out.now h.new.out m.new.out l.new.out h.result m.result l.result (entries_text (entries_from a.keys.now a.counts.now 0 a.n)) (last_text a.refused) h.ensures.0 h.ensures.1 m.ensures.0 m.ensures.1 l.ensures.0 l.ensures.1 in
    (w.0, w.1, omega (arith, h.ensures.2, m.ensures.2, l.ensures.2))
