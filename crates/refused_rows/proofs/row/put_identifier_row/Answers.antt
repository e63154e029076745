-- `refused_rows::row::put_identifier_row` meets its contract. Assumes nothing.
use Rattle.std.proofs.Common.{arith}
use Rattle.bill_rules.specs.Refusals.{of_identifier}
use Rattle.refused_rows.specs.Rows.{number_text, place_of, words_of}
use Rattle.refused_rows.proofs.Rows as laws
use native.Mathlib.Omega.{arith}
use Rattle.refused_rows.proofs.row.put_identifier_row.Goals as goal

pub returns : goal.returns
unfolding number_text place_of words_of
returns c =
    let w = c.put_meaning.ensures in
    let i = c.put_identifier-s.ensures in
    let n = c.put_number-r.ensures in
    let d = c.put_number-q.ensures in
    let h = c.put_head-p.ensures in
    let a = c.args in
    let t = laws.row_put a.n a.line.now (of_identifier a.number a.place) a.out.now _ _ _ _ _ a.at _ _ _ _ _ (h.0, h.1) (d.0, d.1) (n.0, n.1) (i.0, i.1) (w.0, w.1) in
    (t.0, t.1, omega (arith, h.2, d.2, n.2, i.2, w.2))
