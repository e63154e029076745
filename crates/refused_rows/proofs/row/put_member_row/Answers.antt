-- `refused_rows::row::put_member_row` meets its contract. Assumes nothing.
use Rattle.std.proofs.Common.{arith}
use Rattle.standard.specs.Tag.{text}
use Rattle.tsv.proofs.Laws.{field-length}
use Rattle.bill_rules.specs.Refusals.{of_member}
use Rattle.refused_rows.specs.Faults.{wrong_is}
use Rattle.refused_rows.specs.Rows.{number_text, place_of, words_of}
use Rattle.refused_rows.proofs.Rows as laws
use native.Mathlib.Omega.{arith}
use Rattle.refused_rows.proofs.row.put_member_row.Goals as goal

pub put_number-r-requires : goal.put_number-r-requires
put_number-r-requires c = omega (arith, c.put_head-p.ensures.2, c.put-q.ensures.0, field-length (text "-") 9)

pub put_identifier-s-requires : goal.put_identifier-s-requires
put_identifier-s-requires c = omega (arith, c.put_head-p.ensures.2, c.put-q.ensures.0, c.put_number-r.ensures.2, field-length (text "-") 9)

pub put_words-requires : goal.put_words-requires
put_words-requires c = omega (arith, c.put_head-p.ensures.2, c.put-q.ensures.0, c.put_number-r.ensures.2, c.put_identifier-s.ensures.2, field-length (text "-") 9)

pub returns : goal.returns
unfolding number_text place_of words_of
returns c =
    let w = c.put_words.ensures in
    let i = c.put_identifier-s.ensures in
    let n = c.put_number-r.ensures in
    let d = c.put-q.ensures in
    let h = c.put_head-p.ensures in
    let a = c.args in
    let t = laws.row_put a.n a.line.now (of_member (wrong_is a.f)) a.out.now _ _ _ _ _ a.at _ _ _ _ _ (h.0, h.1) d (n.0, n.1) (i.0, i.1) (w.0, w.1) in
    (t.0, t.1, omega (arith, h.2, d.0, field-length (text "-") 9, n.2, i.2, w.2))
