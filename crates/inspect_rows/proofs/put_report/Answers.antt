-- `inspect_rows::put_report` meets its contract. Assumes nothing.
use native.Mathlib.Omega.{arith}
use mathlib.Core.Path.{refl}
use Rattle.byte_string.proofs.Stores.{wrote-two}
use Rattle.reader.specs.Words.{word_is}
use Rattle.inspect_rows.specs.Rows.{told_is, where_text, three_text, counts_text, fields_text}
use Rattle.inspect_rows.proofs.put_report.Goals as goal

pub returns : goal.returns
unfolding fields_text where_text counts_text told_is
returns c =
    let a = c.args in
    let p = c.put_two-p in
    let q = c.put_three-q in
    let r = c.put_two in
    let u = wrote-two p.new.out q.new.out r.new.out p.result q.result r.result (three_text (word_is a.t.report.language) (word_is a.t.report.script) (word_is a.t.report.region)) (counts_text a.t.report.variants a.t.report.extensions) _ refl q.ensures.0 q.ensures.1 r.ensures.0 r.ensures.1 in
    let w = wrote-two a.out.now p.new.out r.new.out a.at p.result r.result (where_text a.t.number a.t.place) _ _ refl p.ensures.0 p.ensures.1 u.0 u.1 in
    (w.0, w.1, omega (arith, p.ensures.2, q.ensures.2, r.ensures.2))
