-- `inspect_rows::put_three` meets its contract. Assumes nothing.
use native.Mathlib.Omega.{arith}
use mathlib.Core.Path.{refl}
use Rattle.byte_string.proofs.Stores.{wrote-two}
use Rattle.reader.specs.Words.{word_is}
use Rattle.tsv.specs.Fields.{field}
use Rattle.inspect_rows.specs.Rows.{dashed, three_text}
use Rattle.inspect_rows.proofs.put_three.Goals as goal

pub returns : goal.returns
unfolding three_text
returns c =
    let a = c.args in
    let p = c.put_subtag-p in
    let q = c.put_subtag-q in
    let r = c.put_subtag in
    let u = wrote-two p.new.out q.new.out r.new.out p.result q.result r.result (field (dashed (word_is a.script)) 9) (field (dashed (word_is a.region)) 9) _ refl q.ensures.0 q.ensures.1 r.ensures.0 r.ensures.1 in
    let w = wrote-two a.out.now p.new.out r.new.out a.at p.result r.result (field (dashed (word_is a.language)) 9) _ _ refl p.ensures.0 p.ensures.1 u.0 u.1 in
    (w.0, w.1, omega (arith, p.ensures.2, q.ensures.2, r.ensures.2))
