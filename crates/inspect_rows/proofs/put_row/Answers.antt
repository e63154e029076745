-- `inspect_rows::put_row` meets its contract. Assumes nothing.
use native.Mathlib.Omega.{arith}
use mathlib.Core.Path.{refl, ◌∙◌}
use mathlib.Core.List.{◌++◌}
use Rattle.byte_string.proofs.Stores.{wrote-two}
use Rattle.tsv.proofs.Laws.{field-length}
use Rattle.tsv.specs.Fields.{field, asked_of}
use Rattle.inspect_rows.specs.Rows.{told_is, fields_text, meant_text, row_of}
use Rattle.inspect_rows.proofs.Bounds as bounds
use Rattle.inspect_rows.proofs.put_row.Goals as goal

pub put_asked-asked-requires : goal.put_asked-asked-requires
unfolding told_is
put_asked-asked-requires c = let r = c.tell-t in let x = c.args.line.now in let l = bounds.asked-length r.result x (r.ensures ∙ c.read.ensures) in let f = field-length (asked_of r.result.number x) 9 in (omega (arith, l), omega arith)

pub put_report-fields-requires : goal.put_report-fields-requires
unfolding told_is
put_report-fields-requires c = let r = c.tell-t in let x = c.args.line.now in let l = bounds.asked-length r.result x (r.ensures ∙ c.read.ensures) in omega (arith, c.put_asked-asked.ensures.0)

pub put_meant-requires : goal.put_meant-requires
unfolding told_is
put_meant-requires c = let r = c.tell-t in let x = c.args.line.now in let l = bounds.asked-length r.result x (r.ensures ∙ c.read.ensures) in omega (arith, c.put_asked-asked.ensures.0, c.put_report-fields.ensures.2)

pub returns : goal.returns
returns c =
    let a = c.args in
    let r = c.tell-t in
    let p = c.put_asked-asked in
    let q = c.put_report-fields in
    let m = c.put_meant in
    let l = bounds.asked-length r.result a.line.now (r.ensures ∙ c.read.ensures) in
    let y = field (meant_text r.result.number a.key) 10 in
    let v = wrote-two p.new.out q.new.out m.new.out p.result q.result m.result (fields_text (told_is r.result)) y _ refl q.ensures.0 q.ensures.1 m.ensures.0 m.ensures.1 in
    let w = wrote-two a.out.now p.new.out m.new.out a.at p.result m.result (field (asked_of r.result.number a.line.now) 9) (fields_text (told_is r.result) ++ y) (row_of a.key a.line.now) (bounds.row-text r.result a.key a.line.now (r.ensures ∙ c.read.ensures)) p.ensures.0 p.ensures.1 v.0 v.1 in
    (w.0, w.1, omega (arith, p.ensures.0, q.ensures.2, m.ensures.2))
