-- `key_rows::put_answer` meets its contract. Assumes nothing.
use native.Mathlib.Omega.{arith}
use mathlib.Core.Path.{refl}
use mathlib.Core.List.{◌++◌}
use lib.ListN.{take}
use Rattle.byte_string.proofs.Stores.{wrote-two}
use Rattle.tsv.specs.Fields.{decimal, field, asked_of}
use Rattle.tsv.proofs.Laws.{field-length}
use Rattle.key_rows.specs.Keys.{answer_text, kept_text}
use Rattle.key_rows.proofs.put_answer.Goals as goal

pub put_number-q-requires : goal.put_number-q-requires
put_number-q-requires c = let a = c.args in omega (arith, c.put_asked-p.ensures.0, field-length (asked_of a.number a.line.now) 9)

pub put_kept-requires : goal.put_kept-requires
put_kept-requires c = let a = c.args in (omega arith, omega arith, omega (arith, c.put_asked-p.ensures.0, c.put_number-q.ensures.2, field-length (asked_of a.number a.line.now) 9))

pub returns : goal.returns
unfolding answer_text
returns c =
    let a = c.args in
    let t = kept_text a.number (take a.len a.form.now) in
    let w = wrote-two c.put_asked-p.new.out c.put_number-q.new.out c.put_kept.new.out c.put_asked-p.result c.put_number-q.result c.put_kept.result (field (decimal a.number) 9) (field t 10) _ refl c.put_number-q.ensures.0 c.put_number-q.ensures.1 c.put_kept.ensures.0 c.put_kept.ensures.1 in
    let v = wrote-two a.out.now c.put_asked-p.new.out c.put_kept.new.out a.at c.put_asked-p.result c.put_kept.result (field (asked_of a.number a.line.now) 9) (field (decimal a.number) 9 ++ field t 10) _ refl c.put_asked-p.ensures.0 c.put_asked-p.ensures.1 w.0 w.1 in
    (v.0, v.1, omega (arith, c.put_asked-p.ensures.0, c.put_number-q.ensures.2, c.put_kept.ensures.2, field-length (asked_of a.number a.line.now) 9))
