-- `inspect_rows::put_no_key` meets its contract. Assumes nothing.
use native.Mathlib.Omega.{arith}
use mathlib.Core.List.{[]}
use Rattle.standard.specs.Tag.{text}
use Rattle.tsv.proofs.Laws.{field-length}
use Rattle.inspect_rows.proofs.Texts as rows
use Rattle.inspect_rows.proofs.put_no_key.Goals as goal

pub put_number-q-requires : goal.put_number-q-requires
put_number-q-requires c = omega (arith, field-length (text "as a key") 32, c.put-p.ensures.0)

pub put-r-requires : goal.put-r-requires
put-r-requires c = omega (arith, field-length (text "as a key") 32, c.put-p.ensures.0, c.put_number-q.ensures.2)

pub put_meaning-requires : goal.put_meaning-requires
put_meaning-requires c = omega (arith, field-length (text "as a key") 32, field-length [] 32, c.put-p.ensures.0, c.put_number-q.ensures.2, c.put-r.ensures.0)

pub returns : goal.returns
returns c = rows.key-written _ _ _ _ _ _ _ _ _ _ _ c.put-p.ensures c.put_number-q.ensures c.put-r.ensures c.put_meaning.ensures
