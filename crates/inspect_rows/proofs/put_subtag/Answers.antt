-- `inspect_rows::put_subtag` meets its contract. Assumes nothing.
use native.Mathlib.Omega.{arith}
use mathlib.Core.Path.{◌≡◌}
use mathlib.Core.List.{[], ◌∷◌}
use lib.ListN.{length, take}
use lib.Seq.{length-take-le}
use borrow.Author.Rules.{rules}
use Rattle.tsv.proofs.Laws as fields
use Rattle.reader.specs.Words.{word_is}
use Rattle.inspect_rows.proofs.Texts as rows
use Rattle.inspect_rows.proofs.put_subtag.Goals as goal

pub returns-then-w-eq0 : goal.returns-then-w-eq0
returns-then-w-eq0 c =
    let p = c.put.ensures in
    rw (← (rows.dashed-none c.args.w c.if-w-eq0.true)) (p.0, p.1, omega (arith, p.0, fields.field-length (45 ∷ []) c.args.mark))

pub returns : goal.returns
unfolding word_is
returns c =
    let w = c.args.w in
    let p = c.put-2.ensures in
    let e : length w.bytes ≡ 8 = search rules in
    let l = length-take-le w.len w.bytes (omega arith) in
    rw (← (rows.dashed-some w e c.if-w-eq0.false)) (p.0, p.1, omega (arith, p.0, fields.field-length (take w.len w.bytes) c.args.mark))
