-- `key_rows::put_kept` meets its contract. Assumes nothing.
use native.Mathlib.Omega.{arith}
use Rattle.key_rows.proofs.Laws as laws
use mathlib.Core.Path.{sym}
use mathlib.Core.List.{[], ◌∷◌}
use lib.ListN.{take}
use lib.Seq.{length-take-le}
use Rattle.tsv.proofs.Laws.{field-length}
use Rattle.key_rows.proofs.put_kept.Goals as goal

pub slice_bounds-put-end : goal.slice_bounds-put-end
slice_bounds-put-end c = sym (length-take-le _ _ (omega arith))

pub put-requires : goal.put-requires
put-requires c = let a = c.args in omega (arith, length-take-le a.len a.form.now (omega arith))

pub returns-then-number-eq0 : goal.returns-then-number-eq0
returns-then-number-eq0 c =
    let a = c.args in
    let p = c.put.ensures in
    let t = take a.len a.form.now in
    rw (laws.kept-form a.number t c.if-number-eq0.true) (p.0, p.1, omega (arith, p.0, field-length t 10, length-take-le a.len a.form.now (omega arith)))

pub returns-else-number-eq0 : goal.returns-else-number-eq0
returns-else-number-eq0 c =
    let a = c.args in
    let p = c.put-else-number-eq0.ensures in
    rw (laws.kept-none a.number (take a.len a.form.now) c.if-number-eq0.false) (p.0, p.1, omega (arith, p.0, field-length (45 ∷ []) 10))
