-- `tsv::put_shown` meets its contract. Assumes nothing.
use native.Mathlib.Omega.{arith}
use Rattle.tsv.proofs.Laws.{field-length}
use Rattle.tsv.proofs.Showing as laws
use Rattle.standard.specs.Tag.{text}
use Rattle.tsv.proofs.put_shown.Goals as goal

pub returns-then-src-eq0 : goal.returns-then-src-eq0
returns-then-src-eq0 c =
    let a = c.args in
    let p = c.put.ensures in
    rw (laws.shown-none a.most a.src.now c.if-src-eq0.true) (p.0, p.1, omega (arith, p.0, field-length (text "-") a.mark))

pub returns-then-src-most : goal.returns-then-src-most
returns-then-src-most c =
    let a = c.args in
    laws.whole-put a.out.now _ a.at a.most a.mark _ a.src.now c.if-src-eq0.false c.put_safe-end.ensures c.if-src-most.true

pub returns : goal.returns
returns c =
    let a = c.args in
    laws.cut-put a.out.now _ a.at a.most a.mark _ a.src.now c.if-src-eq0.false c.put_safe-end.ensures _ _ c.if-src-most.false c.put-2.ensures
