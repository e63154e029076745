-- `place_column::put_span` meets its contract. Assumes nothing.
use Rattle.place_column.proofs.Laws as laws
use mathlib.Core.Path.{ap, ◌∙◌}
use mathlib.Core.List.{[], ◌∷◌}
use Prim.Native.Nat.{◌+◌}
use native.Mathlib.Omega.{arith}
use lib.ListN.{length}
use lib.Seq.{sets}
use Rattle.byte_string.proofs.Stores.{wrote-two}
use Rattle.tsv.specs.Fields.{Bytes, decimal, field}
use Rattle.tsv.proofs.Laws.{field-length}
use Rattle.place_column.proofs.put_span.Goals as goal

pub returns-then-s-eq0 : goal.returns-then-s-eq0
returns-then-s-eq0 c =
    let a = c.args in
    let p = c.put.ensures in
    let e = laws.span_none a.s c.if-s-eq0.true in
    (p.0 ∙ ap (λ (t : Bytes). a.at + length (field t a.mark)) e, p.1 ∙ ap (λ (t : Bytes). sets a.out.now a.at (field t a.mark)) e, omega (arith, p.0, field-length (45 ∷ []) a.mark))

pub returns : goal.returns
returns c =
    let a = c.args in
    let p = c.put_number-p in
    let q = c.put_number in
    let w = wrote-two a.out.now p.new.out q.new.out a.at p.result q.result (field (decimal a.s.start) 43) (field (decimal a.s.len) a.mark) _ (laws.span-some a.s a.mark c.if-s-eq0.false) p.ensures.0 p.ensures.1 q.ensures.0 q.ensures.1 in
    (w.0, w.1, omega (arith, p.ensures.2, q.ensures.2))
