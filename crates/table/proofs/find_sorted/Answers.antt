-- `table::find_sorted` meets its contract. Assumes nothing.
use native.Mathlib.Omega.{arith}
use mathlib.Core.Path.{sym, ◌∙◌}
use Rattle.byte_string.proofs.Ends.{Ends, ends}
use Rattle.table.proofs.Lines.{row-past}
use Rattle.table.proofs.Searches.{landed-own}
use Rattle.table.proofs.find_sorted.Goals as goal

pub returns-then-t-i : goal.returns-then-t-i
returns-then-t-i c = (λ s. sym ((c.locate-i.ensures s).seen ∙ row-past _ _ _ c.if-t-i.true), tt)

pub value_in-requires : goal.value_in-requires
value_in-requires c =
    let b : Ends 10 c.args.t.now c.locate-i.result c.end_of-line_end.result = ends _ _ _ _ c.end_of-line_end.ensures (omega arith) in
    (b.low, b.high)

pub returns : goal.returns
returns c = (λ s. landed-own _ _ _ _ _ (c.locate-i.ensures s) c.end_of-line_end.ensures c.if-t-i.false c.value_in.ensures.0, c.value_in.ensures.1)
