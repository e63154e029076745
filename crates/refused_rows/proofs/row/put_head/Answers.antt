-- `refused_rows::row::put_head` meets its contract. Assumes nothing.
use Rattle.std.proofs.Common.{sym, length-take-le}
use Rattle.byte_string.proofs.Ends.{end-le}
use Rattle.refused_rows.proofs.Rows as laws
use Rattle.refused_rows.proofs.row.put_head.Goals as goal

pub slice_bounds-put_shown-end : goal.slice_bounds-put_shown-end
slice_bounds-put_shown-end c = let a = c.args in sym (length-take-le c.end_of-tab.result a.line.now (rw c.end_of-tab.ensures (end-le 9 a.line.now 0)))

pub returns : goal.returns
returns c =
    let a = c.args in
    laws.head-put a.n a.line.now a.out.now _ _ a.at _ _ c.end_of-tab.result c.end_of-tab.ensures c.put_number-p.ensures c.put_shown.ensures
