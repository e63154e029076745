-- `table_report::order::same_key` meets its contract. Assumes nothing.
use mathlib.Core.Path.{sym}
use lib.Seq.{length-take-le}
use Rattle.table_report.specs.Faults.{key_of}
use Rattle.table_report.proofs.order.same_key.Goals as goal

pub slice_bounds-same-end : goal.slice_bounds-same-end
slice_bounds-same-end c = sym (length-take-le _ _ c.key_end-m.ensures.1)

pub slice_bounds-same-end-2 : goal.slice_bounds-same-end-2
slice_bounds-same-end-2 c = sym (length-take-le _ _ c.key_end-n.ensures.1)

pub returns : goal.returns
unfolding key_of
returns c = rw (← c.key_end-m.ensures.0, ← c.key_end-n.ensures.0) c.same.ensures
