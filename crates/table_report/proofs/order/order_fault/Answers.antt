-- `table_report::order::order_fault` meets its contract. Assumes nothing.
use native.Mathlib.Omega.{arith}
use mathlib.Core.Path.{sym, ap, ◌∙◌}
use mathlib.Core.Bool.{Bool}
use Prim.Native.Nat.{◌-◌}
use lib.ListN.{length, take, drop}
use lib.Seq.{length-take-le}
use Rattle.byte_string.proofs.Ends.{end-le}
use Rattle.table_report.specs.declared.Wrong.TheVariants.{SameKey, Order}
use Rattle.table_report.specs.Faults.{pick}
use Rattle.table_report.proofs.Judged as judged
use Rattle.table_report.proofs.order.order_fault.Goals as goal

pub slice_bounds-same_key-end-2 : goal.slice_bounds-same_key-end-2
slice_bounds-same_key-end-2 c = let a = c.args in let r = take (length a.x.now - a.place) (drop a.place a.x.now) in sym (length-take-le _ _ (omega (arith, c.end_of-end.ensures, end-le 10 r 0)))

pub returns-then-same_key : goal.returns-then-same_key
returns-then-same_key c = sym (judged.order_is _ _ _ _ _ _ _ c.saturating_sub-e.ensures c.line_start-s.ensures.0 c.end_of-end.ensures c.same_key.ensures ∙ ap (λ (b : Bool). pick b SameKey Order) c.if-same_key.true)

pub returns-else-same_key : goal.returns-else-same_key
returns-else-same_key c = sym (judged.order_is _ _ _ _ _ _ _ c.saturating_sub-e.ensures c.line_start-s.ensures.0 c.end_of-end.ensures c.same_key.ensures ∙ ap (λ (b : Bool). pick b SameKey Order) c.if-same_key.false)
