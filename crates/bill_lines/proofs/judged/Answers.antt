-- `bill_lines::judged` meets its contract. Assumes nothing.
use mathlib.Core.Path.{sym, ap, ap₂, ◌∙◌}
use Prim.Native.Nat.{ℕ}
use Rattle.bill_lines.specs.Held.{judged_by}
use Rattle.bill_lines.specs.State.{only}
use Rattle.bill_lines.proofs.judged.Goals as goal

pub returns-in-Ok : goal.returns-in-Ok
unfolding judged_by
returns-in-Ok c = c.only.ensures ∙ sym (ap judged_by c.in-Ok.is)

pub returns-in-Err : goal.returns-in-Err
unfolding judged_by
returns-in-Err c =
    c.only-in-Err.ensures ∙ ap₂ (λ (n t : ℕ). only n c.in-Err.fault.place t) c.number.ensures c.table_number.ensures ∙ sym (ap judged_by c.in-Err.is)
