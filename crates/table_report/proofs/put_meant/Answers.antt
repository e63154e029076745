-- `table_report::put_meant` meets its contract. Assumes nothing.
use native.Mathlib.Omega.{arith}
use mathlib.Core.Path.{◌≡◌}
use Rattle.table_report.proofs.Written as written
use Rattle.table_report.proofs.put_meant.Goals as goal

pub returns-in-12 : goal.returns-in-12
returns-in-12 c = rw (written.meant-shape _ _ _ _ c.in-12.is _ c.shape_fault.ensures) c.put_told.ensures

pub returns-in-13 : goal.returns-in-13
returns-in-13 c = rw (written.meant-order _ _ _ _ (λ e. omega arith) c.in-13.is _ c.order_fault.ensures) c.put_told-in-13.ensures

pub returns-in_default : goal.returns-in_default
returns-in_default c = let p = c.put_meaning.ensures in rw (written.meant-number _ _ _ _ (λ (e : c.args.number ≡ 12). omega arith) (λ (e : c.args.number ≡ 13). omega arith)) (p.0, p.1, omega (arith, p.2))
