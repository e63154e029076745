-- `table_report::write` meets its contract. Assumes nothing.
use native.Mathlib.Omega.{arith}
use mathlib.Core.Path.{◌≡◌, refl}
use Rattle.table_report.proofs.Written as written
use Rattle.table_report.proofs.write.Goals as goal

pub returns-then-out-lt2048 : goal.returns-then-out-lt2048
returns-then-out-lt2048 c = rw (written.told_none _ _ _ _ _ _ _ c.if-out-lt2048.true) (refl, refl, omega arith)

pub returns-in-1 : goal.returns-in-1
returns-in-1 c = let p = c.write_of.ensures in rw (written.told-aliases _ _ _ _ _ _ _ c.if-out-lt2048.false c.in-1.is) (omega (arith, p.0), p.1, omega (arith, p.2))

pub returns-in-2 : goal.returns-in-2
returns-in-2 c = let p = c.write_of-in-2.ensures in rw (written.told-likely _ _ _ _ _ _ _ c.if-out-lt2048.false (λ e. omega arith) c.in-2.is) (omega (arith, p.0), p.1, omega (arith, p.2))

pub returns-in_default : goal.returns-in_default
returns-in_default c = let p = c.write_of-in_default.ensures in rw (written.told-parents _ _ _ _ _ _ _ c.if-out-lt2048.false (λ (e : c.args.table ≡ 1). omega arith) (λ (e : c.args.table ≡ 2). omega arith)) (omega (arith, p.0), p.1, omega (arith, p.2))
