-- `test_api::repeats::repeated` meets its contract. Assumes nothing.
use native.Mathlib.Omega.{arith}
use mathlib.Core.Path.{sym, ◌∙◌}
use Rattle.test_api.specs.Exported.{made_for}
use Rattle.test_api.proofs.Repeated.{again}
use Rattle.test_api.proofs.repeats.repeated.Goals as goal

pub loop-preserved : goal.loop-preserved
loop-preserved c =
    let a = c.args in
    let l = c.loop.invariant in
    let e = c.once-r.ensures in
    (again (made_for a.operation a.aliases.rows.now a.other.now a.id.now) _ _ a.out.now _ _ (l.0 ∙ e) c.once-r-in-loop.ensures ∙ sym e, omega arith)
