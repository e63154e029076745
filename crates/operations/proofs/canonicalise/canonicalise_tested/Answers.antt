-- `operations::canonicalise::canonicalise_tested` meets its contract. Assumes nothing.
use native.Mathlib.Omega.{arith}
use mathlib.Core.Path.{sym}
use Prim.Native.Nat.{◌≤◌}
use lib.ListN.{length}
use lib.Seq.{length-take-le}
use Rattle.operations.proofs.Canonicalised.{fits_by}
use Rattle.operations.proofs.Delivers as delivers
use Rattle.operations.proofs.canonicalise.canonicalise_tested.Goals as goal
use Rattle.operations.proofs.canonicalise.canonicalise_tested.Goals.{In-Ok}

pub returns-in_default : goal.returns-in_default
returns-in_default c =
    rw c.from.ensures (delivers.refused-stands c.args.aliases.rows.now c.args.id.now _ _ c.canonical_form-made.result _ c.unwrap_err.ensures c.canonical_form-made.ensures.0)

fits : (c : In-Ok) → c.in-Ok.form.len ≤ length c.canonical_form-made.new.out
fits c = omega (arith, fits_by c.in-Ok.is c.canonical_form-made.ensures.1, c.buffer-buf.ensures)

pub slice_bounds-buf-end : goal.slice_bounds-buf-end
slice_bounds-buf-end c = fits (goal.at.slice_bounds-buf-end c).In-Ok

pub slice_bounds-deliver-end : goal.slice_bounds-deliver-end
slice_bounds-deliver-end c = sym (length-take-le _ _ (fits (goal.at.slice_bounds-deliver-end c).In-Ok))

pub returns : goal.returns
returns c =
    delivers.form-delivered c.args.aliases.rows.now c.args.id.now _ _ _ c.canonical_form-made.result c.in-Ok.form c.deliver.result c.in-Ok.is c.canonical_form-made.ensures.0 c.deliver.ensures
