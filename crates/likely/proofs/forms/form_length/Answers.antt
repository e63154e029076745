-- `likely::forms::form_length` meets its contract. Assumes nothing.
use native.Mathlib.Omega.{arith}
use Rattle.likely.proofs.Delivered.{form-length, is-short, is-long}
use Rattle.likely.proofs.forms.form_length.Goals as goal

pub returns-then-n-le255 : goal.returns-then-n-le255
returns-then-n-le255 c =
    let p = c.args.parts in
    let n = form-length p.language.now p.script.now p.region.now c.args.rest.now in
    is-short _ _ (omega arith) (omega arith)

pub returns-else-n-le255 : goal.returns-else-n-le255
returns-else-n-le255 c =
    let p = c.args.parts in
    let n = form-length p.language.now p.script.now p.region.now c.args.rest.now in
    is-long _ (omega arith)
