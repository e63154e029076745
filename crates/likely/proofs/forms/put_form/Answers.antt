-- `likely::forms::put_form` meets its contract. Assumes nothing.
use Rattle.likely.proofs.Delivered.{put_four}
use Rattle.likely.proofs.forms.put_form.Goals as goal

pub returns : goal.returns
returns c =
    let p₁ = c.put-a in
    let p₂ = c.put-b in
    let p₃ = c.put-c in
    let p₄ = c.put in
    let p = c.args.parts in
    put_four c.args.out.now _ _ _ _ p.language.now p.script.now p.region.now c.args.rest.now _ _ _ _ p₁.ensures.1 p₁.ensures.0 p₂.ensures.1 p₂.ensures.0 p₃.ensures.1 p₃.ensures.0 p₄.ensures.1 p₄.ensures.0
