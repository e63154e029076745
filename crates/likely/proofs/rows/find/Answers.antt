-- `likely::rows::find` meets its contract. Assumes nothing.
use mathlib.Core.Path.{refl}
use Rattle.likely.specs.Parts.{joined_parts}
use Rattle.likely.proofs.Lookups.{blank, put_three, value-by}
use Rattle.likely.proofs.rows.find.Goals as goal

pub returns : goal.returns
unfolding joined_parts
returns c = λ q.
    let p₃ = c.put-c in
    let p₂ = c.put-b in
    let p₁ = c.put-a in
    let a = c.args.parts.now in
    let k = put_three blank _ _ _ a.language.now a.script.now a.region.now _ _ _ p₁.ensures.1 p₁.ensures.0 p₂.ensures.1 p₂.ensures.0 p₃.ensures.1 p₃.ensures.0 q.short refl in
    value-by _ _ _ _ (c.lookup.ensures q.indexed) k
