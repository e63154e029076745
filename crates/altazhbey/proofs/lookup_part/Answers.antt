-- `altazhbey::lookup_part` meets its contract. Assumes nothing.
use mathlib.Core.Path.{◌≡◌, refl, sym, ap, ◌∙◌}
use mathlib.Core.List.{List, []}
use Prim.Native.Nat.{ℕ}
use Rattle.std.specs.Prelude.{Option, Some, None}
use Rattle.std.specs.Option.{unwrap_or}
use Rattle.std.proofs.Common.{Bor}
use Rattle.table.specs.Lines.{value_is, value_or}
use Rattle.table.proofs.Lines.{lookup-located, value-located}
use Rattle.altazhbey.proofs.lookup_part.Goals as goal

-- an empty part stands for no value
part-or : (o : Option (Bor (List ℕ))) (r d : Bor (List ℕ)) → r ≡ unwrap_or o d → d.now ≡ [] → r.now ≡ value_or (value_is o)
unfolding value_or
part-or None r d e f = ap (λ (b : Bor (List ℕ)). b.now) e ∙ f
part-or (Some v) r d e f = ap (λ (b : Bor (List ℕ)). b.now) e

pub returns : goal.returns
returns c =
    let t = c.args.t.now in
    let k = c.args.key.now in
    part-or c.lookup.result _ _ c.unwrap_or.ensures refl ∙ ap value_or (c.lookup.ensures ∙ sym (lookup-located t k)) ∙ sym (value-located t k)
