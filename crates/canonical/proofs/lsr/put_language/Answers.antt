-- `canonical::lsr::put_language` meets its contract. Assumes nothing.
use native.Mathlib.Omega.{arith}
use mathlib.Core.Logic.{⊎_elim}
use mathlib.Core.Path.{sym, ap, ◌∙◌}
use Prim.Native.Nat.{ℕ, ◌+◌}
use lib.ListN.{take, length-map}
use Rattle.subtag.specs.Bytes.{normal_byte}
use lib.Seq.{length-take-le}
use Rattle.canonical.proofs.Front as front
use Rattle.canonical.proofs.lsr.put_language.Goals as goal

pub slice_bounds-put_normalised-end : goal.slice_bounds-put_normalised-end
slice_bounds-put_normalised-end c =
    let l = front.as-language c.args.id.now c.requires.0 c.args.p c.requires.1 c.in-Language.is in
    sym (length-take-le _ c.args.id.now l.1)

pub put_normalised-requires : goal.put_normalised-requires
put_normalised-requires c =
    let l = front.as-language c.args.id.now c.requires.0 c.args.p c.requires.1 c.in-Language.is in
    omega (arith, length-take-le c.args.p.language c.args.id.now l.1, c.put-n.ensures.0)

pub returns-in-Language : goal.returns-in-Language
returns-in-Language c =
    let l = front.as-language c.args.id.now c.requires.0 c.args.p c.requires.1 c.in-Language.is in
    front.wrote-key c.args.id.now c.args.out.now _ _ _ _ _ c.put-n.ensures.0 c.put-n.ensures.1 (c.put_normalised.ensures.0 ∙ ap (λ (n : ℕ). c.put-n.result + n) (sym (length-map (take c.args.p.language c.args.id.now) normal_byte))) c.put_normalised.ensures.1 l.0 l.2

pub returns-in-Script : goal.returns-in-Script
returns-in-Script c =
    let und = ⊎_elim (front.as-script c.args.id.now c.requires.0 c.args.p c.requires.1) (front.as-root c.args.id.now c.requires.0 c.args.p c.requires.1) c.in-Script.is in
    front.wrote-key c.args.id.now c.args.out.now _ _ _ _ _ c.put-n.ensures.0 c.put-n.ensures.1 c.put.ensures.0 c.put.ensures.1 und (omega arith)
