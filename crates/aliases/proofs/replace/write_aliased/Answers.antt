-- `aliases::replace::write_aliased` meets its contract. Assumes nothing.
use native.Mathlib.Omega.{arith}
use mathlib.Core.Path.{◌≡◌, sym, ap, ◌∙◌}
use mathlib.Core.List.{List, map}
use Prim.Native.Nat.{ℕ, ◌+◌, ◌≤◌}
use lib.ListN.{length, take, drop, length-map}
use lib.Seq.{sets}
use Rattle.standard.specs.Tag.{Tag, pick}
use Rattle.standard.specs.Reading.{optional}
use Rattle.standard.specs.Table.{lookup, rows}
use Rattle.subtag.specs.Bytes.{normal_byte, cased as raised_tag}
use Rattle.subtag.specs.Sections.{led}
use Rattle.aliases.specs.Replaced.{replaced_by, aliased_part}
use Rattle.aliases.proofs.Cased as cased-laws
use Rattle.aliases.proofs.Keyed as keys
use Rattle.aliases.proofs.replace.write_aliased.Goals as goal
use Rattle.aliases.proofs.replace.write_aliased.Goals.{After-put_first-end, Else-end-skip}

abbrev tag : After-put_first-end → Tag
tag c =
    let a = c.args in
    pick (raised_tag a.count (map normal_byte a.given.now)) a.brought.now

key : (c : After-put_first-end)
    → keys.Keyed c.args.name.now (tag c) c.put_first-end.new.out
    c.put-skip.result c.put_first-end.result
key c =
    let a = c.args in
    let m = length-map a.given.now normal_byte in
    let z : length (tag c) ≤ 8 = cased-laws.pick_small 8 a.count (map normal_byte a.given.now) a.brought.now (omega arith) (omega arith) in
    keys.keyed _ _ _ _ _ _ _ c.put-skip.ensures.0 c.put-skip.ensures.1 c.put_first-end.ensures.0 c.put_first-end.ensures.1 (omega arith)

-- what is written, by the key's bytes
part : (c : Else-end-skip)
    → (let a = c.args in
    let x = take c.put_first-end.result c.put_first-end.new.out in
    aliased_part a.aliases.rows.now a.name.now (let a = c.args in pick (raised_tag a.count (map normal_byte a.given.now)) a.brought.now) ≡ led (optional (replaced_by (lookup (rows a.aliases.rows.now) x) (drop c.put-skip.result x))))
part c =
    keys.aliased-some _ _ _ _ _ _ (let a = c.args in let m = length-map a.given.now normal_byte in let z : length (pick (raised_tag a.count (map normal_byte a.given.now)) a.brought.now) ≤ 8 = cased-laws.pick_small 8 a.count (map normal_byte a.given.now) a.brought.now (omega arith) (omega arith) in keys.keyed _ _ _ _ _ _ _ c.put-skip.ensures.0 c.put-skip.ensures.1 c.put_first-end.ensures.0 c.put_first-end.ensures.1 (omega arith)) (omega (arith, c.if-end-skip.false, c.put_first-end.ensures.0))

pub returns-then-end-skip : goal.returns-then-end-skip
returns-then-end-skip c =
    let a = c.args in
    let z : length (tag (goal.at.returns-then-end-skip c).After-put_first-end) ≡ 0 = omega (arith, c.put_first-end.ensures.0) in
    let e = keys.aliased-none a.aliases.rows.now a.name.now (tag (goal.at.returns-then-end-skip c).After-put_first-end) z in
    (omega (arith, ap length e), ap (sets a.out.now a.at) (sym e))

pub slice_bounds-key-end : goal.slice_bounds-key-end
slice_bounds-key-end c = (key (goal.at.slice_bounds-key-end c).After-put_first-end).fits

pub slice_bounds-replaced-end : goal.slice_bounds-replaced-end
slice_bounds-replaced-end c = (key (goal.at.slice_bounds-replaced-end c).After-put_first-end).size

pub put_led-requires : goal.put_led-requires
put_led-requires c =
    let w = ap (λ (x : Tag). led (optional x)) c.replaced.ensures ∙ sym (part (goal.at.put_led-requires c).Else-end-skip) in
    omega (arith, ap length w)

pub returns : goal.returns
returns c =
    let a = c.args in
    let w = ap (λ (x : Tag). led (optional x)) c.replaced.ensures ∙ sym (part (goal.at.returns c).Else-end-skip) in
    (c.put_led.ensures.0 ∙ ap (λ (x : List ℕ). a.at + length x) w, c.put_led.ensures.1 ∙ ap (sets a.out.now a.at) w)
