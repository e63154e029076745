-- `canonical::lsr::write_from` meets its contract. Assumes nothing.
use native.Mathlib.Omega.{arith}
use mathlib.Core.Path.{refl, sym, ap, ◌∙◌}
use mathlib.Core.List.{List, ◌++◌}
use Prim.Native.Nat.{ℕ, ◌+◌, ◌≤◌}
use lib.ListN.{length, take}
use lib.Seq.{sets, length-take-le}
use Rattle.canonical.proofs.Cores as cores
use Rattle.canonical.proofs.Places as places
use Rattle.standard.specs.Table.{script_key, region_key}
use Rattle.canonical.specs.Three.{after_separator, script_start, part_bytes}
use Rattle.byte_string.proofs.Stores as stores
use Rattle.byte_string.proofs.Ends.{end-le}
use Rattle.canonical.proofs.lsr.write_from.Goals as goal
use Rattle.canonical.proofs.lsr.write_from.Goals.{After-end_of-e, After-script_end-s}

short : (c : After-end_of-e) → (c.end_of-e.result ≤ 17) × (c.end_of-e.result ≤ length c.args.w.now)
short c =
    let n = cores.word_small c.args.aliases.rows.now c.args.id.now c.requires.2 c.requires.0 in
    let h = end-le 45 c.args.w.now 0 in
    (omega (arith, c.end_of-e.ensures, ap length c.requires.3), omega (arith, c.end_of-e.ensures))

pub script_end-s-requires : goal.script_end-s-requires
script_end-s-requires c = omega (arith, (short (goal.at.script_end-s-requires c).After-end_of-e).0)

-- the three, where they begin and end
facts : (c : After-script_end-s) → let a = c.args in
    cores.Written a.aliases.rows.now a.id.now a.w.now a.p c.end_of-e.result c.script_end-s.result (script_start a.p.language a.p.script) (after_separator a.p.script a.p.region)
facts c =
    cores.written c.args.aliases.rows.now c.args.id.now c.requires.2 c.requires.0 c.args.w.now c.args.p c.requires.1 c.requires.3 _ _ c.end_of-e.ensures c.script_end-s.ensures _ _ refl refl

pub slice_bounds-written_script-end : goal.slice_bounds-written_script-end
slice_bounds-written_script-end c = let f = facts (goal.at.slice_bounds-written_script-end c).After-script_end-s in omega (arith, f.script-fits)

pub slice_bounds-written_region-end : goal.slice_bounds-written_region-end
slice_bounds-written_region-end c = let f = facts (goal.at.slice_bounds-written_region-end c).After-script_end-s in omega (arith, f.region-fits)

pub slice_bounds-brought_script-end : goal.slice_bounds-brought_script-end
slice_bounds-brought_script-end c = let f = facts (goal.at.slice_bounds-brought_script-end c).After-script_end-s in omega (arith, f.word_fits)

pub slice_bounds-put-end : goal.slice_bounds-put-end
slice_bounds-put-end c =
    sym (length-take-le _ c.args.w.now (short (goal.at.slice_bounds-put-end c).After-end_of-e).1)

pub put-language-requires : goal.put-language-requires
put-language-requires c = let f = facts (goal.at.put-language-requires c).After-script_end-s in omega (arith, f.room)

pub write_aliased-script-requires : goal.write_aliased-script-requires
write_aliased-script-requires c =
    let a = c.args in
    let f = facts (goal.at.write_aliased-script-requires c).After-script_end-s in
    let e = places.part-is a.aliases.rows.now script_key a.id.now a.w.now 1 (script_start a.p.language a.p.script) a.p.script c.end_of-e.result c.script_end-s.result _ _ c.script_start.ensures.0 c.after_separator-2.ensures.0 in (
      places.slice-small a.id.now c.script_start.result a.p.script 8 (omega (arith, f.script-small, c.script_start.ensures.0)),
      places.slice-small a.w.now c.after_separator-2.result c.script_end-s.result 8 (omega (arith, f.word-script, c.after_separator-2.ensures.0)),
      omega arith,
      omega (arith, ap length e, f.room, c.put-language.ensures.0),
    )

pub write_aliased-region-requires : goal.write_aliased-region-requires
write_aliased-region-requires c =
    let a = c.args in
    let f = facts (goal.at.write_aliased-region-requires c).After-script_end-s in
    let d = places.part-is a.aliases.rows.now script_key a.id.now a.w.now 1 (script_start a.p.language a.p.script) a.p.script c.end_of-e.result c.script_end-s.result _ _ c.script_start.ensures.0 c.after_separator-2.ensures.0 in
    let e = places.part-is a.aliases.rows.now region_key a.id.now a.w.now 8 (after_separator a.p.script a.p.region) a.p.region c.script_end-s.result (length a.w.now) _ _ c.after_separator.ensures.0 c.after_separator-3.ensures.0 in (
      places.slice-small a.id.now c.after_separator.result a.p.region 8 (omega (arith, f.region-small, c.after_separator.ensures.0)),
      places.slice-small a.w.now c.after_separator-3.result (length a.w.now) 8 (omega (arith, f.word-region, c.after_separator-3.ensures.0)),
      omega arith,
      omega (arith, ap length d, ap length e, f.room, c.put-language.ensures.0, c.write_aliased-script.ensures.0),
    )

pub returns : goal.returns
returns c =
    let a = c.args in
    let f = facts (goal.at.returns c).After-script_end-s in
    let d = places.part-is a.aliases.rows.now script_key a.id.now a.w.now 1 (script_start a.p.language a.p.script) a.p.script c.end_of-e.result c.script_end-s.result _ _ c.script_start.ensures.0 c.after_separator-2.ensures.0 in
    let e = places.part-is a.aliases.rows.now region_key a.id.now a.w.now 8 (after_separator a.p.script a.p.region) a.p.region c.script_end-s.result (length a.w.now) _ _ c.after_separator.ensures.0 c.after_separator-3.ensures.0 in
    let s0 = c.write_aliased-script.ensures.0 ∙ ap (λ (x : List ℕ). c.put-language.result + length x) d in
    let s1 = c.write_aliased-script.ensures.1 ∙ ap (sets c.put-language.new.out c.put-language.result) d in
    let r0 = c.write_aliased-region.ensures.0 ∙ ap (λ (x : List ℕ). c.write_aliased-script.result + length x) e in
    let r1 = c.write_aliased-region.ensures.1 ∙ ap (sets c.write_aliased-script.new.out c.write_aliased-script.result) e in
    let sb = part_bytes a.aliases.rows.now script_key 1 a.id.now (script_start a.p.language a.p.script) a.p.script a.w.now c.end_of-e.result c.script_end-s.result in
    let rb = part_bytes a.aliases.rows.now region_key 8 a.id.now (after_separator a.p.script a.p.region) a.p.region a.w.now c.script_end-s.result (length a.w.now) in
    let two = stores.wrote-two _ _ _ _ _ _ sb rb (sb ++ rb) refl s0 s1 r0 r1 in
    let three = stores.wrote-two a.out.now _ _ 0 _ _ (take c.end_of-e.result a.w.now) (sb ++ rb) _ f.text c.put-language.ensures.0 c.put-language.ensures.1 two.0 two.1 in
    (f.ends _ _ _ c.put-language.ensures.0 s0 r0, three.1)
