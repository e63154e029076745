-- `reader::report::word_of` meets its contract. Assumes nothing.
use native.Mathlib.Omega.{arith}
use mathlib.Core.Path.{◌≡◌, sym, ap, ◌∙◌}
use mathlib.Core.List.{map}
use Prim.Native.Nat.{ℕ, ◌≤◌}
use lib.ListN.{length, take}
use lib.Seq.{sets, length-take-le}
use Rattle.standard.specs.Tag.{head_tag}
use Rattle.standard.specs.Reading.{split}
use Rattle.subtag.specs.Bytes.{normal_byte, cased}
use Rattle.subtag.proofs.Cased.{cased-length}
use Rattle.subtag.proofs.Walk.{scanned-len, label-fits}
use Rattle.reader.specs.Words.{word_is}
use Rattle.reader.proofs.Words as words
use Rattle.reader.proofs.report.word_of.Goals as goal
use Rattle.reader.proofs.report.word_of.Goals.{After-scan-len}

length_at : (c : After-scan-len) → (c.scan-len.result.len ≡ length (head_tag (split c.args.rest.now))) × (c.scan-len.result.len ≤ length c.args.rest.now)
length_at c = let e = scanned-len _ c.scan-len.result c.scan-len.ensures in (e, omega (arith, label-fits c.args.rest.now))

pub slice_bounds-put_cased-end : goal.slice_bounds-put_cased-end
slice_bounds-put_cased-end c = sym (length-take-le _ c.args.rest.now (length_at (goal.at.slice_bounds-put_cased-end c).After-scan-len).1)

pub put_cased-requires : goal.put_cased-requires
put_cased-requires c =
    let e = length_at (goal.at.put_cased-requires c).After-scan-len in
    let n = length-take-le _ c.args.rest.now e.1 in
    omega (arith, e.0)

pub invariant_of-result : goal.invariant_of-result
invariant_of-result c = let e = length_at (goal.at.invariant_of-result c).After-scan-len in omega (arith, e.0)

pub returns : goal.returns
unfolding word_is
returns c =
    let e = length_at (goal.at.returns c).After-scan-len in
    let t = head_tag (split c.args.rest.now) in
    let z = cased-length c.args.capitals t in
    let is : cased c.args.capitals (map normal_byte (take c.scan-len.result.len c.args.rest.now)) ≡ cased c.args.capitals t =
    ap (cased c.args.capitals) (ap (λ (n : ℕ). map normal_byte (take n c.args.rest.now)) e.0 ∙ words.front-bytes c.args.rest.now) in
    ap (take c.scan-len.result.len) (c.put_cased.ensures.1 ∙ ap (sets _ 0) is) ∙ words.written _ (cased c.args.capitals t) _ (e.0 ∙ sym z) (omega arith)
