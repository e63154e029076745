-- `reader::wrong_size` meets its contract. Assumes nothing.
use native.Mathlib.Omega.{arith}
use mathlib.Core.Path.{◌≡◌, sym, ◌∙◌}
use lib.ListN.{length, drop}
use Rattle.standard.specs.Tag.{head_tag}
use Rattle.standard.specs.Reading.{split}
use Rattle.subtag.proofs.Walk.{judged, scanned-len}
use Rattle.reader.specs.Parts.{found_as}
use Rattle.reader.proofs.Outcomes as outcomes
use Rattle.reader.proofs.wrong_size.Goals as goal
use Rattle.reader.proofs.wrong_size.Goals.{After-scan-len, then-len-eq0-via-then-len-eq0, then-len-eq0-via-else-len-eq0+then-len-gt8}

-- the length of the subtag at hand
length_at : (c : After-scan-len) → c.scan-len.result.len ≡ length (head_tag (split (drop c.loop-at.at c.args.id.now)))
length_at c =
    let s = c.args.id.now in
    let at = c.loop-at.at in
    scanned-len (head_tag (split (drop at s))) c.scan-len.result (judged s at c.scan-len.result c.scan-len.ensures)

pub returns-then-len-eq0 : goal.returns-then-len-eq0
unfolding found_as
returns-then-len-eq0 c =
    let e = length_at (goal.at.returns-then-len-eq0 c).After-scan-len in
    elim c.then-len-eq0.branch [
      | then-len-eq0-via-then-len-eq0 w ↦ sym (c.loop-at.invariant.1 ∙ outcomes.size-empty _ _ _ e w.if-len-eq0.true)
      | then-len-eq0-via-else-len-eq0+then-len-gt8 w ↦ sym (c.loop-at.invariant.1 ∙ outcomes.size-long _ _ _ e w.if-len-gt8.true)
    ]

pub returns-then-id-at : goal.returns-then-id-at
unfolding found_as
returns-then-id-at c =
    let e = length_at (goal.at.returns-then-id-at c).After-scan-len in
    sym (c.loop-at.invariant.1 ∙ outcomes.size-last _ _ _ e (omega arith) c.if-len-gt8.false c.if-id-at.true)

pub loop-at-preserved : goal.loop-at-preserved
loop-at-preserved c =
    let e = length_at (goal.at.loop-at-preserved c).After-scan-len in
    (omega arith, c.loop-at.invariant.1 ∙ outcomes.size-next _ _ _ e (omega arith) c.if-len-gt8.false c.if-id-at.false)
