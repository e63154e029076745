-- `underline::put_all_marks` meets its contract. Assumes nothing.
use native.Mathlib.Omega.{arith}
use mathlib.Core.Path.{◌≡◌, refl}
use Prim.Native.Nat.{◌≤◌}
use lib.ListN.{length}
use borrow.Author.Rules.{rules}
use Rattle.underline.proofs.Marking as laws
use Rattle.underline.proofs.put_all_marks.Goals as goal

pub loop-i-init : goal.loop-i-init
loop-i-init c = (refl, laws.marking-start _ _ _ _ c.requires.1)

pub put_marks-p-requires : goal.put_marks-p-requires
put_marks-p-requires c =
    let a = c.args in
    let l = c.loop-i in
    let m = l.invariant.1 in
    let e : length a.spans ≡ 50 = search rules in
    let k : a.count ≤ length a.spans = omega arith in
    let r = laws.marking-room _ _ _ _ _ _ _ _ _ (record { start = 0; len = 0 }) m c.loop-i-test.true k in
    (laws.marking-before _ _ _ _ _ _ _ _ _ _ m c.loop-i-test.true k, omega arith)

pub loop-i-preserved : goal.loop-i-preserved
loop-i-preserved c =
    let a = c.args in
    let l = c.loop-i in
    let e : length a.spans ≡ 50 = search rules in
    let k : a.count ≤ length a.spans = omega arith in
    (search rules, laws.marking-more _ _ _ _ _ _ _ _ _ _ l.invariant.1 c.loop-i-test.true k _ _ c.put_marks-p.ensures)

pub returns : goal.returns
returns c = laws.marking-done _ _ _ _ _ _ _ _ _ c.loop-i.invariant.1 c.loop-i-test.false
