-- `tsv::digits_of` meets its contract. Assumes nothing.
use native.Mathlib.Omega.{arith}
use mathlib.Core.Path.{◌≡◌, refl}
use Rattle.tsv.proofs.Laws as laws
use Rattle.tsv.proofs.digits_of.Goals as goal

pub loop-start-init : goal.loop-start-init
loop-start-init c = laws.writing_start _ _ refl refl

pub bounds-bytes-start : goal.bounds-bytes-start
bounds-bytes-start c = let w = c.loop-start.invariant.within in omega arith

pub returns-then-rest-eq0 : goal.returns-then-rest-eq0
returns-then-rest-eq0 c =
    let l = c.loop-start in
    laws.writing-end _ l.rest l.start _ l.bytes l.invariant c.loop-start-test.true c.digit.ensures c.if-rest-eq0.true

pub loop-start-preserved : goal.loop-start-preserved
loop-start-preserved c =
    let l = c.loop-start in
    laws.writing_more _ l.rest l.start _ l.bytes l.invariant c.loop-start-test.true c.digit.ensures c.if-rest-eq0.false

pub returns : goal.returns
returns c =
    let l = c.loop-start in
    let e : l.start ≡ 0 = omega (arith, c.loop-start-test.false) in
    let w = laws.writing-full _ l.rest l.start l.bytes l.invariant c.loop-start-test.false in
    rw e at w
