-- `tsv::shown::put_safe` meets its contract. Assumes nothing.
use mathlib.Core.Path.{refl}
use native.Mathlib.Omega.{arith}
use borrow.Author.Rules.{rules}
use Rattle.tsv.proofs.Showing as laws
use Rattle.tsv.proofs.shown.put_safe.Goals as goal

pub loop-b-init : goal.loop-b-init
loop-b-init c = (refl, laws.showing-start _ _ _)

pub put_byte-p-requires : goal.put_byte-p-requires
put_byte-p-requires c =
    let l = c.loop-b in
    omega (arith, l.invariant.0, l.invariant.1.within, laws.few-of _ _ c.args.src.now c.min.ensures, c.loop-b-test.true)

pub loop-b-preserved : goal.loop-b-preserved
loop-b-preserved c = (search rules, laws.showing-more _ _ _ _ _ _ _ _ c.loop-b.invariant.1 c.loop-b-test.true c.put_byte-p.ensures)

pub returns : goal.returns
returns c =
    let l = c.loop-b in
    laws.showing-first _ _ _ c.args.src.now _ _ l.b-index _ c.min.ensures l.invariant.1 l.auto.b-index-end c.loop-b-test.false
