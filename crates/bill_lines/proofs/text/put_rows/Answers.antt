-- `bill_lines::text::put_rows` meets its contract. Assumes nothing.
use mathlib.Core.Path.{refl}
use native.Mathlib.Omega.{arith}
use borrow.Author.Rules.{rules}
use Rattle.bill_lines.proofs.Texts.{rows_none, rows_more, rows_all}
use Rattle.bill_lines.proofs.text.put_rows.Goals as goal

pub loop-i-init : goal.loop-i-init
loop-i-init c = let a = c.args in (refl, omega arith, omega arith, rows_none a.out.now a.at a.keys.now a.counts.now)

pub put_row-end-requires : goal.put_row-end-requires
put_row-end-requires c = let l = c.loop-i in (omega (arith, c.loop-i-test.true, c.requires.0), c.requires.1, omega (arith, l.invariant.0, l.invariant.2, c.requires.2, c.loop-i-test.true, c.requires.0))

pub loop-i-preserved : goal.loop-i-preserved
loop-i-preserved c =
    let v = c.put_row-end in
    let l = c.loop-i in
    let a = c.args in
    (search rules, omega (arith, c.loop-i-test.true), omega (arith, l.invariant.2, v.ensures.2), rows_more a.out.now l.out v.new.out a.at l.end v.result a.keys.now a.counts.now l.i l.invariant.3 v.ensures.0 v.ensures.1)

pub returns : goal.returns
returns c =
    let l = c.loop-i in
    rows_all c.args.out.now l.out c.args.at l.end c.args.keys.now c.args.counts.now l.i c.args.n l.invariant.3 (omega (arith, l.invariant.1, c.loop-i-test.false)) l.invariant.2 c.requires.0
