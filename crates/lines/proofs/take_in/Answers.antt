-- `lines::take_in` meets its contract. Assumes nothing.
use Rattle.lines.proofs.Laws as laws
use Rattle.lines.proofs.take_in.Goals as goal

pub loop-b-init : goal.loop-b-init
loop-b-init c = laws.taking-start _ _ _ c.requires.0

pub loop-b-preserved : goal.loop-b-preserved
loop-b-preserved c =
    let l = c.loop-b in
    let p = c.put_kept-end in
    let a = c.args in
    laws.taking-more a.block.now a.piece.now l.piece p.new.out a.run l.end p.result l.n c.next_run-n.result l.b-index l.invariant c.loop-b-test.true
    p.ensures.0 p.ensures.1 c.next_run-n.ensures.0 c.next_run-n.ensures.1

pub returns : goal.returns
returns c =
    let l = c.loop-b in
    let a = c.args in
    laws.taking-end a.block.now a.piece.now l.piece a.run l.end l.n l.b-index l.invariant c.loop-b-test.false
