-- `underline::underline_one` meets its contract. Assumes nothing.
use native.Mathlib.Omega.{arith}
use Rattle.underline.proofs.Lines as laws
use Rattle.underline.proofs.underline_one.Goals as goal

pub returns-then-s-eq0 : goal.returns-then-s-eq0
returns-then-s-eq0 c = laws.nothing_written _ _ _ _ (laws.one_none _ c.if-s-eq0.true)

pub put_marks-q-requires : goal.put_marks-q-requires
put_marks-q-requires c =
    let q = c.requires in
    let r = laws.one-room _ _ _ q.0 q.1 c.if-s-eq0.false _ c.put-p.ensures.0 in
    (omega arith, omega arith)

-- the marks end within the room
pub bounds-out-q : goal.bounds-out-q
bounds-out-q c =
    let q = c.requires in
    let r = laws.one-room _ _ _ q.0 q.1 c.if-s-eq0.false _ c.put-p.ensures.0 in
    let e = c.put_marks-q.ensures.0 in
    omega arith

pub overflow_add-result : goal.overflow_add-result
overflow_add-result c =
    let q = c.requires in
    let r = laws.one-room _ _ _ q.0 q.1 c.if-s-eq0.false _ c.put-p.ensures.0 in
    let e = c.put_marks-q.ensures.0 in
    omega arith

pub returns : goal.returns
returns c =
    let q = c.requires in
    laws.one_written _ _ _ q.0 q.1 c.if-s-eq0.false _ _ _ _ _ c.put-p.ensures c.put_marks-q.ensures
