-- `underline::underline_all` meets its contract. Assumes nothing.
use native.Mathlib.Omega.{arith}
use mathlib.Core.Path.{◌≡◌}
use lib.ListN.{length}
use borrow.Author.Rules.{rules}
use Rattle.underline.proofs.Lines as laws
use Rattle.underline.proofs.underline_all.Goals as goal

pub returns-then-count-eq0 : goal.returns-then-count-eq0
returns-then-count-eq0 c = laws.nothing_written _ _ _ _ (laws.first-none c.args.spans _ c.if-count-eq0.true)

pub put_all_marks-q-requires : goal.put_all_marks-q-requires
put_all_marks-q-requires c =
    let q = c.requires in
    let r = laws.lines-room _ _ _ q.1 q.2 _ c.put-p.ensures.0 in
    (q.0, q.1.apart, omega arith)

-- the marks end within the room
pub bounds-out-q : goal.bounds-out-q
bounds-out-q c =
    let q = c.requires in
    let r = laws.lines-room _ _ _ q.1 q.2 _ c.put-p.ensures.0 in
    let e = c.put_all_marks-q.ensures.0 in
    omega arith

pub overflow_add-result : goal.overflow_add-result
overflow_add-result c =
    let q = c.requires in
    let r = laws.lines-room _ _ _ q.1 q.2 _ c.put-p.ensures.0 in
    let e = c.put_all_marks-q.ensures.0 in
    omega arith

pub returns : goal.returns
returns c =
    let q = c.requires in
    let a = c.args in
    let e : length a.spans ≡ 50 = search rules in
    let some = laws.first_some a.spans a.count e c.if-count-eq0.false in
    laws.lines-written _ _ _ q.1 q.2 some _ _ _ _ _ c.put-p.ensures c.put_all_marks-q.ensures
