-- `canonical_order::sorted::trimmed_end` meets its contract. Assumes nothing.
use native.Mathlib.Omega.{arith}
use mathlib.Core.Path.{◌∙◌}
use Rattle.subtag.proofs.Walk as walk
use Rattle.canonical_order.proofs.Trim as trim
use Rattle.canonical_order.proofs.sorted.trimmed_end.Goals as goal
use Rattle.canonical_order.proofs.sorted.trimmed_end.Goals.{then-not-trim-via-then-not-trim, then-not-trim-via-else-not-trim+then-end-next}

pub returns-then-not-trim : goal.returns-then-not-trim
returns-then-not-trim c = elim c.then-not-trim.branch [
  | then-not-trim-via-then-not-trim w ↦ trim.trim-off _ _ _ _ w.if-not-trim.true
  | then-not-trim-via-else-not-trim+then-end-next w ↦ trim.trim-none _ _ _ _ w.if-not-trim.false w.if-end-next.true
]

pub without-requires : goal.without-requires
without-requires c =
    let a = c.args in
    let z = walk.scanned-fits a.s.now _ _ c.scan.ensures in
    omega arith

pub returns : goal.returns
returns c =
    let a = c.args in
    c.without.ensures
    ∙ trim.trim-on a.trim a.s.now a.next a.end c.scan.result c.if-not-trim.false c.if-end-next.false
    c.scan.ensures
