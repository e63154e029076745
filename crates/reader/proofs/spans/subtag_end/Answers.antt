-- `reader::spans::subtag_end` meets its contract. Assumes nothing.
use native.Mathlib.Omega.{arith}
use mathlib.Core.Path.{ap}
use Prim.Native.Nat.{◌+◌}
use Rattle.subtag.proofs.Walk.{judged, scanned-len, scanned-fits}
use Rattle.reader.proofs.spans.subtag_end.Goals as goal

pub overflow_add-result : goal.overflow_add-result
overflow_add-result c = let h = scanned-fits c.args.id.now c.args.at c.scan.result c.scan.ensures in omega arith

pub returns : goal.returns
returns c =
    let s = c.args.id.now in
    let h = scanned-fits s c.args.at c.scan.result c.scan.ensures in
    (ap (◌+◌ c.args.at) (scanned-len _ c.scan.result (judged s c.args.at c.scan.result c.scan.ensures)), omega arith)
