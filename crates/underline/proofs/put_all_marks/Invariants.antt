-- `underline::put_all_marks` meets its contract. Assumes nothing.
use mathlib.Core.Path.{◌≡◌}
use mathlib.Core.List.{map}
use lib.ListN.{length, take}
use Rattle.reader.specs.Spans.{span_is}
use Rattle.underline.proofs.Marking as laws
use Rattle.underline.proofs.put_all_marks.Given as goal

abbrev pub invariant-loop-i : goal.invariant-loop-i
invariant-loop-i l = (length l.out ≡ length l.initial.out) × laws.Marking l.initial.out l.at (take l.count (map span_is l.spans)) l.out l.p l.column (laws.left l.spans l.count l.i)
