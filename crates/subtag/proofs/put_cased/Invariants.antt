-- `subtag::put_cased` meets its contract. Assumes nothing.
use mathlib.Core.Path.{◌≡◌}
use mathlib.Core.List.{map}
use lib.ListN.{take}
use lib.Seq.{sets}
use Rattle.subtag.specs.Bytes.{normal_byte, cased as raised_tag}
use Rattle.subtag.proofs.put_cased.Given as goal

abbrev pub invariant-loop-i : goal.invariant-loop-i
invariant-loop-i l = l.out ≡ sets l.initial.out l.at (raised_tag l.count (map normal_byte (take l.i l.src)))
