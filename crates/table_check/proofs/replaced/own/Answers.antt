-- `table_check::replaced::own` meets its contract, kind by kind. Assumes nothing.
use mathlib.Core.Path.{sym}
use Prim.Native.Nat.{zero-le}
use lib.Seq.{length-take-le}
use Rattle.byte_string.proofs.Ends.{ends}
use Rattle.table_check.specs.Free.{own_tag}
use Rattle.table_check.proofs.Frees.{own_is, own-language, own-whole}
use Rattle.table_check.proofs.replaced.own.Goals as goal

pub slice_bounds-result-end : goal.slice_bounds-result-end
slice_bounds-result-end c = let b = ends _ _ _ _ c.end_of-end.ensures zero-le in sym (length-take-le _ _ b.high)

pub returns-in-Language : goal.returns-in-Language
unfolding own_tag
returns-in-Language c = own_is _ _ _ c.in-Language.is (own-language _ _ c.end_of-end.ensures)

pub returns-in-Script : goal.returns-in-Script
unfolding own_tag
returns-in-Script c = own-whole _ _ c.in-Script.is
