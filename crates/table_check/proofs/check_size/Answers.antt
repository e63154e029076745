-- `table_check::check_size` meets its contract. Assumes nothing.
use mathlib.Core.Path.{refl}
use Rattle.standard.specs.Table.{size_fault}
use Rattle.table_check.specs.declared.Kind.TheVariants.{Size}
use Rattle.table_check.proofs.Ordered.{in-none, in_some, small, large}
use Rattle.table_check.proofs.check_size.Goals as goal

pub returns-then-t-le32768 : goal.returns-then-t-le32768
unfolding size_fault
returns-then-t-le32768 c = in-none _ _ (small _ c.if-t-le32768.true)

pub returns : goal.returns
unfolding size_fault
returns c = in_some _ _ Size 0 _ (large _ c.if-t-le32768.false) refl
