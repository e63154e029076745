-- `program_io::print_table` meets its contract. Assumes nothing.
use Rattle.std.proofs.Common.{◌≡◌, ℕ, List, length, sym, subst, arith, length-take-le, rules}
use Rattle.tsv.specs.Fields.{text_is}
use Rattle.program_io.specs.Printed.{Prints}
use borrow.Author.Rules.{rules}
use native.Mathlib.Omega.{arith}
use Rattle.program_io.proofs.print_table.Goals as goal

pub slice_bounds-bytes-end : goal.slice_bounds-bytes-end
slice_bounds-bytes-end c = let e : length c.table_line-t.result.bytes ≡ 80 = search rules in omega (arith, c.table_line-t.ensures.1)

pub slice_bounds-print-end : goal.slice_bounds-print-end
slice_bounds-print-end c = let e : length c.table_line-t.result.bytes ≡ 80 = search rules in sym (length-take-le _ _ (omega (arith, c.table_line-t.ensures.1)))

pub returns : goal.returns
unfolding text_is
returns c = subst (λ (x : List ℕ). Prints c.args.o (length x) c.print.result) c.table_line-t.ensures.0 c.print.ensures
