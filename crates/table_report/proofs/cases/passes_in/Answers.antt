-- `table_report::cases::passes_in` meets its contract. Assumes nothing.
use native.Mathlib.Omega.{arith}
use mathlib.Core.Path.{sym, ◌∙◌}
use lib.Seq.{length-take-le}
use Rattle.table_report.proofs.Recased as recasing
use Rattle.table_report.proofs.Recased.{good-ok}
use Rattle.table_report.proofs.cases.passes_in.Goals as goal

pub bounds-buf-end : goal.bounds-buf-end
bounds-buf-end c = let p = c.put_recased-end in let a = c.args in omega (arith, p.ensures.0, recasing.recased-length c.first_of.result 0 a.row.now)

pub overflow_add-end : goal.overflow_add-end
overflow_add-end c = let p = c.put_recased-end in let a = c.args in omega (arith, p.ensures.0, recasing.recased-length c.first_of.result 0 a.row.now)

pub slice_bounds-check_rows-end : goal.slice_bounds-check_rows-end
slice_bounds-check_rows-end c = let p = c.put_recased-end in recasing.end_fits _ _ _ _ _ c.requires p.ensures.0 p.ensures.1

pub slice_bounds-check_rows-end-2 : goal.slice_bounds-check_rows-end-2
slice_bounds-check_rows-end-2 c = let p = c.put_recased-end in sym (length-take-le _ _ (recasing.end_fits _ _ _ _ _ c.requires p.ensures.0 p.ensures.1))

pub returns : goal.returns
returns c =
    let p = c.put_recased-end in
    recasing.passes-is _ _ _ _ _ c.requires p.ensures.0 p.ensures.1 _ _ _ (c.is_ok.ensures.value ∙ good-ok _) c.first_of.ensures c.check_rows.ensures
