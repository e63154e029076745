-- What is printed as asked has at most 255 bytes, and so a row has room; of a line only the first 260 bytes matter.
-- Assumes nothing.
use mathlib.Core.Path.{◌≡◌, sym, ap}
use mathlib.Core.List.{List, ◌++◌}
use Prim.Native.Nat.{ℕ, ◌≤◌}
use native.Mathlib.Omega.{arith}
use lib.ListN.{length}
use Rattle.standard.specs.Report.{Report, report_of, report}
use Rattle.reader.specs.Words.{refused_report}
use Rattle.reader.proofs.Outcomes.{outcome-long}
use Rattle.reader.proofs.Reports.{report-bad}
use Rattle.tsv.specs.Fields.{field, asked_of}
use Rattle.inspect_rows.specs.Rows.{told_is, fields_text, meant_text, report_text, row_of}
use Rattle.tsv.proofs.Laws.{asked-fits, field-length}
use Rattle.inspect_rows.specs.declared.Told.{Told}

-- what is printed as asked has at most 255 bytes
asked-small : (x : List ℕ) → length (asked_of (report x).number x) ≤ 255
unfolding refused_report report_of
asked-small x = asked-fits (report x).number x (λ h. rw (← (report-bad x 2 0 (outcome-long x h))))

pub asked-length : (r : Told) (x : List ℕ) → told_is r ≡ report x → length (field (asked_of r.number x) 9) ≤ 256
unfolding told_is
asked-length r x e = let s = rw (← e) at (asked-small x) in let f = field-length (asked_of r.number x) 9 in omega arith

-- the text of a row, once its parts are written
pub row-text : (r : Told) (key : ℕ) (x : List ℕ) → told_is r ≡ report x → row_of key x ≡ field (asked_of r.number x) 9 ++ (fields_text (told_is r) ++ field (meant_text r.number key) 10)
unfolding row_of report_text told_is
row-text r key x e = sym (ap (λ (q : Report). report_text q key x) e)
