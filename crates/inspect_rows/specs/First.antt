-- A row needs no more of its line than its first 260 bytes: the laws that `KeyedRows` and `ReadRows` cite, and so beside
-- the definitions. Assumes nothing.
use mathlib.Core.Path.{◌≡◌, refl}
use mathlib.Core.Bool.{Bool}
use mathlib.Core.List.{List, []}
use Prim.Native.Nat.{ℕ, ◌<◌}
use native.Mathlib.Omega.{arith}
use lib.ListN.{length, take}
use Rattle.standard.specs.Reading.{bad}
use Rattle.standard.specs.Report.{report_of}
use Rattle.reader.specs.Words.{refused_report}
use Rattle.reader.proofs.Outcomes.{outcome-long}
use Rattle.reader.proofs.Reports.{report-bad}
use Rattle.lines.proofs.Pieces.{first-enough}
use Rattle.inspect_rows.specs.Rows.{meant_text, report_text, row_of, key_number, line_row}
use Rattle.tsv.proofs.Laws.{asked-two}

-- Of a line only the first 260 bytes matter: with more than 255 it is refused with 2.
row-long : (key : ℕ) (x : List ℕ) → 255 < length x → row_of key x ≡ report_text (report_of (bad 2 0)) 0 []
unfolding row_of report_text meant_text refused_report report_of
row-long key x h = rw (← (report-bad x 2 0 (outcome-long x h)), asked-two 2 x refl, asked-two 2 [] refl)

pub row_first : (key : ℕ) (x : List ℕ) → row_of key (take 260 x) ≡ row_of key x
row_first key x = first-enough (row_of key) (report_text (report_of (bad 2 0)) 0 []) (λ y h. row-long key y (omega arith)) x

pub line_first : (keyed : Bool) (A L x : List ℕ) → line_row keyed A L (take 260 x) ≡ line_row keyed A L x
unfolding line_row
line_first keyed A L x = first-enough (line_row keyed A L) (report_text (report_of (bad 2 0)) 0 []) (λ y h. row-long (key_number keyed A L y) y (omega arith)) x
