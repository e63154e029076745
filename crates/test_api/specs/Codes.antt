-- Answers as numbers.
-- Assumes nothing.
use Rattle.std.specs.Prelude.{cond, ℕ, ◌+◌, ◌*◌, ◌%◌, leb}
use Rattle.std.proofs.Math.Option.{Option, none, some}
use Rattle.standard.specs.Report.{Report}
use Rattle.standard.specs.Table.{Found as Located, TableFault}
use Rattle.subtag.specs.declared.Class.{Class}
use Rattle.subtag.specs.declared.Class.TheVariants.{Small, Capital, Digit, Separator, Other}

unfoldable pub found_code : Located → ℕ
found_code f =
    cond (leb 2147483648 f.start) 18446744073709551615
    (cond (leb 2147483648 f.len) 18446744073709551615
    (cond f.found (1 + f.start * 2 + f.len * 4294967296) (f.start * 2 + f.len * 4294967296)))

unfoldable pub fault_code : Option TableFault → ℕ
fault_code none = 0
fault_code (some f) = f.fault.number + f.table * 256 + f.fault.place % 65536 * 65536

-- the number and place of a report
unfoldable pub report_code : Report → ℕ
report_code r = r.number + r.place % 65536 * 65536

-- the class of a byte
abbrev pub class_code : Class → ℕ
class_code Small = 1
class_code Capital = 2
class_code Digit = 3
class_code Separator = 4
class_code Other = 0
