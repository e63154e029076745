-- A run that read the input to its end and printed has printed the rows of its refused lines. Assumes nothing.
use mathlib.Core.Path.{◌≡◌, sym, ap, ◌∙◌}
use mathlib.Core.Bool.{true, false, true≢false}
use mathlib.Core.List.{List, ◌++◌}
use mathlib.Core.Logic.{⊎_elim}
use Prim.Native.Nat.{◌%◌, ◌^◌, ◌≤◌}
use native.Mathlib.Omega.{arith}
use lib.ListN.{length}
use Rattle.table.specs.Lines.{lines}
use Rattle.lines.specs.Squeeze.{Bytes, together}
use Rattle.program_io.specs.declared.input.Input.{Input}
use Rattle.program_io.specs.declared.output.Output.{Output}
use Rattle.program_io.specs.Handed.{is_end}
use Rattle.program_io.specs.Printed.{headed, Answers}
use Rattle.refused_rows.specs.Numbered.{rows_from}
use Rattle.refused_rows.specs.Rows.{line_row, refused_text}
use Rattle.refused_rows.proofs.Inputs.{input-rows}
use Rattle.refused.specs.Header.{header}
use Rattle.refused.specs.Lists.{Lists}

-- the rows, where neither reading nor printing failed
all-rows : (A L : Bytes) (bs : List Bytes) (i : Input) (o : Output) → i.bytes ≤ 18446744073709551615 → Answers (headed header (rows_from (line_row A L) 1)) bs i o → is_end i.last ≡ true → o.failed ≡ false
    → o.bytes ≡ length (header ++ refused_text A L (lines (together bs))) % 2 ^ 64
unfolding Answers headed
all-rows A L bs i o h a e f =
    ⊎_elim (λ d. let n = d.read.bytes in d.bytes ∙ ap (λ (t : Bytes). length (header ++ t) % 2 ^ 64) (input-rows A L (together bs) (omega arith)))
    (⊎_elim (λ d. absurd (true≢false (sym e ∙ ap is_end d.read.failed))) (λ d. absurd (true≢false (sym d.failed ∙ f)))) a

pub lists : (A L : Bytes) (bs : List Bytes) (i : Input) (o : Output) → i.bytes ≤ 18446744073709551615 → Answers (headed header (rows_from (line_row A L) 1)) bs i o → Lists A L bs i o
lists A L bs i o h a = record { answers = a; all = all-rows A L bs i o h a }
