-- `tsv::table_line` meets its contract. Assumes nothing.
use native.Mathlib.Omega.{arith}
use Rattle.byte_string.proofs.Stores.{front}
use mathlib.Core.Path.{ap, ◌∙◌}
use mathlib.Core.List.{List}
use Prim.Native.Nat.{ℕ}
use lib.ListN.{take}
use Rattle.tsv.specs.Fields.{text_is}
use Rattle.tsv.proofs.table_line.Goals as goal

pub returns : goal.returns
unfolding text_is
returns c =
    let w = c.put_table-len in
    (ap (λ (y : List ℕ). take w.result y) w.ensures.1 ∙ front c.room-bytes.result _ w.result w.ensures.0 (omega (arith, w.ensures.0, w.ensures.2, c.room-bytes.ensures)), w.ensures.2)
