-- `bill::take_tested` meets its contract. Assumes nothing.
use mathlib.Core.Path.{◌∙◌}
use native.Mathlib.Omega.{arith}
use Rattle.bill.proofs.take_tested.Goals as goal

pub take_input-requires : goal.take_input-requires
take_input-requires c =
    let p = c.piece_buffer-piece.ensures in
    let s = c.requires in
    let b = c.buffer-out.ensures in
    let t = c.tested-tables.ensures in
    (omega (arith, b), record { some = omega (arith, s.1); behind = omega (arith, s.2, p) }, s.3, rw (t.0 ∙ c.indexed.ensures.0, t.1 ∙ c.indexed-2.ensures.0) s.4)
