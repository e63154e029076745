-- `key_rows::rows_tested` meets its contract. Assumes nothing.
use mathlib.Core.Path.{◌≡◌, ◌∙◌}
use Rattle.key_rows.proofs.Laws as laws
use Rattle.key_rows.proofs.rows_tested.Goals as goal

pub returns : goal.returns
returns c =
    let w = c.write_rows.ensures in
    let a : c.tested-tables.result.aliases.rows.now ≡ c.args.aliases.now = c.tested-tables.ensures.0 ∙ c.indexed.ensures.0 in
    let l : c.tested-tables.result.likely.rows.now ≡ c.args.likely.now = c.tested-tables.ensures.1 ∙ c.indexed-2.ensures.0 in
    record {
      given = laws.rows-given c.args.aliases.now c.args.likely.now c.args.piece.now c.requires.passes c.args.out.now _ _ (rw (a, l) at w.used) (rw (a, l) at w.len) (rw (a, l) at w.text) w.in_out;
      in_piece = w.in_piece;
      in_out = w.in_out;
    }
