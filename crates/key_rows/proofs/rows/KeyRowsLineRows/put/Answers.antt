-- The row of a line over tables that passed the check. Assumes nothing.
use native.Mathlib.Omega.{arith}
use mathlib.Core.Path.{◌≡◌}
use lib.ListN.{length}
use borrow.Author.Rules.{rules}
use Rattle.key_rows.proofs.Laws as laws
use Rattle.key_rows.proofs.rows.KeyRowsLineRows.put.Goals as goal
use Rattle.key_rows.proofs.rows.KeyRowsLineRows.put.Goals.{After-from-a}

row : (c : After-from-a) → laws.Told c.args.self.now.tables.aliases.rows.now c.args.self.now.tables.likely.rows.now c.args.line.now c.args.self.now.tables.tested.passes c.from-a.result c.form_tested.new.out
row c =
    let t = c.args.self.now.tables in
    laws.told-row t.aliases.rows.now t.likely.rows.now c.args.line.now t.tested c.form_tested.result c.from-a.result _ c.form_buffer-form.result c.form_buffer-form.ensures c.from-a.ensures c.form_tested.ensures

pub put_answer-requires : goal.put_answer-requires
put_answer-requires c =
    let t = row (goal.at.put_answer-requires c).After-from-a in
    let e : length c.form_tested.new.out ≡ 256 = search rules in
    (t.asked, t.few, omega (arith, t.few), omega arith)

pub returns : goal.returns
returns c = rw (row (goal.at.returns c).After-from-a).text at c.put_answer.ensures
