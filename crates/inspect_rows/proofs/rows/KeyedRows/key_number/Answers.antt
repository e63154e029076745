-- `inspect_rows::rows::KeyedRows::key_number` meets its contract. Assumes nothing.
use Rattle.key_rows.proofs.Laws as laws
use Rattle.inspect_rows.specs.Rows.{key_number}
use Rattle.inspect_rows.proofs.rows.KeyedRows.key_number.Goals as goal

pub returns : goal.returns
unfolding key_number
returns c =
    let t = c.args.self.now.tables in
    (laws.told-row t.aliases.rows.now t.likely.rows.now c.args.line.now t.tested c.form_tested.result c.from.result _ c.form_buffer-form.result c.form_buffer-form.ensures c.from.ensures c.form_tested.ensures).number
