-- `bill_lines::text::put_key` meets its contract. Assumes nothing.
use Rattle.bill_lines.proofs.Texts.{key-put}
use Rattle.bill_lines.proofs.text.put_key.Goals as goal

pub returns : goal.returns
returns c =
    let a = c.args in
    let k = c.key_at in
    let p = c.put in
    key-put a.out.now p.new.out a.keys.now _ a.at p.result a.i k.ensures.0 k.ensures.1 p.ensures.0 p.ensures.1
