-- `bill_lines::text::put_header` meets its contract. Assumes nothing.
use Rattle.bill_lines.specs.Text.{header}
use Rattle.bill_lines.proofs.Texts.{header-put}
use Rattle.bill_lines.proofs.text.put_header.Goals as goal

pub returns : goal.returns
unfolding header
returns c = let p = c.put in header-put c.args.out.now p.new.out p.result p.ensures.0 p.ensures.1
