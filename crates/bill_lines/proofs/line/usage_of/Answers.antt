-- `bill_lines::line::usage_of` meets its contract. Assumes nothing.
use Rattle.bill_lines.proofs.Usages.{no_member, no_key, has_key}
use Rattle.bill_lines.proofs.line.usage_of.Goals as goal

pub returns-in_default : goal.returns-in_default
returns-in_default c = (no_member _ _ c.in_default.ensures, tt)

pub returns-in_default-key_of : goal.returns-in_default-key_of
returns-in_default-key_of c = (no_key _ _ _ c.in-Some.ensures _ c.in_default-key_of.ensures.0, tt)

pub returns : goal.returns
returns c =
    let s = c.in-Some.ensures in
    let k = c.in-Some-key_of.ensures in
    (has_key _ _ _ s _ _ k.0, (s.1.0, s.1.1, k.1))
