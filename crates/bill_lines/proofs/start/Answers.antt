-- `bill_lines::start` meets its contract. Assumes nothing.
use Rattle.bill_lines.proofs.Helds.{held_start}
use Rattle.bill_lines.proofs.start.Goals as goal

pub returns : goal.returns
returns c = let a = c.args in let v = c.check_likely in λ ks cs s. held_start a.aliases.now a.likely.now ks cs v.result c.judged.result v.ensures c.judged.ensures s
