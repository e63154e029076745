-- `parents::lines::put_line` meets its contract. Assumes nothing.
use Rattle.parents.proofs.Writing.{put-end}
use Rattle.parents.proofs.lines.put_line.Goals as goal

pub returns : goal.returns
returns c = let p = c.put-end in put-end c.args.out.now _ _ _ c.args.id.now p.ensures.1 p.ensures.0
