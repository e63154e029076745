-- `operations::delivery::deliver` meets its contract. Assumes nothing.
use Rattle.operations.proofs.Delivers as delivers
use Rattle.operations.proofs.delivery.deliver.Goals as goal

pub returns-then-out-bytes : goal.returns-then-out-bytes
returns-then-out-bytes c = delivers.too_short c.args.bytes.now c.args.out.now 0 c.if-out-bytes.true

pub returns : goal.returns
returns c = delivers.delivered c.args.bytes.now c.args.out.now _ 0 _ c.if-out-bytes.false c.put-len.ensures.0 c.put-len.ensures.1
