-- `inspect::print_header` meets its contract. Assumes nothing.
use Rattle.inspect.specs.Header.{header}
use Rattle.inspect.proofs.print_header.Goals as goal

pub returns : goal.returns
unfolding header
returns c = (c.begin.result, c.begin.ensures.0, c.print.ensures)
