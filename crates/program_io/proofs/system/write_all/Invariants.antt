-- `program_io::system::write_all` meets its contract. Assumes nothing.
use Rattle.std.proofs.Common.{◌-◌, ◌≤◌, length}
use Rattle.program_io.proofs.system.write_all.Given as goal

abbrev pub invariant-loop-from : goal.invariant-loop-from
invariant-loop-from g l = l.from ≤ length l.buf

abbrev pub decreases-loop-from : goal.decreases-loop-from
decreases-loop-from g l = length l.buf - l.from
