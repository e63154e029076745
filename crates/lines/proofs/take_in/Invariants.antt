-- `lines::take_in` meets its contract. Assumes nothing.
use Rattle.lines.proofs.Laws as laws
use Rattle.lines.proofs.take_in.Given as goal

abbrev pub invariant-loop-b : goal.invariant-loop-b
invariant-loop-b l = laws.Taking l.block l.initial.piece l.piece l.run l.end l.n l.b-index
