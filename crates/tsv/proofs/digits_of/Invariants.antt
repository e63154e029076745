-- `tsv::digits_of` meets its contract. Assumes nothing.
use Rattle.tsv.proofs.Laws as laws
use Rattle.tsv.proofs.digits_of.Given as goal

abbrev pub invariant-loop-start : goal.invariant-loop-start
invariant-loop-start l = laws.Writing l.n l.rest l.start l.bytes

abbrev pub decreases-loop-start : goal.decreases-loop-start
decreases-loop-start l = l.start
