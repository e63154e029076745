-- `reader::spans::variant_spans` meets its contract. Assumes nothing.
use Rattle.reader.proofs.Spanned as spanned
use Rattle.reader.proofs.spans.variant_spans.Given as goal

abbrev pub invariant-loop-n : goal.invariant-loop-n
invariant-loop-n l = spanned.Listing l.id l.from l.count l.spans l.end l.n
