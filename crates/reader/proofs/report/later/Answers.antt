-- `reader::report::later` meets its contract. Assumes nothing.
use Rattle.reader.proofs.Reports as reports
use Rattle.reader.proofs.report.later.Goals as goal

pub returns-then-from-to : goal.returns-then-from-to
returns-then-from-to c = reports.later-there _ _ _ _ _ c.if-from-to.true c.word_of.ensures

pub returns-else-from-to : goal.returns-else-from-to
returns-else-from-to c = reports.later-not _ _ _ _ _ c.if-from-to.false c.absent.ensures
