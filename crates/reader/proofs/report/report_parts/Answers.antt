-- `reader::report::report_parts` meets its contract. Assumes nothing.
use Rattle.reader.specs.Words.{accepted_is, parts_report}
use Rattle.reader.proofs.Reports as reports
use Rattle.reader.proofs.report.report_parts.Goals.{in-Language, in-Script, in-Root}
use Rattle.reader.proofs.report.report_parts.Goals as goal

pub word_of-requires : goal.word_of-requires
word_of-requires c = let q = c.requires in (reports.name _ _ q.0 q.1).front-short

pub later-requires : goal.later-requires
later-requires c = let q = c.requires in ((reports.name _ _ q.0 q.1).script (reports.from-language _ _ q.0 q.1 c.in-Language.is)).fits

pub later-requires-in-Language : goal.later-requires-in-Language
later-requires-in-Language c = let q = c.requires in (reports.name _ _ q.0 q.1).region.fits

pub word_of-requires-in-Script : goal.word_of-requires-in-Script
word_of-requires-in-Script c = let q = c.requires in (reports.name _ _ q.0 q.1).front-short

pub later-requires-in-Script : goal.later-requires-in-Script
later-requires-in-Script c = let q = c.requires in (reports.name _ _ q.0 q.1).region.fits

pub returns : goal.returns
unfolding accepted_is parts_report
returns c =
    let q = c.requires in
    elim c.match-p.branch [
      | in-Language w ↦ rw w.t-7-is (reports.report-language _ _ q.0 q.1 w.in-Language.is _ _ _ w.word_of.ensures w.later.ensures w.later-in-Language.ensures)
      | in-Script w ↦ rw w.t-7-is (reports.report-script _ _ q.0 q.1 w.in-Script.is _ _ _ w.und.ensures w.word_of-in-Script.ensures w.later-in-Script.ensures)
      | in-Root w ↦ rw w.t-7-is (reports.report-root _ _ q.0 q.1 w.in-Root.is _ _ _ w.und-in-Root.ensures w.absent.ensures w.absent-in-Root.ensures)
    ]
