-- What `read` gives back, as the standard's report: a word is its first `len` bytes. Assumes nothing.
use Rattle.std.specs.Prelude.{true, false, List, [], ℕ, ◌+◌, ◌≤◌, ◌<◌, ltb, length, take, drop, Result, Ok, Err}
use Rattle.standard.specs.Tag.{Tag, head_tag}
use Rattle.standard.specs.Reading.{split, bad}
use Rattle.standard.specs.Report as standard
use Rattle.subtag.specs.Bytes.{cased}
use Rattle.reader.specs.declared.Parts.{Parts}
use Rattle.reader.specs.declared.Refusal.{Refusal}
use Rattle.reader.specs.Parts.{fault_is}
use Rattle.reader.specs.declared.word.Word.{Word}
use Rattle.reader.specs.declared.report.Report.{Report}

unfoldable pub word_is : Word → Tag
word_is w = take w.len w.bytes

-- the subtag behind a separator at `from`, where a part goes from there to `to`
unfoldable pub later_word : ℕ → ℕ → ℕ → List ℕ → Tag
later_word n from to x = elim (ltb from to) [ true ↦ cased n (head_tag (split (drop (from + 1) x))) | false ↦ [] ]

-- it is there and of at most 8 bytes
pub record LaterFits (from to : ℕ) (x : List ℕ) : Type 0 where
  pub fits : from < to → from + 1 ≤ length x
  pub short : from < to → length (head_tag (split (drop (from + 1) x))) ≤ 8

-- the report of a refusal
unfoldable pub refused_report : ℕ → ℕ → standard.Report
refused_report n p = standard.report_of (bad n p)

-- the report of an accepted identifier's parts
unfoldable pub parts_report : Parts → Tag → Tag → Tag → standard.Report
parts_report p l s r =
    record { number = 0; place = 0; language = l; script = s; region = r; variants = p.variant_count; extensions = p.extension_count }

-- the report of an accepted identifier, number and place 0
unfoldable pub accepted_is : Report → standard.Report
accepted_is r = record {
  number = 0;
  place = 0;
  language = word_is r.language;
  script = word_is r.script;
  region = word_is r.region;
  variants = r.variants;
  extensions = r.extensions;
}

-- what `read` gives back
unfoldable pub report_is : Result Report Refusal → standard.Report
report_is (Ok r) = accepted_is r
report_is (Err why) = refused_report (fault_is why).number (fault_is why).place
