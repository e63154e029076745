-- The rows of `inspect`: asked, number, place, language, script, region, variants, extensions, meaning, parted by tabs,
-- with `-` where there is none. Assumes nothing.
use Rattle.std.specs.Prelude.{Bool, true, false, cond, List, [], ◌∷◌, ◌++◌, ℕ, eqb}
use Rattle.standard.specs.Tag.{Tag, text}
use Rattle.standard.specs.Report.{Report, report}
use Rattle.tsv.specs.Fields.{decimal, field, asked_of}
use Rattle.meaning.specs.Meaning.{meaning_of}
use Rattle.reader.specs.Words.{word_is}
use Rattle.inspect_rows.specs.declared.Told.{Told}
use Rattle.key_rows.specs.Keys.{number_of, made_key}

-- the bytes of a text
abbrev Bytes : Type 0
Bytes = List ℕ

-- `-` for an absent subtag
unfoldable pub dashed : Bytes → Bytes
dashed [] = 45 ∷ []
dashed (b ∷ bs) = b ∷ bs

-- what is told of an identifier, as the standard's report
unfoldable pub told_is : Told → Report
told_is t = record {
  number = t.number;
  place = t.place;
  language = word_is t.report.language;
  script = word_is t.report.script;
  region = word_is t.report.region;
  variants = t.report.variants;
  extensions = t.report.extensions;
}

-- number and place
unfoldable pub where_text : ℕ → ℕ → Bytes
where_text number place = field (decimal number) 9 ++ field (decimal place) 9

-- language, script and region
unfoldable pub three_text : Tag → Tag → Tag → Bytes
three_text l s r = field (dashed l) 9 ++ (field (dashed s) 9 ++ field (dashed r) 9)

-- how many variants and extensions
unfoldable pub counts_text : ℕ → ℕ → Bytes
counts_text variants extensions = field (decimal variants) 9 ++ field (decimal extensions) 9

-- all fields of a report
unfoldable pub fields_text : Report → Bytes
fields_text r = where_text r.number r.place ++ (three_text r.language r.script r.region ++ counts_text r.variants r.extensions)

-- why an identifier is no key: minimising refuses it with this number
unfoldable pub key_text : ℕ → Bytes
key_text key = text "as a key " ++ (decimal key ++ (text ": " ++ meaning_of key))

-- the words of reading's number; where reading refuses nothing and minimising does, why there is no key
unfoldable pub meant_text : ℕ → ℕ → Bytes
meant_text number key = cond (eqb number 0) (cond (eqb key 0) (meaning_of 0) (key_text key)) (meaning_of number)

-- the row of a report: what was asked, its fields, and what is meant
unfoldable pub report_text : Report → ℕ → Bytes → Bytes
report_text r key x = field (asked_of r.number x) 9 ++ (fields_text r ++ field (meant_text r.number key) 10)

-- the row of a line that minimising answers with the number key, which is 0 where no tables are used
unfoldable pub row_of : ℕ → Bytes → Bytes
row_of key x = report_text (report x) key x

-- the number that minimising answers over aliases A and likely L; 0 where no tables are used
unfoldable pub key_number : Bool → Bytes → Bytes → Bytes → ℕ
key_number true A L x = number_of (made_key A L x)
key_number false A L x = 0

-- the row of a line, with tables or without
unfoldable pub line_row : Bool → Bytes → Bytes → Bytes → Bytes
line_row keyed A L x = row_of (key_number keyed A L x) x
