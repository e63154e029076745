-- The words for what is wrong with a row. Assumes nothing.
use Rattle.std.specs.Prelude.{◌++◌, ℕ}
use Rattle.standard.specs.Tag.{text}
use Rattle.meaning.specs.Meaning.{meaning_of}
use Rattle.table_report.specs.Faults.{Bytes}
use Rattle.table_report.specs.declared.Wrong.{Wrong}
use Rattle.table_report.specs.declared.Wrong.TheVariants.{NoEnd, Empty, Return, NoTab, FewTabs, ManyTabs, Byte, Kind, Case, Field, SameKey, Order}

-- what is wrong, in words
unfoldable pub wrong_words : Wrong → Bytes
wrong_words NoEnd = text "no line end"
wrong_words Empty = text "an empty line"
wrong_words Return = text "CR at the end"
wrong_words NoTab = text "no tab"
wrong_words FewTabs = text "a tab too few"
wrong_words ManyTabs = text "a tab too many"
wrong_words Byte = text "a byte that is no letter, digit, - or tab"
wrong_words Kind = text "unknown kind"
wrong_words Case = text "wrong case"
wrong_words Field = text "a key or value that can't stand there"
wrong_words SameKey = text "the same key again"
wrong_words Order = text "not in byte order"

-- the words of a number and what is wrong
unfoldable pub told_text : ℕ → Wrong → Bytes
told_text number w = meaning_of number ++ (text ": " ++ wrong_words w)
