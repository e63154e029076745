-- The words of a number in a lent output. Assumes nothing.
use Rattle.std.specs.Prelude.{cond, [], ℕ, leb, length}
use Rattle.standard.specs.Delivery.{Bytes}
use Rattle.tsv.specs.Fields.{field}
use Rattle.meaning.specs.Meaning.{meaning_of}

-- the words that an output has room for: none in fewer than 80 bytes
unfoldable pub words_for : ℕ → Bytes → Bytes
words_for n out = cond (leb 80 (length out)) (meaning_of n) []

-- what is written there: the words and 0A
unfoldable pub told : ℕ → Bytes → Bytes
told n out = cond (leb 80 (length out)) (field (meaning_of n) 10) []
