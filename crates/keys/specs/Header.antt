-- The first line that the program prints. Assumes nothing.
use Rattle.std.specs.Prelude.{List, ℕ}
use Rattle.standard.specs.Tag.{text}

-- 01: a header, tab-parted
unfoldable pub header : List ℕ
header = text "asked\tnumber\tkept\n"
