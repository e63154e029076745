-- The first line that the program prints. Assumes nothing.
use Rattle.std.specs.Prelude.{List, ℕ}
use Rattle.standard.specs.Tag.{text}

-- a header, tab-parted
unfoldable pub header : List ℕ
header = text "line\tmember\tnumber\tplace\tidentifier\tmeaning\n"
