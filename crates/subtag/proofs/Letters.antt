-- 02, T-05, of the class that `class_of` promises; to open with standard/proofs/Letters.antt. Assumes nothing.
use mathlib.Core.Path.{◌≡◌, ◌∙◌}
use Prim.Native.Nat.{ℕ, ◌<◌}
use Rattle.standard.specs.Letters.{by_letters, by_tests}
use Rattle.standard.proofs.Letters.{letters}
use Rattle.subtag.specs.Bytes.{class_of, by_class}
use Rattle.subtag.proofs.Bytes.{classed, foreign-as}

class-tests : (b : ℕ) → by_class (class_of b) ≡ by_tests b
unfolding by_class by_tests
class-tests b = let c = classed b in rw (foreign-as b, c.small, c.capital, c.digit, c.separator)

-- 02, T-05: of all 256 bytes, the class is that of a letter exactly for A to Z and a to z, of a digit for 0 to 9, of a
-- separator for `-` and `_`, else of none of them.
pub class-letters : (b : ℕ) → b < 256 → by_class (class_of b) ≡ by_letters b
class-letters b h = class-tests b ∙ letters b h
