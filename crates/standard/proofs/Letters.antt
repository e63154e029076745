-- 02, T-05, for all 256 bytes; a file to open first, beside Theorem.antt, and then subtag/proofs/Letters.antt, which says
-- the same of the class that `class_of` promises. The prover computes both sides over the whole range, and one lemma turns
-- that into the rule at each byte. Assumes nothing.
use mathlib.Core.Path.{◌≡◌, refl}
use mathlib.Core.List.{map}
use Prim.Native.Nat.{ℕ, ◌<◌}
use Rattle.standard.specs.Grammar.{small, capital, digit, separator}
use Rattle.standard.specs.Reading.{clean}
use Rattle.standard.specs.Letters.{among, by_letters, by_tests}
use Rattle.standard.proofs.General.{numbers_below, at_each}

all-bytes : map by_tests (numbers_below 256) ≡ map by_letters (numbers_below 256)
unfolding numbers_below among by_letters by_tests small capital digit separator clean
all-bytes = refl

-- 02, T-05: a letter exactly for A to Z and a to z, a digit for 0 to 9, a separator for `-` and `_`, else none of them.
pub letters : (b : ℕ) → b < 256 → by_tests b ≡ by_letters b
letters b h = at_each by_tests by_letters 256 all-bytes b h
