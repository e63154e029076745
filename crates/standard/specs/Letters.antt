-- 02, T-05: what each byte is, told letter by letter, and by the tests of `Grammar` and `Reading`, which everything else goes
-- by. proofs/Letters.antt proves them equal for all 256 bytes. Assumes nothing.
use Rattle.std.specs.Prelude.{Bool, false, not, ◌||◌, List, [], ◌∷◌, ℕ, eqb}
use Rattle.standard.specs.Tag.{text}
use Rattle.standard.specs.Grammar.{small, capital, digit, separator}
use Rattle.standard.specs.Reading.{clean}

-- What a byte is; of a letter also whether it is a capital.
pub record ByteIs : Type 0 where
  pub letter : Bool
  pub digit : Bool
  pub separator : Bool
  pub none : Bool
  pub capital : Bool

-- whether a byte is one of these
unfoldable pub among : List ℕ → ℕ → Bool
among [] b = false
among (c ∷ cs) b = eqb b c || among cs b

-- 02, T-05: a letter exactly for A to Z and a to z, a digit for 0 to 9, a separator for `-` and `_`, else none of them.
unfoldable pub by_letters : ℕ → ByteIs
by_letters b = record {
  letter = among (text "ABCDEFGHIJKLMNOPQRSTUVWXYZabcdefghijklmnopqrstuvwxyz") b;
  digit = among (text "0123456789") b;
  separator = among (text "-_") b;
  none = not (among (text "ABCDEFGHIJKLMNOPQRSTUVWXYZabcdefghijklmnopqrstuvwxyz0123456789-_") b);
  capital = among (text "ABCDEFGHIJKLMNOPQRSTUVWXYZ") b;
}

-- by the tests; what is none of these is refused with 3
unfoldable pub by_tests : ℕ → ByteIs
by_tests b = record { letter = small b || capital b; digit = digit b; separator = separator b; none = not (clean b); capital = capital b }
