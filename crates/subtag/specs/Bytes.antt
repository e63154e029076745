-- The class of a byte, by the standard's ranges; and its letter case.
-- Assumes nothing.
use Rattle.std.specs.Prelude.{Bool, true, false, cond, ◌||◌, [], ◌∷◌, ℕ, zero, suc, ltb}
use Rattle.standard.specs.Tag.{Tag}
use Rattle.standard.specs.Grammar.{small, capital, digit, separator, lower_byte, upper_byte}
use Rattle.standard.specs.Letters.{ByteIs}
use Rattle.subtag.specs.declared.Class.{Class}
use Rattle.subtag.specs.declared.Class.TheVariants.{Small, Capital, Digit, Separator, Other}

-- the one class or the other
abbrev pub pick_class : Bool → Class → Class → Class
pick_class true a b = a
pick_class false a b = b

-- the class of a byte
unfoldable pub class_of : ℕ → Class
class_of b = pick_class (digit b) Digit (pick_class (capital b) Capital (pick_class (small b) Small (pick_class (separator b) Separator Other)))

-- what a class says
abbrev pub is_small : Class → Bool
is_small Small = true
is_small Capital = false
is_small Digit = false
is_small Separator = false
is_small Other = false

abbrev pub is_capital : Class → Bool
is_capital Small = false
is_capital Capital = true
is_capital Digit = false
is_capital Separator = false
is_capital Other = false

abbrev pub is_digit : Class → Bool
is_digit Small = false
is_digit Capital = false
is_digit Digit = true
is_digit Separator = false
is_digit Other = false

abbrev pub is_separator : Class → Bool
is_separator Small = false
is_separator Capital = false
is_separator Digit = false
is_separator Separator = true
is_separator Other = false

abbrev pub is_other : Class → Bool
is_other Small = false
is_other Capital = false
is_other Digit = false
is_other Separator = false
is_other Other = true

-- 02, T-05: what a byte of a class is; a letter is a small letter or a capital
unfoldable pub by_class : Class → ByteIs
by_class k = record { letter = is_small k || is_capital k; digit = is_digit k; separator = is_separator k; none = is_other k; capital = is_capital k }

-- 1 for a letter, and for a digit
abbrev pub letter_of : Class → ℕ
letter_of Small = 1
letter_of Capital = 1
letter_of Digit = 0
letter_of Separator = 0
letter_of Other = 0

abbrev pub digit_of : Class → ℕ
digit_of Small = 0
digit_of Capital = 0
digit_of Digit = 1
digit_of Separator = 0
digit_of Other = 0

-- in lower case; a separator is '-'
unfoldable pub normal_byte : ℕ → ℕ
normal_byte b = cond (separator b) 45 (lower_byte b)

-- the first so many bytes as capitals: one for a script, all for a region
unfoldable pub cased : ℕ → Tag → Tag
cased zero t = t
cased (suc n) [] = []
cased (suc n) (b ∷ bs) = upper_byte b ∷ cased n bs

-- the byte at an index, of which the first so many are capitals
unfoldable pub cased_byte : ℕ → ℕ → ℕ → ℕ
cased_byte i n b = cond (ltb i n) (upper_byte b) b
