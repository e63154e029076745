-- A set of places as the bits of a number: one place for each singleton. Assumes nothing.
use Rattle.std.specs.Prelude.{ℕ, zero, suc, ◌-◌, ◌/◌, ◌%◌, ◌^◌, Bool, true, false, ◌||◌, List, [], ◌∷◌, eqb, Option, Some, None}
use Rattle.std.specs.Int.Bits.{bit_or}
use Rattle.subtag.specs.declared.Class.{Class}
use Rattle.subtag.specs.declared.Class.TheVariants.{Small, Capital, Digit, Separator, Other}
use Rattle.subtag.specs.Bytes.{class_of}

-- the place of a byte of a class: digits first, then letters
unfoldable pub place_as : Class → ℕ → ℕ
place_as Small b = b - 87
place_as Capital b = b - 55
place_as Digit b = b - 48
place_as Separator b = 36
place_as Other b = 36

unfoldable pub place_of : ℕ → ℕ
place_of b = place_as (class_of b) b

-- the bit of n at p, lowest first
unfoldable pub bit : ℕ → ℕ → ℕ
bit n zero = n % 2
bit n (suc p) = bit (n / 2) p

-- p is one of the places l
unfoldable pub has : List ℕ → ℕ → Bool
has [] p = false
has (x ∷ l) p = eqb x p || has l p

-- the marks after a singleton, unless it is marked already
unfoldable pub marked_with : ℕ → ℕ → Option ℕ
marked_with set b = elim (eqb (bit set (place_of b)) 1) [ true ↦ None | false ↦ Some (bit_or set (2 ^ place_of b)) ]
