-- What the code keeps of a subtag, its number among that; and subtags of 1 to 8 bytes.
-- Assumes nothing.
use Rattle.std.specs.Prelude.{Bool, cond, [], ◌∷◌, ℕ, zero, suc, ◌+◌, ◌*◌, ◌^◌, ◌≤◌, ◌<◌, length}
use Rattle.standard.specs.Tag.{Tag}
use Rattle.standard.specs.Grammar.{small, digit}
use Rattle.subtag.specs.declared.Subtag.{Subtag}

-- how many bytes pass the test
unfoldable pub count : (ℕ → Bool) → Tag → ℕ
count p [] = 0
count p (b ∷ bs) = cond (p b) 1 0 + count p bs

-- the first byte, or 0
unfoldable pub first_byte : Tag → ℕ
first_byte [] = 0
first_byte (b ∷ bs) = b

-- The number of a subtag: its bytes, the first one highest, in a number of so many bytes.
unfoldable pub packed : ℕ → Tag → ℕ
packed zero t = 0
packed (suc n) [] = 0
packed (suc n) (b ∷ bs) = b * 256 ^ n + packed n bs

-- in eight bytes
unfoldable pub key_of : Tag → ℕ
key_of t = packed 8 t

-- all that the code keeps
unfoldable pub subtag_of : Tag → Subtag
subtag_of t = record { len = length t; letters = count small t; digits = count digit t; first = first_byte t; key = key_of t }

-- of 1 to 8 bytes, each within a range that leaves out 0 and 255
unfoldable pub PlainBytes : Tag → Type 0
PlainBytes [] = Unit {0}
PlainBytes (b ∷ bs) = (0 < b) × (b < 255) × PlainBytes bs

-- a subtag of 1 to 8 such bytes
unfoldable pub PlainTag : Tag → Type 0
PlainTag t = (0 < length t) × (length t ≤ 8) × PlainBytes t
