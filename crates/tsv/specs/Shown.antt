-- Bytes of unknown origin as they are shown on a terminal. Assumes nothing.
use Rattle.std.specs.Prelude.{Bool, cond, not, ◌&&◌, [], ◌∷◌, ◌++◌, ℕ, ◌+◌, ◌/◌, ◌%◌, eqb, leb, ltb, length, take}
use Rattle.standard.specs.Tag.{text}
use Rattle.tsv.specs.Fields.{Bytes}

-- whether a byte stands for itself: 20 to 7E, but `\`
unfoldable pub plain : ℕ → Bool
plain b = leb 32 b && (leb b 126 && not (eqb b 92))

-- a hex digit: 0 to 9, A to F
unfoldable pub hex : ℕ → ℕ
hex n = cond (ltb n 10) (48 + n) (55 + n)

-- a byte as a terminal may be given it: itself, or `\xNN`
unfoldable pub safe_byte : ℕ → Bytes
safe_byte b = cond (plain b) (b ∷ []) (92 ∷ 120 ∷ hex (b / 16) ∷ hex (b % 16) ∷ [])

-- bytes as a terminal may be given them
unfoldable pub safe : Bytes → Bytes
safe [] = []
safe (b ∷ x) = safe_byte b ++ safe x

-- what follows the first bytes that are shown: `...` where there are more
unfoldable pub dots : ℕ → Bytes → Bytes
dots most x = cond (leb (length x) most) [] (text "...")

-- A text safe for a terminal: its first bytes, at most so many; `-` where it has none.
unfoldable pub shown : ℕ → Bytes → Bytes
shown most [] = text "-"
shown most (b ∷ x) = safe (take most (b ∷ x)) ++ dots most (b ∷ x)
