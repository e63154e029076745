-- How an input is written, by its first bytes. Assumes nothing.
use Rattle.std.specs.Prelude.{Bool, false, cond, ◌&&◌, ◌||◌, List, [], ◌∷◌, ℕ, eqb, ltb}
use Rattle.byte_string.specs.Strings.{end_of}
use Rattle.encoding.specs.declared.Front.{Front}
use Rattle.encoding.specs.declared.Front.TheVariants.{Plain, ByteOrderMark, Utf16}
use Rattle.encoding.specs.declared.Ending.{Ending}
use Rattle.encoding.specs.declared.Ending.TheVariants.{Lf, CrLf, Cr}

-- bytes of an input
abbrev pub Bytes : Type 0
Bytes = List ℕ

-- EF BB BF in front
unfoldable pub marked : Bytes → Bool
marked [] = false
marked (a ∷ []) = false
marked (a ∷ b ∷ []) = false
marked (a ∷ b ∷ c ∷ x) = eqb a 239 && (eqb b 187 && eqb c 191)

-- FF FE or FE FF, or one of the two is 00
unfoldable pub wide_pair : ℕ → ℕ → Bool
wide_pair a b = eqb a 0 || (eqb b 0 || ((eqb a 255 && eqb b 254) || (eqb a 254 && eqb b 255)))

-- in front
unfoldable pub wide : Bytes → Bool
wide [] = false
wide (a ∷ []) = eqb a 0
wide (a ∷ b ∷ x) = wide_pair a b

-- a byte order mark or UTF-16, the first that applies
unfoldable pub front_of : Bytes → Front
front_of x = cond (marked x) ByteOrderMark (cond (wide x) Utf16 Plain)

-- whether the first 0A stands behind CR, where the byte in front of all is b
unfoldable pub behind_return : ℕ → Bytes → Bool
behind_return b [] = false
behind_return b (c ∷ x) = cond (eqb c 10) (eqb b 13) (behind_return c x)

-- the first line ends in CR before its 0A
unfoldable pub ends_in_return : Bytes → Bool
ends_in_return x = behind_return 0 x

-- a CR stands before the first 0A, if there is one
unfoldable pub has_return : Bytes → Bool
has_return x = ltb (end_of 13 x 0) (end_of 10 x 0)

-- CR LF or CR, the first that applies
unfoldable pub ending_of : Bytes → Ending
ending_of x = cond (ends_in_return x) CrLf (cond (has_return x) Cr Lf)
