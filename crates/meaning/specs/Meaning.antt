-- The words for the numbers of an answer, the same wherever a number is told. Assumes nothing.
use Rattle.std.specs.Prelude.{cond, List, ℕ, eqb}
use Rattle.standard.specs.Tag.{text}

-- the bytes of a text
abbrev pub Bytes : Type 0
Bytes = List ℕ

-- the words of a number with which reading refuses, 1 to 7, 15, 16; of any other, that there is no such number
unfoldable pub refusal_of : ℕ → Bytes
refusal_of n =
    cond (eqb n 1) (text "no bytes")
    (cond (eqb n 2) (text "over 255 bytes")
    (cond (eqb n 3) (text "a byte that is no letter, digit, - or _")
    (cond (eqb n 4) (text "a subtag of 0 or over 8 bytes")
    (cond (eqb n 5) (text "a first subtag that is no language, script or root")
    (cond (eqb n 6) (text "a repeated singleton, variant or t key")
    (cond (eqb n 7) (text "a singleton or t key with nothing behind it")
    (cond (eqb n 15) (text "a subtag that can't stand there, before any extension")
    (cond (eqb n 16) (text "a subtag that can't stand there, in an extension")
    (text "no such number")))))))))

-- the words of a number: 0, why a form (8, 9), an output (10), a table (11 to 14) or a bill (17, 18) is refused, and reading's
unfoldable pub meaning_of : ℕ → Bytes
meaning_of n =
    cond (eqb n 0) (text "done")
    (cond (eqb n 8) (text "no row of the likely table fits it")
    (cond (eqb n 9) (text "its canonical or maximised form is over 255 bytes")
    (cond (eqb n 10) (text "the output is too short")
    (cond (eqb n 11) (text "a table over 32,768 bytes")
    (cond (eqb n 12) (text "a row of wrong shape")
    (cond (eqb n 13) (text "a row not above the one before")
    (cond (eqb n 14) (text "a row that clashes with another")
    (cond (eqb n 17) (text "over 512 keys")
    (cond (eqb n 18) (text "over 1,000,000 lines")
    (refusal_of n))))))))))
