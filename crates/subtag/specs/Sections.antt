-- Sections: subtags, each with its separator before it; a part of an identifier, or of its canonical form.
-- Assumes nothing.
use Rattle.std.specs.Prelude.{◌≡◌, List, [], ◌∷◌, ◌++◌, ℕ}
use Rattle.standard.specs.Tag.{Tag, head_tag}
use Rattle.standard.specs.Reading.{split, after_first}
use Rattle.subtag.specs.Subtags.{PlainTag}

-- the subtags of a section, and a section of subtags
unfoldable pub tags_of : List ℕ → List Tag
tags_of s = after_first (split s)

unfoldable pub led : List Tag → List ℕ
led [] = []
led (t ∷ ts) = 45 ∷ (t ++ led ts)

-- empty, or begins with a separator
unfoldable pub Led : List ℕ → Type 0
Led s = head_tag (split s) ≡ []

-- each subtag has 1 to 8 bytes, none of them 0 or 255
unfoldable pub Plain : List Tag → Type 0
Plain [] = Unit {0}
Plain (t ∷ ts) = PlainTag t × Plain ts
