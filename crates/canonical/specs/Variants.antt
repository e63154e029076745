-- Variants through the aliases, before they are sorted. Assumes nothing.
use Rattle.std.specs.Prelude.{◌≡◌, true, List, [], ◌∷◌, ◌++◌, ℕ}
use Rattle.standard.specs.Tag.{Tag}
use Rattle.standard.specs.Table.{variant_key, is_variant_tag}
use Rattle.aliases.specs.Replaced.{aliased_part}

-- each variant replaced, with its separator
unfoldable pub resolved : List ℕ → List Tag → List ℕ
resolved A [] = []
resolved A (t ∷ ts) = aliased_part A variant_key t ++ resolved A ts

-- each is a variant of small letters and digits
unfoldable pub EachVariant : List Tag → Type 0
EachVariant [] = Unit {0}
EachVariant (t ∷ ts) = (is_variant_tag t ≡ true) × EachVariant ts
