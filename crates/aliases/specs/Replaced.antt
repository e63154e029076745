-- What an alias table makes of one subtag, by the key of its lookup. Assumes nothing.
use Rattle.std.specs.Prelude.{List, [], ◌∷◌, ◌++◌, ℕ}
use Rattle.std.proofs.Math.Option.{Option, none, some}
use Rattle.standard.specs.Tag.{Tag}
use Rattle.standard.specs.Reading.{optional}
use Rattle.standard.specs.Table.{lookup, rows}
use Rattle.subtag.specs.Sections.{led}

-- a row's value in place of the subtag
unfoldable pub replaced_by : Option (List ℕ) → Tag → Tag
replaced_by none t = t
replaced_by (some v) t = v

-- a subtag with its separator, replaced by the row whose key is the kind's name and the subtag; nothing for an absent one
unfoldable pub aliased_part : List ℕ → List ℕ → Tag → List ℕ
aliased_part A name [] = []
aliased_part A name (b ∷ bs) = led (optional (replaced_by (lookup (rows A) (name ++ (b ∷ bs))) (b ∷ bs)))
