-- The walk of parents that the check takes, over texts: each text is a part of the table.
-- Assumes nothing.
use Rattle.std.specs.Prelude.{◌≡◌, Bool, true, false, List, [], ◌∷◌, ◌++◌, ℕ, ◌-◌, ◌≤◌, ◌<◌, eqb, length, take, drop}
use Rattle.std.proofs.Math.Option.{Option as Maybe, none, some}
use Rattle.standard.specs.Identifier.{three, und}
use Rattle.standard.specs.Chain.{line, shorter, parent, reaches}
use Rattle.standard.specs.Table.{parse, is_three, tables_of}
use Rattle.standard.specs.Tag.{All}
use Rattle.byte_string.specs.Strings.{end_of}
use Rattle.table.specs.Lines.{starts}

-- the text from at to end
abbrev pub cut : List ℕ → ℕ → ℕ → List ℕ
cut p at end = take (end - at) (drop at p)

-- language, perhaps script, perhaps region, without a tab
pub record ValueOk (v : List ℕ) : Type 0 where
  pub three : is_three v ≡ true
  pub free : All (λ (b : ℕ). eqb b 9 ≡ false) v

-- the row from i to the end of its line at e, whose key ends at the tab k
pub record OwnRow (p : List ℕ) (i k e : ℕ) : Type 0 where
  pub line : e ≡ end_of 10 p i
  pub low : i ≤ k
  pub tab : k < e
  pub high : e ≤ length p
  pub key : ValueOk (cut p i k)
  pub begins : starts (cut p i k ++ (9 ∷ [])) (cut p i e) ≡ true

-- what drops the last subtag: a text, or nothing for a language alone
unfoldable pub ShorterIs : List ℕ → Maybe (List ℕ) → Type 0
ShorterIs x none = shorter (parse x) ≡ three und [] []
ShorterIs x (some y) = ValueOk y × (shorter (parse x) ≡ parse y)

-- what finds the parent: a text, or nothing where it is `und` with no row
unfoldable pub ParentIs : List ℕ → List ℕ → Maybe (List ℕ) → Type 0
ParentIs p x none = parent (tables_of [] [] p) (line (parse x) []) ≡ line (three und [] []) []
ParentIs p x (some y) = ValueOk y × (parent (tables_of [] [] p) (line (parse x) []) ≡ line (parse y) [])

-- the walk from a text is at und within so many steps
unfoldable pub reaches_from : List ℕ → ℕ → List ℕ → Bool
reaches_from p n x = reaches (tables_of [] [] p) n (line (parse x) [])
