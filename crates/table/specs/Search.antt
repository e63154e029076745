-- Sorted tables and where a search by halves lands.
-- Assumes nothing.
use Rattle.std.specs.Prelude.{◌≡◌, Bool, true, false, cond, not, List, [], ◌∷◌, ◌++◌, ℕ, ◌≤◌, ltb, length, drop, get_or}
use Rattle.standard.specs.Table.{Found as Located, located, located_from}
use Rattle.byte_string.specs.Strings.{end_of}
use Rattle.table.specs.Lines.{lines}

-- a comes before b, by unsigned bytes from the front; a proper front comes first
unfoldable pub below : List ℕ → List ℕ → Bool
below a [] = false
below [] (y ∷ b) = true
below (x ∷ a) (y ∷ b) = cond (ltb x y) true (cond (ltb y x) false (below a b))

-- l, and then ls, ascend strictly
unfoldable pub ascend_from : List ℕ → List (List ℕ) → Bool
ascend_from l [] = true
ascend_from l (m ∷ ls) = cond (below l m) (ascend_from m ls) false

unfoldable pub ascend : List (List ℕ) → Bool
ascend [] = true
ascend (l ∷ ls) = ascend_from l ls

-- a line starts at m: it is the table's start, or a 0A stands before it
abbrev pub Opens : List ℕ → ℕ → Type 0
Opens t m = get_or (10 ∷ t) m 0 ≡ 10

-- whole lines, strictly ascending
pub record Sorted (t : List ℕ) : Type 0 where
  pub ended : Opens t (length t)
  pub up : ascend (lines t) ≡ true

-- the answer from the lines from i on
unfoldable pub row_from : List ℕ → List ℕ → ℕ → Located
row_from t key i = located_from i (lines (drop i t)) key

-- the first line is not below p
unfoldable pub not_below : List ℕ → List (List ℕ) → Bool
not_below p [] = true
not_below p (l ∷ ls) = not (below l p)

-- what line_start gives: the start of the line that `from` is in, and not before lo
pub record LineStart (t : List ℕ) (lo from r : ℕ) : Type 0 where
  pub low : lo ≤ r
  pub high : r ≤ from
  pub opens : Opens t lo → Opens t r
  pub ends : end_of 10 t r ≡ end_of 10 t from

-- i is where the row is, if there is one
pub record Landed (t key : List ℕ) (i : ℕ) : Type 0 where
  pub seen : located t key ≡ row_from t key i
  pub up : ascend (lines (drop i t)) ≡ true
  pub rest : not_below (key ++ (9 ∷ [])) (lines (drop i t)) ≡ true

-- the row is at or after lo, and before hi or right there
pub record Span (t key : List ℕ) (lo hi : ℕ) : Type 0 where
  pub low : lo ≤ hi
  pub from : Opens t lo
  pub to : Opens t hi
  pub seen : located t key ≡ row_from t key lo
  pub up : ascend (lines (drop lo t)) ≡ true
  pub rest : not_below (key ++ (9 ∷ [])) (lines (drop hi t)) ≡ true
