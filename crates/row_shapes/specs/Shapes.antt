-- Subtags in canonical case, by their bytes and places. Each definition equals the standard's (proofs/).
-- Assumes nothing.
use Rattle.std.specs.Prelude.{◌≡◌, Bool, true, false, cond, ◌&&◌, List, [], ◌∷◌, ℕ, suc, ◌+◌, ◌-◌, ◌≤◌, ◌<◌, ltb, leb, eqb, length, take, drop, get_or, Option, Some, None}
use Rattle.standard.specs.Tag.{Tag}
use Rattle.standard.specs.Grammar.{small, capital, digit, title, upper, a_script, a_region}
use Rattle.standard.specs.Identifier.{three}
use Rattle.standard.specs.Table.{in_canonical_case, pieces, is_three, parse}
use Rattle.row_shapes.specs.declared.lsr.Three.{Three}
use Rattle.row_shapes.specs.declared.lsr.Front.{Front}

-- a script is 4 letters, the first a capital; a region 2 capitals or 3 digits
unfoldable pub is_script : Tag → Bool
is_script t = in_canonical_case a_script title t

unfoldable pub is_region : Tag → Bool
is_region t = in_canonical_case a_region upper t

-- what stands between the places a and b, of which a is a separator's
abbrev pub between : List ℕ → ℕ → ℕ → List ℕ
between s a b = take (b - (a + 1)) (drop (a + 1) s)

-- the pieces after the one that ends at e
unfoldable pub others : ℕ → List ℕ → ℕ → List Tag
others b s e = cond (ltb e (length s)) (pieces b (drop (suc e) s)) []

-- how many bytes at the front are of a kind
unfoldable pub run : (ℕ → Bool) → List ℕ → ℕ
run p [] = 0
run p (b ∷ s) = elim (p b) [ true ↦ suc (run p s) | false ↦ 0 ]

-- the length of the language at the front, or 0
unfoldable pub language_len : List ℕ → ℕ
language_len s = cond (ltb (run small s) 2) 0 (cond (eqb (run small s) 4) 0 (cond (ltb 8 (run small s)) 0 (run small s)))

-- the length of a separator and a script at the front, or 0
unfoldable pub script_len : List ℕ → ℕ
script_len s = cond (eqb (get_or s 0 0) 45) (cond (capital (get_or s 1 0)) (cond (eqb (run small (drop 2 s)) 3) 5 0) 0) 0

-- the length of a separator and a region at the front, or 0
unfoldable pub region_len : List ℕ → ℕ
region_len s = cond (eqb (get_or s 0 0) 45) (cond (eqb (run capital (drop 1 s)) 2) 3 (cond (eqb (run digit (drop 1 s)) 3) 4 0)) 0

-- the end of the script in such a text of so many bytes whose language ends at e: a region is shorter than a script
unfoldable pub script_end : ℕ → ℕ → ℕ
script_end e len = cond (leb (e + 5) len) (e + 5) e

-- behind the place e is nothing, or a region
unfoldable pub no_more : List Tag → Bool
no_more [] = true
no_more (t ∷ ts) = false

unfoldable pub region_tail : List Tag → Bool
region_tail [] = true
region_tail (r ∷ ts) = is_region r && no_more ts

-- s is language, perhaps script, perhaps region, and language and script end there
pub record ThreeAt (s : List ℕ) (r : Three) : Type 0 where
  pub is : is_three s ≡ true
  pub low : r.language ≤ r.script
  pub high : r.script ≤ length s
  pub parts : parse s ≡ three (take r.language s) (between s r.language r.script) (drop (r.script + 1) s)

-- whether s is that
abbrev pub ThreeIs : List ℕ → Option Three → Type 0
ThreeIs s None = is_three s ≡ false
ThreeIs s (Some r) = ThreeAt s r

-- The same three at the front of s. Such a text with nothing behind it, or a byte below `-` as a tab or 0A, is read whole.
pub record WholeAt (s : List ℕ) (f : ℕ) : Type 0 where
  pub room : f ≤ length s
  pub low : get_or s f 0 < 45
  pub three : is_three (take f s) ≡ true

-- where they end
pub record FrontAt (s : List ℕ) (r : Front) : Type 0 where
  pub low : r.language ≤ r.script
  pub mid : r.script ≤ r.end
  pub high : r.end ≤ length s
  pub is : is_three (take r.end s) ≡ true
  pub parts : parse (take r.end s) ≡ three (take r.language s) (between s r.language r.script) (between s r.script r.end)
  pub whole : (f : ℕ) → WholeAt s f → f ≡ r.end

-- whether there are such
abbrev pub FrontIs : List ℕ → Option Front → Type 0
FrontIs s None = (f : ℕ) → WholeAt s f → ⊥
FrontIs s (Some r) = FrontAt s r
