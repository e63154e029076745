-- Language, script and region as parts of bytes: script and region each with its separator in front, empty where absent.
-- So a key of the likely table is its parts, one after the other. Assumes nothing.
use Rattle.std.specs.Prelude.{Bool, true, false, cond, not, ◌&&◌, [], ◌∷◌, ◌++◌, ℕ, ◌+◌, ◌-◌, ◌≤◌, eqb, length, drop, take}
use Rattle.std.proofs.Math.Option.{Option, none, some}
use Rattle.standard.specs.Tag.{Tag, same, present, pick, text}
use Rattle.standard.specs.Identifier.{Three, und}
use Rattle.standard.specs.Delivery.{Bytes}
use Rattle.standard.specs.Table.{lookup, rows}
use Rattle.table.specs.Hints.{Indexed}

-- an optional subtag with its separator
unfoldable pub led_part : Tag → Bytes
led_part [] = []
led_part (b ∷ bs) = 45 ∷ b ∷ bs

-- Language, script and region as bytes.
pub record Parts : Type 0 where
  pub language : Bytes
  pub script : Bytes
  pub region : Bytes

-- the parts of the three
unfoldable pub parts_of : Three → Parts
parts_of t = record { language = t.language; script = led_part t.script; region = led_part t.region }

-- one after the other: the key of a lookup
unfoldable pub joined_parts : Parts → Bytes
joined_parts p = p.language ++ (p.script ++ p.region)

-- 01, Maximising: script `Zzzz` and region `ZZ` are removed.
unfoldable pub known_part : Bytes → Bytes → Bytes
known_part unknown p = cond (same p unknown) [] p

-- the parts without `Zzzz` and `ZZ`
unfoldable pub known_parts : Parts → Parts
known_parts p = record {
  language = p.language;
  script = known_part (text "-Zzzz") p.script;
  region = known_part (text "-ZZ") p.region;
}

-- nothing is missing: the language is not `und`, and script and region are there
unfoldable pub complete_parts : Parts → Bool
complete_parts p = not (same p.language und) && (present p.script && present p.region)

-- the first that was found
unfoldable pub or_value : Option Bytes → Option Bytes → Option Bytes
or_value none o = o
or_value (some v) o = some v

-- how many bytes the parts have
abbrev pub parts_length : Parts → ℕ
parts_length p = length p.language + length p.script + length p.region

-- parts that have room in a key
abbrev pub HasRoom : Parts → Type 0
HasRoom p = parts_length p ≤ 32

-- A table whose rows ascend, with its hints, and parts that have room in a key: then a search finds what the standard's
-- lookup finds.
pub record Ready (L hints : Bytes) (p : Parts) : Type 0 where
  pub indexed : Indexed L hints
  pub short : HasRoom p

-- where language-script-region has no row: the first of language-script, language-region, language that has one
unfoldable pub shorter_value : Bytes → Parts → Option Bytes
shorter_value L p =
    or_value (lookup (rows L) (p.language ++ p.script)) (or_value (lookup (rows L) (p.language ++ p.region)) (lookup (rows L) p.language))

-- 01, Maximising: the value of the first row: language-script-region, language-script, language-region, language. A missing
-- part is empty, so that a form which names it is one of the others again.
unfoldable pub row_value : Bytes → Parts → Option Bytes
row_value L p = or_value (lookup (rows L) (p.language ++ (p.script ++ p.region))) (shorter_value L p)

-- the place of the first `-` at or after a place, or the length
unfoldable pub dash_from : ℕ → Bytes → ℕ
dash_from at [] = at
dash_from at (b ∷ bs) = elim (eqb b 45) [ true ↦ at | false ↦ dash_from (at + 1) bs ]

-- the same, in a value
unfoldable pub dash : Bytes → ℕ → ℕ
dash v at = dash_from at (drop at v)

-- the parts of a value, cut before its first two `-`
unfoldable pub cut_parts : Bytes → Parts
cut_parts v =
    let a = dash v 0 in
    let b = dash v (a + 1) in
    record { language = take a v; script = take (b - a) (drop a v); region = drop b v }

-- the language, or the other where it is `und`
unfoldable pub language_of : Bytes → Bytes → Bytes
language_of l v = cond (same l und) v l

-- 01, Maximising: each of the three from the identifier where present and not `und`, else from the row.
unfoldable pub over_parts : Parts → Parts → Parts
over_parts p v = record {
  language = language_of p.language v.language;
  script = pick p.script v.script;
  region = pick p.region v.region;
}

-- the parts completed by a row's value, where there is a row
unfoldable pub over_value : Parts → Option Bytes → Option Parts
over_value p none = none
over_value p (some v) = some (over_parts p (cut_parts v))

-- the maximised parts of canonical ones
unfoldable pub fill_parts : Bytes → Parts → Option Parts
fill_parts L p = cond (complete_parts p) (some p) (over_value p (row_value L p))

-- 01, Minimising: a trial, and whether its maximised form has the script and region of m, with its language
unfoldable pub fits_value : Parts → Parts → Option Bytes → Bool
fits_value m p none = false
fits_value m p (some v) = same (pick p.script (cut_parts v).script) m.script && same (pick p.region (cut_parts v).region) m.region

-- by the first row for the trial
unfoldable pub fits_parts : Bytes → Parts → Parts → Bool
fits_parts L m p = fits_value m p (row_value L p)

-- parts, of these bytes
abbrev pub parts3 : Bytes → Bytes → Bytes → Parts
parts3 l s r = record { language = l; script = s; region = r }

-- 01, Minimising: the first trial that has the script and region of m, or m
unfoldable pub minimal_parts : Bytes → Parts → Parts
minimal_parts L m =
    let l = parts3 m.language [] [] in
    let lr = parts3 m.language [] m.region in
    let ls = parts3 m.language m.script [] in
    cond (fits_parts L m l) l (cond (fits_parts L m lr) lr (cond (fits_parts L m ls) ls m))
