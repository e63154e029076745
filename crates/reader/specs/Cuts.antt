-- Where the parts of an identifier end in its bytes. A part begins where the part before it ends, so that each subtag
-- but the first has its separator in front; private use goes from the end of the extensions to the end of the input.
-- Assumes nothing.
use Rattle.std.specs.Prelude.{true, false, List, ℕ, ◌+◌, length}
use Rattle.standard.specs.Tag.{Tag, same, head_tag}
use Rattle.standard.specs.Grammar.{a_script, a_region, is_language, is_variant, is_singleton, grouped, flat, only}
use Rattle.standard.specs.Identifier.{part, parts}
use Rattle.standard.specs.Reading.{is_x, up_to, root, find, after_first}

pub record Cuts : Type 0 where
  pub language : ℕ
  pub script : ℕ
  pub region : ℕ
  pub variants : ℕ
  pub extensions : ℕ

-- a first subtag that is a script leaves the language empty; `root` stands where the language does
unfoldable pub language_cut : Tag → ℕ
language_cut t = elim (is_language t) [ true ↦ length t | false ↦ elim (same t root) [ true ↦ length t | false ↦ 0 ] ]

-- the cuts of a language part: its first subtag, the others, and the length of what stands behind it
unfoldable pub cuts_after : Tag → List Tag → ℕ → Cuts
cuts_after first others behind =
    let script = length first + part (find a_script others) in
    let region = script + part (find a_region others) in
    let variants = region + parts (only is_variant others) in
    record { language = language_cut first; script = script; region = region; variants = variants; extensions = variants + behind }

-- of the subtags in lower case
unfoldable pub cuts_of : List Tag → Cuts
cuts_of ts = let g = grouped is_singleton (up_to is_x ts) in cuts_after (head_tag g.before) (after_first g.before) (parts (flat g.groups))
