-- Language, script and region of the canonical form, by the places of their bytes in the input and in the value of the
-- language's alias. Assumes nothing.
use Rattle.std.specs.Prelude.{cond, List, [], ◌++◌, map, ℕ, ◌+◌, ◌-◌, ltb, eqb, length, take, drop}
use Rattle.standard.specs.Tag.{pick}
use Rattle.standard.specs.Identifier.{Three, part, aliased}
use Rattle.standard.specs.Reading.{split, identifier_of}
use Rattle.standard.specs.Table.{lookup, rows, language_key, tables_of}
use Rattle.subtag.specs.Bytes.{normal_byte, cased}
use Rattle.canonical.specs.declared.lsr.Ends.{Ends}
use Rattle.aliases.specs.Replaced.{replaced_by, aliased_part}

-- where the three end when they are printed
unfoldable pub ends_of : Three → Ends
ends_of t = record {
  language = length t.language;
  script = length t.language + part t.script;
  region = length t.language + part t.script + part t.region;
}

-- the bytes from one place to another
abbrev pub between : List ℕ → ℕ → ℕ → List ℕ
between x from to = take (to - from) (drop from x)

-- the start of the subtag whose part goes from at to end: behind its separator, where there is one
unfoldable pub after_separator : ℕ → ℕ → ℕ
after_separator at end = cond (ltb at end) (at + 1) end

-- the start of the script: where the language is empty, the script is the first subtag
unfoldable pub script_start : ℕ → ℕ → ℕ
script_start language script = cond (eqb language 0) 0 (after_separator language script)

-- a subtag of a kind with its separator: the one given, else the one in the value w, then through the aliases
unfoldable pub part_bytes : List ℕ → List ℕ → ℕ → List ℕ → ℕ → ℕ → List ℕ → ℕ → ℕ → List ℕ
part_bytes A name count x start end w from to =
    aliased_part A name (pick (cased count (map normal_byte (between x start end))) (between w (after_separator from to) to))

-- the key of the lookup of the identifier's language
unfoldable pub language_lookup : List ℕ → List ℕ
language_lookup x = language_key ++ (identifier_of (split x)).core.language

-- the alias of the identifier's language, or the language itself
unfoldable pub language_word : List ℕ → List ℕ → List ℕ
language_word A x = replaced_by (lookup (rows A) (language_lookup x)) (identifier_of (split x)).core.language

-- the three of the canonical form
unfoldable pub canonical_three : List ℕ → List ℕ → Three
canonical_three A x = aliased (tables_of A [] []) (identifier_of (split x)).core
