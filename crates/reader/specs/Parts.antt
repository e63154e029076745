-- What `read_parts` gives back, and what it is to give: for each of the answer's cases the number and place that documents 01
-- and 02 give it.
-- Assumes nothing.
use Rattle.std.specs.Prelude as code
use Rattle.std.specs.Prelude.{true, false, List, ℕ, ◌+◌, length, Result, Ok, Err, Some, None}
use Rattle.std.proofs.Math.Option.{Option, none, some}
use Rattle.standard.specs.Tag.{Tag, same, head_tag}
use Rattle.standard.specs.Grammar.{is_language}
use Rattle.standard.specs.Reading.{root, Fault, fault, split, fault_of, identifier_of}
use Rattle.standard.specs.Report.{private_count}
use Rattle.reader.specs.declared.Start.{Start}
use Rattle.reader.specs.declared.Start.TheVariants.{Language, Script, Root}
use Rattle.reader.specs.declared.Parts.{Parts}
use Rattle.reader.specs.declared.Refusal.{Refusal}
use Rattle.reader.specs.declared.Refusal.TheVariants.{Empty, TooLong, BadByte, BadSize, MisplacedFirst, MisplacedLater, MisplacedExtension, Repeated, Unfinished}
use Rattle.reader.specs.Cuts.{cuts_of}

-- what a first subtag is, where it can stand
unfoldable pub start_of : Tag → Start
start_of t = elim (is_language t) [ true ↦ Language | false ↦ elim (same t root) [ true ↦ Root | false ↦ Script ] ]

-- the parts of an accepted identifier, by its subtags in lower case
unfoldable pub parts_of : List Tag → Parts
parts_of ts =
    let c = cuts_of ts in
    let i = identifier_of ts in
    record {
      start = start_of (head_tag ts);
      language = c.language;
      script = c.script;
      region = c.region;
      variants = c.variants;
      extensions = c.extensions;
      variant_count = length i.variants;
      extension_count = length i.extensions + private_count i.private;
    }

pub data Outcome : Type 0 where
  parts : Parts → Outcome
  refused : ℕ → ℕ → Outcome

-- 01, Numbers given back; 02, T-03: the fault that each refusal of reading is
abbrev pub fault_is : Refusal → Fault
fault_is Empty = record { number = 1; place = 0 }
fault_is TooLong = record { number = 2; place = 0 }
fault_is (BadByte at) = record { number = 3; place = at }
fault_is (BadSize at) = record { number = 4; place = at }
fault_is (MisplacedFirst at) = record { number = 5; place = at }
fault_is (MisplacedLater at) = record { number = 15; place = at }
fault_is (MisplacedExtension at) = record { number = 16; place = at }
fault_is (Repeated at) = record { number = 6; place = at }
fault_is (Unfinished at) = record { number = 7; place = at }

-- each case of the answer
unfoldable pub outcome_of : Result Parts Refusal → Outcome
outcome_of (Ok p) = parts p
outcome_of (Err r) = refused (fault_is r).number (fault_is r).place

unfoldable pub outcome_as : Option Fault → Parts → Outcome
outcome_as none p = parts p
outcome_as (some f) p = refused f.number f.place

-- what reading the bytes has to give
unfoldable pub outcome : List ℕ → Outcome
outcome x = outcome_as (fault_of x) (parts_of (split x))

-- a place found, as the fault of this number
unfoldable pub found_as : ℕ → code.Option ℕ → Option Fault
found_as n (Some at) = fault n at
found_as n None = none
