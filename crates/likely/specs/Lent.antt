-- The parts that lent parts stand for. Assumes nothing.
use Rattle.std.specs.Prelude.{Option, Some, None}
use Rattle.std.proofs.Math.Option.{Option as Maybe, none, some}
use Rattle.likely.specs.Parts.{Parts}
use Rattle.likely.specs.declared.parts.Parts.{Parts as Lent}

abbrev pub parts_is : Lent → Parts
parts_is p = record { language = p.language.now; script = p.script.now; region = p.region.now }

-- completed parts, or none
abbrev pub filled_is : Option Lent → Maybe Parts
filled_is None = none
filled_is (Some p) = some (parts_is p)
