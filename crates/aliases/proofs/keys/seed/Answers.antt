-- `aliases::keys::seed` meets its contract, kind by kind. Assumes nothing.
use native.Mathlib.Omega.{arith}
use mathlib.Core.Path.{refl}
use Rattle.table.specs.Hints.{slot_step, slot_from, slot_of}
use Rattle.aliases.specs.Keys.{kind_key}
use Rattle.aliases.proofs.Slots.{seed-is}
use Rattle.aliases.proofs.keys.seed.Goals as goal

pub returns-in-Language : goal.returns-in-Language
unfolding slot_of slot_from slot_step kind_key
returns-in-Language c = seed-is _ _ c.in-Language.is refl (omega arith)

pub returns-in-Script : goal.returns-in-Script
unfolding slot_of slot_from slot_step kind_key
returns-in-Script c = seed-is _ _ c.in-Script.is refl (omega arith)

pub returns-in-Region : goal.returns-in-Region
unfolding slot_of slot_from slot_step kind_key
returns-in-Region c = seed-is _ _ c.in-Region.is refl (omega arith)

pub returns-in-Variant : goal.returns-in-Variant
unfolding slot_of slot_from slot_step kind_key
returns-in-Variant c = seed-is _ _ c.in-Variant.is refl (omega arith)
