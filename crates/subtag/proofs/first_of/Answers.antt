-- `subtag::first_of` meets its contract. Assumes nothing.
use native.Mathlib.Omega.{arith}
use mathlib.Core.Path.{sym, ◌∙◌}
use Rattle.subtag.proofs.Scanning as scanning
use Rattle.subtag.proofs.first_of.Goals as goal

pub returns-in-len1-up : goal.returns-in-len1-up
returns-in-len1-up c = c.lower.ensures ∙ scanning.first_byte_lem _ (omega arith) (sym c.is_separator.ensures ∙ c.if-not-is_separator.true)

pub returns-in_default : goal.returns-in_default
returns-in_default c = scanning.first-none _ (omega arith)

pub returns-in_default-2 : goal.returns-in_default-2
returns-in_default-2 c = scanning.first-sep _ (omega arith) (sym c.is_separator.ensures ∙ c.if-not-is_separator.false)
