-- `subtag::is_language` meets its contract. Assumes nothing.
use native.Mathlib.Omega.{arith}
use mathlib.Core.Path.{◌∙◌}
use Rattle.subtag.proofs.Shapes as shapes
use Rattle.subtag.proofs.is_language.Goals.{in-2, in-2-2, in_default, in_default-2, in_default-3}
use Rattle.subtag.proofs.is_language.Goals as goal

pub returns-then-matches : goal.returns-then-matches
returns-then-matches c =
    elim c.if-matches-2.branch [
      | in-2 w ↦ let h = w.in-2 in shapes.language-letters _ (omega arith) (λ e. omega arith) (omega arith)
      | in-2-2 w ↦ let h = w.in-2 in shapes.language-letters _ (omega arith) (λ e. omega arith) (omega arith)
      | in_default w ↦ cc
      | in_default-2 w ↦ cc
      | in_default-3 w ↦ cc
    ]

pub returns-else-matches : goal.returns-else-matches
returns-else-matches c =
    elim c.if-matches-2.branch [
      | in-2 w ↦ cc
      | in-2-2 w ↦ cc
      | in_default w ↦ let h = w.in_default in c.if-matches.false ∙ shapes.language-short _ (omega arith)
      | in_default-2 w ↦ let h = w.in_default in c.if-matches.false ∙ shapes.language-four _ (omega arith)
      | in_default-3 w ↦ let h = w.in_default in c.if-matches.false ∙ shapes.language-long _ (omega arith)
    ]
