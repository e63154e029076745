-- `row_shapes::aliases::language_alias` meets its contract. Assumes nothing.
use mathlib.Core.Path.{sym, ◌∙◌}
use Rattle.row_shapes.proofs.Tests.{alias-three}
use Rattle.row_shapes.proofs.aliases.language_alias.Goals as goal

pub returns : goal.returns
returns c =
    alias-three _ _ (sym c.is_language.ensures ∙ c.if-not-is_language.false) (sym c.same.ensures ∙ c.if-same.false) _ c.in-Some.ensures _ c.same-2.ensures
