-- `canonical_order::section::group_end` meets its contract. Assumes nothing.
use mathlib.Core.Path.{◌∙◌}
use lib.Dec.{leb}
use borrow.Author.Rules.{rules}
use Rattle.canonical_order.proofs.Tests.{place-end}
use Rattle.canonical_order.proofs.section.group_end.Goals as goal

pub returns : goal.returns
returns c = c.place_of.ensures (λ t. leb t.len c.args.width) (λ t r h. search rules) ∙ place-end _ _ _
