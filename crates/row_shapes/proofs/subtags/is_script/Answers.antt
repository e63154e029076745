-- `row_shapes::subtags::is_script` meets its contract. Assumes nothing.
use mathlib.Core.Path.{ap, sym, ◌∙◌}
use Rattle.std.proofs.Common.{rules, tests}
use Rattle.std.proofs.lemmas.Iterator.{YieldsList-from_slice}
use Rattle.std.proofs.lemmas.Iterator.Search.{all_from_yields_List}
use Rattle.standard.specs.Grammar.{small, every}
use Rattle.byte_string.proofs.Stores.{all_from}
use Rattle.row_shapes.proofs.Tags.{every-all, script-size, script-is}
use Rattle.row_shapes.proofs.subtags.is_script.Goals as goal
use Rattle.row_shapes.proofs.subtags.is_script.Goals.{then-s-ne4-via-then-s-ne4, then-s-ne4-via-else-s-ne4+then-not-is_capital}

pub returns-then-s-ne4 : goal.returns-then-s-ne4
returns-then-s-ne4 c = elim c.then-s-ne4.branch [
  | then-s-ne4-via-then-s-ne4 w ↦ script-size _ w.if-s-ne4.true
  | then-s-ne4-via-else-s-ne4+then-not-is_capital w ↦ sym (sym (script-is _ w.if-s-ne4.false) ∙ rw (sym w.is_capital.ensures ∙ w.if-not-is_capital.true))
]

pub returns : goal.returns
returns c =
    all_from_yields_List small _ _ c.all.result c.all.ensures.ran (YieldsList-from_slice _ c.iter.ensures.rest) (λ x b q k. search (rules, tests))
    ∙ every-all small _
    ∙ ap (every small) (all_from 1 _)
    ∙ sym (sym (script-is _ c.if-s-ne4.false) ∙ rw (sym c.is_capital.ensures ∙ c.if-not-is_capital.false))
