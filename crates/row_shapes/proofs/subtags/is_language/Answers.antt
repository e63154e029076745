-- `row_shapes::subtags::is_language` meets its contract. Assumes nothing.
use native.Mathlib.Omega.{arith}
use mathlib.Core.Path.{◌≡◌, ◌∙◌}
use Prim.Native.Nat.{◌≤◌}
use lib.ListN.{length}
use Rattle.std.proofs.Common.{rules, tests}
use Rattle.std.proofs.lemmas.Iterator.{YieldsList-from_slice}
use Rattle.std.proofs.lemmas.Iterator.Search.{all_from_yields_List}
use Rattle.standard.specs.Grammar.{small}
use Rattle.row_shapes.proofs.Tags.{every-all, language-letters, language-other}
use Rattle.row_shapes.proofs.subtags.is_language.Goals as goal
use Rattle.row_shapes.proofs.subtags.is_language.Goals.{then-this-lt4, else-this-lt4+else-this-lt5+then-this-lt9}

pub returns-in-2 : goal.returns-in-2
returns-in-2 c =
    let n : (2 ≤ length c.args.s.now) × (length c.args.s.now ≡ 4 → ⊥) × (length c.args.s.now ≤ 8) = elim c.in-2-1.branch [
      | then-this-lt4 w ↦ (omega arith, (λ q. omega arith), omega arith)
      | else-this-lt4+else-this-lt5+then-this-lt9 w ↦ (omega arith, (λ q. omega arith), omega arith)
    ] in
    all_from_yields_List small _ _ c.all.result c.all.ensures.ran (YieldsList-from_slice c.args.s.now cc) (λ x b q k. search (rules, tests)) ∙ every-all small _ ∙ language-letters _ n.0 n.1 n.2

pub returns-in_default : goal.returns-in_default
returns-in_default c = language-other _ (λ a b d. omega arith)

pub returns-in_default-2 : goal.returns-in_default-2
returns-in_default-2 c = language-other _ (λ a b d. omega arith)

pub returns-in_default-3 : goal.returns-in_default-3
returns-in_default-3 c = language-other _ (λ a b d. omega arith)
