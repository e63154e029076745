-- `row_shapes::subtags::is_region` meets its contract. Assumes nothing.
use native.Mathlib.Omega.{arith}
use mathlib.Core.Path.{◌≡◌, ◌∙◌}
use Rattle.std.proofs.Common.{rules, tests}
use Rattle.std.proofs.lemmas.Iterator.{YieldsList-from_slice}
use Rattle.std.proofs.lemmas.Iterator.Search.{all_from_yields_List}
use Rattle.std.specs.List.{list_all}
use Rattle.standard.specs.Grammar.{capital, digit}
use Rattle.row_shapes.proofs.Tags.{every-all, region-two, region-three, region-size}
use Rattle.row_shapes.proofs.subtags.is_region.Goals as goal

pub returns-in-2 : goal.returns-in-2
returns-in-2 c = let e : c.all.result ≡ list_all capital c.args.s.now = all_from_yields_List capital _ _ c.all.result c.all.ensures.ran (YieldsList-from_slice c.args.s.now cc) (λ x b q k. search (rules, tests)) in e ∙ every-all _ _ ∙ region-two _ c.in-2.is

pub returns-in-3 : goal.returns-in-3
returns-in-3 c = let e : c.all-in-3.result ≡ list_all digit c.args.s.now = all_from_yields_List digit _ _ c.all-in-3.result c.all-in-3.ensures.ran (YieldsList-from_slice c.args.s.now cc) (λ x b q k. search (rules, tests)) in e ∙ every-all _ _ ∙ region-three _ c.in-3.is

pub returns-in_default : goal.returns-in_default
returns-in_default c = region-size _ (λ e. omega arith) (λ e. omega arith)
