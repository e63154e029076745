-- `refused_rows::member::all_digits` meets its contract. Assumes nothing.
use mathlib.Core.Path.{◌∙◌}
use Rattle.std.proofs.Common.{rules, tests}
use Rattle.std.proofs.lemmas.Iterator.{YieldsList-from_slice}
use Rattle.std.proofs.lemmas.Iterator.Search.{all_from_yields_List}
use Rattle.standard.specs.Grammar.{digit}
use Rattle.refused_rows.proofs.Members as laws
use Rattle.refused_rows.proofs.member.all_digits.Goals as goal

pub returns : goal.returns
returns c = all_from_yields_List digit _ _ c.all.result c.all.ensures.ran (YieldsList-from_slice c.args.x.now cc) (λ x b q k. search (rules, tests)) ∙ laws.digits-all _
