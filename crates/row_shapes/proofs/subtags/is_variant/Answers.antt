-- `row_shapes::subtags::is_variant` meets its contract. Assumes nothing.
use native.Mathlib.Omega.{arith}
use mathlib.Core.Path.{◌≡◌, sym, ◌∙◌}
use mathlib.Core.Bool.{◌||◌}
use Prim.Native.Nat.{ℕ}
use Rattle.std.proofs.Common.{rules, tests}
use Rattle.std.proofs.lemmas.Iterator.{YieldsList-from_slice}
use Rattle.std.proofs.lemmas.Iterator.Search.{all_from_yields_List}
use Rattle.std.specs.List.{list_all}
use Rattle.standard.specs.Grammar.{small, digit}
use Rattle.row_shapes.proofs.Tags.{every-all, variant-letter, variant-digit, variant-several, variant-other}
use Rattle.row_shapes.proofs.subtags.is_variant.Goals as goal

pub returns-then-is_digit : goal.returns-then-is_digit
returns-then-is_digit c =
    let e : c.all.result ≡ list_all (λ (b : ℕ). small b || digit b) c.args.s.now = all_from_yields_List (λ (b : ℕ). small b || digit b) _ _ c.all.result c.all.ensures.ran (YieldsList-from_slice c.args.s.now cc) (λ x b q k. search (rules, tests)) in
    e ∙ every-all _ _ ∙ variant-digit _ c.in-4.is (sym c.is_digit.ensures ∙ c.if-is_digit.true)

pub returns-else-is_digit : goal.returns-else-is_digit
returns-else-is_digit c = c.if-is_digit.false ∙ variant-letter _ c.in-4.is (sym c.is_digit.ensures ∙ c.if-is_digit.false)

pub returns-in-5-to-8 : goal.returns-in-5-to-8
returns-in-5-to-8 c =
    let e : c.all-in-5-to-8.result ≡ list_all (λ (b : ℕ). small b || digit b) c.args.s.now = all_from_yields_List (λ (b : ℕ). small b || digit b) _ _ c.all-in-5-to-8.result c.all-in-5-to-8.ensures.ran (YieldsList-from_slice c.args.s.now cc) (λ x b q k. search (rules, tests)) in
    e ∙ every-all _ _ ∙ variant-several _ (omega arith) (omega arith)

pub returns-in_default : goal.returns-in_default
returns-in_default c = variant-other _ (λ a b. omega arith)

pub returns-in_default-2 : goal.returns-in_default-2
returns-in_default-2 c = variant-other _ (λ a b. omega arith)
