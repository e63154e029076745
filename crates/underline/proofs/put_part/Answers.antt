-- `underline::put_part` meets its contract. Assumes nothing.
use borrow.Author.Rules.{rules}
use Rattle.underline.proofs.Lines as laws
use Rattle.underline.proofs.put_part.Goals as goal

pub underline_one-requires : goal.underline_one-requires
underline_one-requires c =
    let q = c.requires in
    (rw (laws.of-language _ _ _ c.in-Language.is) at q.1, q.2, search rules)

pub underline_one-requires-in-Script : goal.underline_one-requires-in-Script
underline_one-requires-in-Script c =
    let q = c.requires in
    (rw (laws.of-script _ _ _ c.in-Script.is) at q.1, q.2, search rules)

pub underline_one-requires-in-Region : goal.underline_one-requires-in-Region
underline_one-requires-in-Region c =
    let q = c.requires in
    (rw (laws.of-region _ _ _ c.in-Region.is) at q.1, q.2, search rules)

pub underline_all-requires : goal.underline_all-requires
underline_all-requires c =
    let q = c.requires in
    (q.0.few, rw (laws.of-variants _ _ _ c.in-Variants.is) at q.1, q.2, search rules)

pub returns-in-Language : goal.returns-in-Language
returns-in-Language c =
    laws.part-written _ _ _ _ _ _ _ _ _ _ (laws.of-language _ _ _ c.in-Language.is) c.underline_one.ensures

pub returns-in-Script : goal.returns-in-Script
returns-in-Script c =
    laws.part-written _ _ _ _ _ _ _ _ _ _ (laws.of-script _ _ _ c.in-Script.is) c.underline_one-in-Script.ensures

pub returns-in-Region : goal.returns-in-Region
returns-in-Region c =
    laws.part-written _ _ _ _ _ _ _ _ _ _ (laws.of-region _ _ _ c.in-Region.is) c.underline_one-in-Region.ensures

pub returns-in-Variants : goal.returns-in-Variants
returns-in-Variants c =
    laws.part-written _ _ _ _ _ _ _ _ _ _ (laws.of-variants _ _ _ c.in-Variants.is) c.underline_all.ensures
