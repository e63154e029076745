-- `bill_lines::add` meets its contract. Assumes nothing.
use mathlib.Core.Path.{refl}
use Rattle.operations.proofs.Delivers.{table-good}
use Rattle.operations.proofs.CompleteChecked.{tested-both}
use Rattle.table.proofs.Searches.{clash}
use Rattle.table.specs.Lines.{lines}
use Rattle.bill_lines.proofs.Helds.{held_stays, held_on, held-bad}
use Rattle.bill_lines.proofs.add.Goals as goal

pub returns-then-not-is_usable : goal.returns-then-not-is_usable
returns-then-not-is_usable c =
    let a = c.args in (
      λ ls h. held_stays a.aliases.now a.likely.now ls (lines a.piece.now) a.c a.keys.now a.counts.now h
          (λ z. clash (c.is_usable.ensures.1 (record { number = z; bounded = h.bounded; sized = h.sized })) c.if-not-is_usable.true),
      λ u. record { counts = refl; keys = refl; numbers = refl },
    )

pub returns-in-Err : goal.returns-in-Err
returns-in-Err c =
    let a = c.args in
    let u = c.is_usable.ensures.0 c.if-not-is_usable.false in
    let v = c.check_likely in (
      λ ls h. absurd (held-bad a.aliases.now a.likely.now ls ls a.c a.keys.now a.counts.now h v.result v.ensures c.in-Err.is u.number),
      λ n. absurd (n u),
    )

pub add_tested-requires : goal.add_tested-requires
add_tested-requires c =
    let v = c.check_likely in
    let u = c.is_usable.ensures.0 c.if-not-is_usable.false in
    (tested-both _ _ (table-good v.result _ _ v.ensures c.in_default.is), u.bounded, u.sized)

pub returns : goal.returns
returns c =
    let v = c.check_likely in
    let a = c.args in
    let u = c.is_usable.ensures.0 c.if-not-is_usable.false in (
      λ ls h. held_on a.aliases.now a.likely.now ls (lines a.piece.now) a.c a.keys.now a.counts.now h c.add_tested.result _ _ u.number (table-good v.result _ _ v.ensures c.in_default.is) c.add_tested.ensures.0 c.add_tested.ensures.1 (c.add_tested.ensures.2 ls),
      λ n. absurd (n u),
    )
