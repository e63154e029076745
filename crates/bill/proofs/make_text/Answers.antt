-- `bill::make_text` meets its contract. Assumes nothing.
use mathlib.Core.Path.{◌≡◌, refl, sym, ◌∙◌}
use mathlib.Core.List.{List, []}
use Prim.Native.Nat.{◌≤◌}
use native.Mathlib.Omega.{arith}
use lib.ListN.{length}
use lib.Seq.{length-take-le}
use Rattle.operations.proofs.CompleteChecked.{tested-both}
use Rattle.program_io.proofs.Laws.{failure-of}
use Rattle.standard.specs.Delivery.{Bytes}
use Rattle.bill_ledger.specs.Up.{Sized}
use Rattle.bill_lines.specs.Held.{Held}
use Rattle.bill_lines.proofs.Bills.{text-made, held_number}
use Rattle.bill_lines.proofs.Helds.{held_stays, held-passes}
use Rattle.bill.proofs.Laws.{makes-text, makes-nothing, makes-bad}
use borrow.Author.Rules.{rules}
use Rattle.bill.proofs.make_text.Goals as goal

pub returns-then-c-ne0 : goal.returns-then-c-ne0
returns-then-c-ne0 c =
    let w = c.write-len in
    let t = c.start-c in
    let n : t.result.number ≡ 0 → ⊥ = c.if-c-ne0.true in
    let k = c.key_room-keys in
    let m = c.count_room-counts in
    let z : Sized k.result m.result = record { keys = k.ensures; counts = m.ensures } in
    let same : length w.new.out ≡ length c.args.block.now = search rules in
    let fits = w.ensures.2 in
    let stays : (ls : List Bytes) → Held c.args.aliases.now c.args.likely.now ls t.result k.result m.result = λ ls. held_stays _ _ [] ls t.result _ _ (t.ensures k.result m.result z) n in record {
      in_bounds = omega arith;
      prefix = sym (length-take-le w.result w.new.out (omega arith));
      makes = (
        [],
        makes-bad _ _ _ _ _ c.begin.ensures.1 n (λ ls. held_number _ _ ls t.result _ _ (stays ls))
            (λ ls. text-made c.args.aliases.now c.args.likely.now ls t.result _ _ c.args.block.now _ w.result (stays ls) c.requires.0 w.ensures),
      );
    }

pub take_tested-billed-requires : goal.take_tested-billed-requires
take_tested-billed-requires c =
    let t = c.start-c in
    let k = c.key_room-keys in
    let m = c.count_room-counts in
    let z : Sized k.result m.result = record { keys = k.ensures; counts = m.ensures } in
    let h = t.ensures k.result m.result z in
    let n : t.result.number ≡ 0 = c.if-c-ne0.false in
    (tested-both _ _ (held-passes _ _ [] t.result _ _ h n), c.requires.0, c.requires.1, n, h)

pub returns-then-has_failed : goal.returns-then-has_failed
returns-then-has_failed c =
    let t = c.take_tested-billed in
    record { in_bounds = omega arith; prefix = refl; makes = (t.ensures.0, makes-nothing _ _ t.ensures.0 t.result _ _ _ refl t.ensures.1 (failure-of t.result.input.last (sym c.has_failed.ensures ∙ c.if-has_failed.true))) }

pub returns : goal.returns
returns c =
    let t = c.take_tested-billed in
    let w = c.write-len-2 in
    let same : length t.new.block ≡ length c.args.block.now = search rules in
    let room : 65536 ≤ length t.new.block = omega (arith, same, c.requires.0) in
    let after : length w.new.out ≡ length t.new.block = search rules in
    let fits = w.ensures.2 in record {
      in_bounds = omega arith;
      prefix = sym (length-take-le w.result w.new.out (omega arith));
      makes = (t.ensures.0, makes-text _ _ t.ensures.0 t.result _ _ _ (λ ls h. text-made c.args.aliases.now c.args.likely.now ls t.result.counts _ _ t.new.block _ w.result h room w.ensures) t.ensures.1 (sym c.has_failed.ensures ∙ c.if-has_failed.false));
    }
