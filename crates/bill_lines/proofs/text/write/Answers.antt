-- `bill_lines::text::write` meets its contract. Assumes nothing.
use mathlib.Core.Path.{refl, sym}
use mathlib.Core.List.{[]}
use native.Mathlib.Omega.{arith}
use lib.ListN.{length}
use Rattle.bill_lines.specs.Text.{counts_text}
use Rattle.bill_lines.proofs.Bills.{none-short, none-keys, none-counts, none-many, all-written, as-text}
use Rattle.bill_lines.proofs.text.write.Goals as goal
use Rattle.bill_lines.proofs.text.write.Goals.{else-fits-via-then-fits+then-keys-eq16384+then-counts-eq1024+else-c-le512, else-fits-via-then-fits+then-keys-eq16384+else-counts-eq1024, else-fits-via-then-fits+else-keys-eq16384, else-fits-via-else-fits}

pub returns-then-c-le512 : goal.returns-then-c-le512
returns-then-c-le512 c =
    let a = c.args in
    let v = c.put_text in
    let w = as-text (counts_text a.c a.keys.now a.counts.now) _ v.result a.out.now v.new.out
    (sym (all-written a.c a.keys.now a.counts.now (length a.out.now) c.if-fits.true c.if-keys-eq16384.true c.if-counts-eq1024.true c.if-c-le512.true)) v.ensures.0 v.ensures.1
    in
    (w.0, w.1, omega (arith, v.ensures.2, c.if-fits.true))

pub returns-else-fits : goal.returns-else-fits
returns-else-fits c =
    let w = as-text [] _ 0 c.args.out.now c.args.out.now
    (sym (elim c.else-fits.branch [
      | else-fits-via-then-fits+then-keys-eq16384+then-counts-eq1024+else-c-le512 w ↦ none-many c.args.c c.args.keys.now c.args.counts.now (length c.args.out.now) w.if-fits.true w.if-keys-eq16384.true w.if-counts-eq1024.true w.if-c-le512.false
      | else-fits-via-then-fits+then-keys-eq16384+else-counts-eq1024 w ↦ none-counts c.args.c c.args.keys.now c.args.counts.now (length c.args.out.now) w.if-fits.true w.if-keys-eq16384.true w.if-counts-eq1024.false
      | else-fits-via-then-fits+else-keys-eq16384 w ↦ none-keys c.args.c c.args.keys.now c.args.counts.now (length c.args.out.now) w.if-fits.true w.if-keys-eq16384.false
      | else-fits-via-else-fits w ↦ none-short c.args.c c.args.keys.now c.args.counts.now (length c.args.out.now) w.if-fits.false
    ])) refl refl in
    (w.0, w.1, omega arith)
