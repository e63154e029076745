-- `bill_lines::text::put_text` meets its contract. Assumes nothing.
use mathlib.Core.Path.{sym}
use mathlib.Core.List.{◌++◌}
use native.Mathlib.Omega.{arith}
use Rattle.tsv.specs.Fields.{decimal, field, table_text}
use Rattle.bill_ledger.specs.Places.{entries_from}
use Rattle.bill_lines.specs.Text.{header, last_text, entries_text, counts_text}
use Rattle.bill_lines.proofs.Bills.{text-good, text-table, text-stopped, as-text}
use Rattle.bill_lines.proofs.text.put_text.Goals as goal

pub returns-then-c-eq0 : goal.returns-then-c-eq0
returns-then-c-eq0 c =
    let a = c.args in
    let v = c.put_bill in
    let t = text-good a.c a.keys.now a.counts.now c.if-c-eq0.true in
    let w = as-text (header ++ (entries_text (entries_from a.keys.now a.counts.now 0 a.c.keys) ++ last_text a.c.refused)) (counts_text a.c a.keys.now a.counts.now) v.result a.out.now v.new.out (sym t) v.ensures.0 v.ensures.1 in
    (w.0, w.1, omega (arith, v.ensures.2))

pub returns-then-c-lt15 : goal.returns-then-c-lt15
returns-then-c-lt15 c =
    let a = c.args in
    let v = c.put_table in
    let t = text-table a.c a.keys.now a.counts.now c.if-c-eq0.false c.if-c-lt15.true in
    let w = as-text (table_text a.c.number a.c.place a.c.table) (counts_text a.c a.keys.now a.counts.now) v.result a.out.now v.new.out (sym t) v.ensures.0 v.ensures.1 in
    (w.0, w.1, omega (arith, v.ensures.2))

pub returns : goal.returns
returns c =
    let a = c.args in
    let v = c.put_number in
    let t = text-stopped a.c a.keys.now a.counts.now c.if-c-eq0.false c.if-c-lt15.false in
    let w = as-text (field (decimal a.c.number) 10) (counts_text a.c a.keys.now a.counts.now) v.result a.out.now v.new.out (sym t) (omega (arith, v.ensures.0)) v.ensures.1 in
    (w.0, w.1, omega (arith, v.ensures.2))
