-- `tables_check::run` meets its contract. Assumes nothing.
use mathlib.Core.Path.{refl, sym, ap, ◌∙◌}
use mathlib.Core.List.{[]}
use Prim.Native.Nat.{ℕ}
use lib.ListN.{length}
use lib.Seq.{length-take-le}
use Rattle.table_report.specs.Line.{told}
use Rattle.program_io.proofs.Runs.{read_none, is-printed}
use borrow.Author.Rules.{rules}
use Rattle.operations.specs.declared.delivery.Answer.{Answer}
use Rattle.operations.specs.Answer.{answer_of, given_is}
use Rattle.tables_check.proofs.run.Goals as goal

pub slice_bounds-print-end : goal.slice_bounds-print-end
slice_bounds-print-end c = sym (length-take-le _ _ (search rules))

pub returns : goal.returns
unfolding given_is
returns c =
    let v = c.verdict_of-verdict in
    let a = c.args in
    let l = c.line_buffer-out in
    let w = c.write-len in
    let b = c.begin in
    let p = c.print-output in
    let n = length-take-le w.result w.new.out (search rules) ∙ w.ensures.0 ∙ ap (λ (k : ℕ). length (told v.result.number v.result.place v.result.table a.aliases.now a.likely.now a.parents.now k)) l.ensures in
    record {
      read = read_none _ [] (c.begin-2.ensures.1 []);
      verdict = v.result;
      checked = ap (λ (a : Answer). answer_of a []) v.ensures ∙ c.check.ensures;
      number = refl;
      printed = is-printed b.result p.result _ _ b.ensures.0 p.ensures n;
    }
