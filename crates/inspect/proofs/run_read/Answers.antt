-- `inspect::run_read` meets its contract. Assumes nothing.
use mathlib.Core.Path.{refl, sym, ap, ◌∙◌}
use native.Mathlib.Omega.{arith}
use Rattle.program_io.specs.declared.output.Output.{Output}
use Rattle.program_io.proofs.Printing.{headed-printed}
use Rattle.program_io.proofs.Runs.{runs-unheaded, runs-replies}
use Rattle.inspect.proofs.run_read.Goals as goal

pub returns-then-has_failed : goal.returns-then-has_failed
returns-then-has_failed c =
    let u = c.unread.ensures in
    runs-unheaded _ _ _ _ u.input u.number (ap (λ (o : Output). o.failed) u.output ∙ sym c.has_failed.ensures ∙ c.if-has_failed.true)

pub answer-requires : goal.answer-requires
answer-requires c = record { room = omega (arith, c.out_buffer-out.ensures); unfailed = sym c.has_failed.ensures ∙ c.if-has_failed.false }

pub returns : goal.returns
returns c =
    let h = c.print_header-o.ensures in
    let a = c.answer.ensures _ (headed-printed _ h.0 c.print_header-o.result h.1 h.2 (sym c.has_failed.ensures ∙ c.if-has_failed.false)) in
    runs-replies _ _ _ _ refl a.number a.blocks a.given
