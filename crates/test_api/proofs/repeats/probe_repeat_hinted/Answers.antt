-- `test_api::repeats::probe_repeat_hinted` meets its contract. Assumes nothing.
use Rattle.operations.proofs.Delivers.{table-good}
use Rattle.test_api.proofs.Repeated.{refused-for, sorted-for}
use Rattle.test_api.proofs.repeats.probe_repeat_hinted.Goals as goal

pub returns-in-Err : goal.returns-in-Err
returns-in-Err c =
    let a = c.args in
    refused-for a.operation a.aliases.now a.other.now a.id.now _ c.check_for.result _ c.packed_answer.result c.in-Err.is c.packed_answer.ensures c.check_for.ensures

pub indexed-requires : goal.indexed-requires
indexed-requires c =
    let a = c.args in
    record { sorted = sorted-for a.operation a.aliases.now a.other.now (table-good c.check_for.result _ _ c.check_for.ensures c.in_default.is); hinted = c.fill_hints.ensures }

pub repeated-requires : goal.repeated-requires
repeated-requires c = (rw c.indexed.ensures.0 (table-good c.check_for.result _ _ c.check_for.ensures c.in_default.is), c.fill_hints-2.ensures)

pub returns : goal.returns
returns c = rw c.indexed.ensures.0 at c.repeated.ensures
