-- `test_api::repeats::once` meets its contract. Assumes nothing.
use native.Mathlib.Omega.{arith}
use mathlib.Core.Path.{sym, ◌∙◌}
use Rattle.operations.proofs.CompleteChecked.{tested-both}
use Rattle.operations.proofs.ChainChecked.{tested-chain}
use Rattle.test_api.proofs.Repeated.{check-0, check-1, check-2, check-3, once-0, once-1, once-2, once-3}
use Rattle.test_api.proofs.repeats.once.Goals as goal

pub canonicalise_tested-requires : goal.canonicalise_tested-requires
canonicalise_tested-requires c =
    let a = c.args in
    sym (check-0 a.operation a.aliases.rows.now a.other.now c.in-0.is) ∙ c.requires.0

pub returns-in-0 : goal.returns-in-0
returns-in-0 c =
    let a = c.args in
    once-0 a.operation a.aliases.rows.now a.other.now a.id.now _ _ c.canonicalise_tested.result c.packed_answer.result c.packed_answer.ensures c.requires.0 c.in-0.is c.canonicalise_tested.ensures

pub indexed-requires : goal.indexed-requires
indexed-requires c =
    let a = c.args in
    let both = tested-both _ _ (sym (check-1 a.operation a.aliases.rows.now a.other.now (λ e. omega arith) c.in-1.is) ∙ c.requires.0) in
    record { sorted = both.likely; hinted = c.requires.1 }

pub tested-tables-requires : goal.tested-tables-requires
tested-tables-requires c =
    let a = c.args in
    rw c.indexed.ensures.0 (tested-both _ _ (sym (check-1 a.operation a.aliases.rows.now a.other.now (λ e. omega arith) c.in-1.is) ∙ c.requires.0))

pub returns-in-1 : goal.returns-in-1
returns-in-1 c =
    let a = c.args in
    let t = c.tested-tables.ensures in
    let f = rw (t.0, t.1, c.indexed.ensures.0) at c.form_tested.ensures in
    once-1 a.operation a.aliases.rows.now a.other.now a.id.now _ _ c.form_tested.result c.packed_answer-in-1.result c.packed_answer-in-1.ensures c.requires.0 (λ e. omega arith) c.in-1.is f

pub indexed-requires-in-2 : goal.indexed-requires-in-2
indexed-requires-in-2 c =
    let a = c.args in
    let both = tested-both _ _ (sym (check-2 a.operation a.aliases.rows.now a.other.now (λ e. omega arith) (λ e. omega arith) c.in-2.is) ∙ c.requires.0) in
    record { sorted = both.likely; hinted = c.requires.1 }

pub tested-tables-requires-in-2 : goal.tested-tables-requires-in-2
tested-tables-requires-in-2 c =
    let a = c.args in
    rw c.indexed-in-2.ensures.0 (tested-both _ _ (sym (check-2 a.operation a.aliases.rows.now a.other.now (λ e. omega arith) (λ e. omega arith) c.in-2.is) ∙ c.requires.0))

pub returns-in-2 : goal.returns-in-2
returns-in-2 c =
    let a = c.args in
    let t = c.tested-tables-in-2.ensures in
    let f = rw (t.0, t.1, c.indexed-in-2.ensures.0) at c.form_tested-in-2.ensures in
    once-2 a.operation a.aliases.rows.now a.other.now a.id.now _ _ c.form_tested-in-2.result c.packed_answer-in-2.result c.packed_answer-in-2.ensures c.requires.0 (λ e. omega arith) (λ e. omega arith) c.in-2.is f

pub chain_tested-requires : goal.chain_tested-requires
chain_tested-requires c =
    let a = c.args in
    tested-chain _ _ (sym (check-3 a.operation a.aliases.rows.now a.other.now (λ e. omega arith) (λ e. omega arith) (λ e. omega arith)) ∙ c.requires.0)

pub returns-in_default : goal.returns-in_default
returns-in_default c =
    let a = c.args in
    once-3 a.operation a.aliases.rows.now a.other.now a.id.now _ _ c.chain_tested.result c.packed_answer-in_default.result c.packed_answer-in_default.ensures c.requires.0 (λ e. omega arith) (λ e. omega arith) (λ e. omega arith) c.chain_tested.ensures
