-- `refused_rows::member::has_leading_zero` meets its contract. Assumes nothing.
use Rattle.std.proofs.Common.{sym, ◌∙◌}
use borrow.Author.Tests.{lt-leb}
use Rattle.refused_rows.proofs.Members as laws
use Rattle.refused_rows.proofs.member.has_leading_zero.Goals as goal

pub returns-then-x-ge2 : goal.returns-then-x-ge2
returns-then-x-ge2 c = sym (laws.zero-long _ c.if-x-ge2.true)

pub returns-else-x-ge2 : goal.returns-else-x-ge2
returns-else-x-ge2 c = lt-leb _ _ c.if-x-ge2.false ∙ sym (laws.zero-short _ c.if-x-ge2.false)
