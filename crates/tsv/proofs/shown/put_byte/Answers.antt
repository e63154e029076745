-- `tsv::shown::put_byte` meets its contract. Assumes nothing.
use mathlib.Core.Path.{sym, ◌∙◌}
use Rattle.tsv.proofs.Showing as laws
use borrow.Author.Rules.{rules}
use Rattle.tsv.proofs.shown.put_byte.Goals as goal

pub returns-then-is_plain : goal.returns-then-is_plain
returns-then-is_plain c = let a = c.args in laws.byte-plain a.out.now a.at a.b (sym c.is_plain.ensures ∙ c.if-is_plain.true)

pub put_escape-requires : goal.put_escape-requires
put_escape-requires c = (sym c.is_plain.ensures ∙ c.if-is_plain.false, search rules)
