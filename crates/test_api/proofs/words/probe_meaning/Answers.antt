-- `test_api::words::probe_meaning` meets its contract. Assumes nothing.
use native.Mathlib.Omega.{arith}
use Rattle.tsv.proofs.Laws.{field-length}
use Rattle.meaning.specs.Meaning.{meaning_of}
use Rattle.test_api.proofs.Told as laws
use Rattle.test_api.proofs.words.probe_meaning.Goals as goal

pub returns-then-out-lt80 : goal.returns-then-out-lt80
returns-then-out-lt80 c = laws.told_none _ _ c.if-out-lt80.true

pub overflow_sub-result : goal.overflow_sub-result
overflow_sub-result c = let a = c.args in omega (arith, c.put_meaning-end.ensures.0, field-length (meaning_of a.number) 10)

pub returns : goal.returns
returns c = let p = c.put_meaning-end in laws.told-some _ _ p.result _ c.if-out-lt80.false p.ensures.0 p.ensures.1
