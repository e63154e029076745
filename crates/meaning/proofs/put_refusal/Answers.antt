-- `meaning::put_refusal` meets its contract. Assumes nothing.
use native.Mathlib.Omega.{arith}
use Rattle.standard.specs.Tag.{text}
use Rattle.meaning.specs.Meaning.{refusal_of}
use Rattle.meaning.proofs.Laws as laws
use Rattle.meaning.proofs.put_refusal.Goals as goal

pub returns-in-1 : goal.returns-in-1
unfolding refusal_of
returns-in-1 c = laws.said_of refusal_of _ _ _ _ _ _ 1 c.in-1.is (omega arith) c.put.ensures

pub returns-in-2 : goal.returns-in-2
unfolding refusal_of
returns-in-2 c = laws.said_of refusal_of _ _ _ _ _ _ 2 c.in-2.is (omega arith) c.put-in-2.ensures

pub returns-in-3 : goal.returns-in-3
unfolding refusal_of
returns-in-3 c = laws.said_of refusal_of _ _ _ _ _ _ 3 c.in-3.is (omega arith) c.put-in-3.ensures

pub returns-in-4 : goal.returns-in-4
unfolding refusal_of
returns-in-4 c = laws.said_of refusal_of _ _ _ _ _ _ 4 c.in-4.is (omega arith) c.put-in-4.ensures

pub returns-in-5 : goal.returns-in-5
unfolding refusal_of
returns-in-5 c = laws.said_of refusal_of _ _ _ _ _ _ 5 c.in-5.is (omega arith) c.put-in-5.ensures

pub returns-in-6 : goal.returns-in-6
unfolding refusal_of
returns-in-6 c = laws.said_of refusal_of _ _ _ _ _ _ 6 c.in-6.is (omega arith) c.put-in-6.ensures

pub returns-in-7 : goal.returns-in-7
unfolding refusal_of
returns-in-7 c = laws.said_of refusal_of _ _ _ _ _ _ 7 c.in-7.is (omega arith) c.put-in-7.ensures

pub returns-in-15 : goal.returns-in-15
unfolding refusal_of
returns-in-15 c = laws.said_of refusal_of _ _ _ _ _ _ 15 c.in-15.is (omega arith) c.put-in-15.ensures

pub returns-in-16 : goal.returns-in-16
unfolding refusal_of
returns-in-16 c = laws.said_of refusal_of _ _ _ _ _ _ 16 c.in-16.is (omega arith) c.put-in-16.ensures

pub returns-in_default : goal.returns-in_default
returns-in_default c = laws.said refusal_of _ _ _ _ _ _ (text "no such number") (laws.no_such _ c.in_default.in_default-own.rest) (omega arith) c.put-in_default.ensures
