-- `meaning::put_meaning` meets its contract. Assumes nothing.
use native.Mathlib.Omega.{arith}
use Rattle.meaning.specs.Meaning.{meaning_of}
use Rattle.meaning.proofs.Laws as laws
use Rattle.meaning.proofs.put_meaning.Goals as goal

pub returns-in-0 : goal.returns-in-0
unfolding meaning_of
returns-in-0 c = laws.said_of meaning_of _ _ _ _ _ _ 0 c.in-0.is (omega arith) c.put.ensures

pub returns-in-8 : goal.returns-in-8
unfolding meaning_of
returns-in-8 c = laws.said_of meaning_of _ _ _ _ _ _ 8 c.in-8.is (omega arith) c.put-in-8.ensures

pub returns-in-9 : goal.returns-in-9
unfolding meaning_of
returns-in-9 c = laws.said_of meaning_of _ _ _ _ _ _ 9 c.in-9.is (omega arith) c.put-in-9.ensures

pub returns-in-10 : goal.returns-in-10
unfolding meaning_of
returns-in-10 c = laws.said_of meaning_of _ _ _ _ _ _ 10 c.in-10.is (omega arith) c.put-in-10.ensures

pub returns-in-11 : goal.returns-in-11
unfolding meaning_of
returns-in-11 c = laws.said_of meaning_of _ _ _ _ _ _ 11 c.in-11.is (omega arith) c.put-in-11.ensures

pub returns-in-12 : goal.returns-in-12
unfolding meaning_of
returns-in-12 c = laws.said_of meaning_of _ _ _ _ _ _ 12 c.in-12.is (omega arith) c.put-in-12.ensures

pub returns-in-13 : goal.returns-in-13
unfolding meaning_of
returns-in-13 c = laws.said_of meaning_of _ _ _ _ _ _ 13 c.in-13.is (omega arith) c.put-in-13.ensures

pub returns-in-14 : goal.returns-in-14
unfolding meaning_of
returns-in-14 c = laws.said_of meaning_of _ _ _ _ _ _ 14 c.in-14.is (omega arith) c.put-in-14.ensures

pub returns-in-17 : goal.returns-in-17
unfolding meaning_of
returns-in-17 c = laws.said_of meaning_of _ _ _ _ _ _ 17 c.in-17.is (omega arith) c.put-in-17.ensures

pub returns-in-18 : goal.returns-in-18
unfolding meaning_of
returns-in-18 c = laws.said_of meaning_of _ _ _ _ _ _ 18 c.in-18.is (omega arith) c.put-in-18.ensures

pub returns-in_default : goal.returns-in_default
returns-in_default c = rw (laws.else-refusal _ c.in_default.in_default-own.rest) c.put_refusal.ensures
