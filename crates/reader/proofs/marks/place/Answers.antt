-- `reader::marks::place` meets its contract. Assumes nothing.
use native.Mathlib.Omega.{arith}
use Rattle.reader.proofs.Places as places
use Rattle.reader.proofs.marks.place.Goals as goal

pub overflow_sub-result : goal.overflow_sub-result
overflow_sub-result c = let h = places.digit_low _ _ c.class_of.ensures c.in-Digit.is in let e = c.from.ensures in omega arith

pub overflow_sub-result-in-Small : goal.overflow_sub-result-in-Small
overflow_sub-result-in-Small c = let h = places.small_low _ _ c.class_of.ensures c.in-Small.is in let e = c.from-in-Small.ensures in omega arith

pub overflow_sub-result-in-Capital : goal.overflow_sub-result-in-Capital
overflow_sub-result-in-Capital c = let h = places.capital-low _ _ c.class_of.ensures c.in-Capital.is in let e = c.from-in-Capital.ensures in omega arith
