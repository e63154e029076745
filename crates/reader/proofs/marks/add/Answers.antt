-- `reader::marks::add` meets its contract. Assumes nothing.
use native.Mathlib.Omega.{arith}
use Rattle.reader.proofs.Places as places
use Rattle.reader.proofs.marks.add.Goals as goal

pub marked-requires : goal.marked-requires
marked-requires c = let h = places.place_in c.args.singleton in let e = c.place-p.ensures in omega arith

pub mark-requires : goal.mark-requires
mark-requires c = let h = places.place_in c.args.singleton in let e = c.place-p.ensures in omega arith
