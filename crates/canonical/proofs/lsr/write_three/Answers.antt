-- `canonical::lsr::write_three` meets its contract. Assumes nothing.
use native.Mathlib.Omega.{arith}
use mathlib.Core.Path.{sym}
use Prim.Native.Nat.{◌≤◌}
use lib.ListN.{length}
use lib.Seq.{length-take-le}
use Rattle.aliases.proofs.Keyed as keys
use Rattle.canonical.proofs.lsr.write_three.Goals as goal

pub slice_bounds-write_from-end : goal.slice_bounds-write_from-end
slice_bounds-write_from-end c =
    sym (length-take-le c.resolve_language-m.result c.resolve_language-m.new.word (omega (arith, c.resolve_language-m.ensures.1)))

pub write_from-requires : goal.write_from-requires
write_from-requires c =
    let h : c.resolve_language-m.result ≤ length c.resolve_language-m.new.word = omega (arith, c.resolve_language-m.ensures.1) in
    (c.requires.0, c.requires.1, c.requires.2, keys.front-in _ _ _ _ c.resolve_language-m.ensures.0 c.resolve_language-m.ensures.2 h, omega arith)
