-- Laws of the places of script and region. Assumes nothing.
use mathlib.Core.Path.{◌≡◌, ap₂}
use mathlib.Core.List.{List, map}
use Prim.Native.Nat.{ℕ, ◌+◌, ◌-◌, ◌≤◌, ◌<◌}
use native.Mathlib.Omega.{arith}
use lib.ListN.{length, take, drop, length-take}
use borrow.Author.Tests.{lt-ltb, le-ltb, eq-eqb, ne_eqb}
use Rattle.standard.specs.Tag.{pick}
use Rattle.subtag.specs.Bytes.{normal_byte, cased}
use Rattle.aliases.specs.Replaced.{aliased_part}
use Rattle.canonical.specs.Three.{after_separator, script_start, part_bytes}

pub behind : (at end : ℕ) → at < end → after_separator at end ≡ at + 1
unfolding after_separator
behind at end h = rw (lt-ltb at end h)

pub at_once : (at end : ℕ) → end ≤ at → after_separator at end ≡ end
unfolding after_separator
at_once at end h = rw (le-ltb at end h)

pub start_first : (l s : ℕ) → l ≡ 0 → script_start l s ≡ 0
unfolding script_start
start_first l s h = rw (eq-eqb l 0 h)

pub start-later : (l s : ℕ) → (l ≡ 0 → ⊥) → script_start l s ≡ after_separator l s
unfolding script_start
start-later l s h = rw (ne_eqb l 0 h)

pub slice-small : (x : List ℕ) (a b m : ℕ) → b - a ≤ m → length (take (b - a) (drop a x)) ≤ m
slice-small x a b m h = omega (arith, length-take (b - a) (drop a x))

pub part-is : (A name x w : List ℕ) (count start end from to g f : ℕ) → g ≡ start → f ≡ after_separator from to
    → aliased_part A name (pick (cased count (map normal_byte (take (end - g) (drop g x)))) (take (to - f) (drop f w))) ≡ part_bytes A name count x start end w from to
unfolding part_bytes
part-is A name x w count start end from to g f d e =
    ap₂ (λ (a b : ℕ). aliased_part A name (pick (cased count (map normal_byte (take (end - a) (drop a x)))) (take (to - b) (drop b w)))) d e
