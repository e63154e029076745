-- Laws of the words of a number in a lent output. Assumes nothing.
use mathlib.Core.Path.{◌≡◌, refl}
use mathlib.Core.List.{List}
use Prim.Native.Nat.{ℕ, ◌+◌, ◌-◌, ◌≤◌, ◌<◌}
use native.Mathlib.Omega.{arith}
use lib.ListN.{length}
use lib.Seq.{sets}
use borrow.Author.Tests.{le-leb, lt-leb}
use Rattle.tsv.specs.Fields.{field}
use Rattle.tsv.proofs.Laws.{field-length}
use Rattle.meaning.specs.Meaning.{meaning_of}
use Rattle.test_api.specs.Told.{words_for, told}

module _ (n : ℕ) (out : List ℕ) where
  pub told_none : length out < 80 → (0 ≡ length (words_for n out)) × (out ≡ sets out 0 (told n out))
  unfolding words_for told
  told_none h = rw (lt-leb 80 (length out) h) (refl, refl)

  pub told-some : (end : ℕ) (out' : List ℕ) → 80 ≤ length out → end ≡ 0 + length (field (meaning_of n) 10) → out' ≡ sets out 0 (field (meaning_of n) 10)
      → (end - 1 ≡ length (words_for n out)) × (out' ≡ sets out 0 (told n out))
  unfolding words_for told
  told-some end out' h e w = let l = field-length (meaning_of n) 10 in rw (le-leb 80 (length out) h) (omega arith, w)
