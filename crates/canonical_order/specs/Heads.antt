-- The heads of a section, and the choice of the next one among them. Assumes nothing.
use Rattle.std.specs.Prelude.{cond, List, [], ◌∷◌, ℕ, ◌+◌, leb, ltb, length}
use Rattle.standard.specs.Tag.{Tag}
use Rattle.subtag.specs.declared.Subtag.{Subtag}
use Rattle.subtag.specs.Subtags.{subtag_of}
use Rattle.canonical_order.specs.declared.choice.Head.{Head}

-- the head that a subtag is at a place, with the number 0 where it has too many bytes
unfoldable pub head_of : ℕ → ℕ → Subtag → Head
head_of width at t = record { at = at; next = at + 1 + t.len; key = cond (leb t.len width) t.key 0 }

unfoldable pub heads_from : ℕ → ℕ → List Tag → List Head
heads_from width at [] = []
heads_from width at (t ∷ ts) = head_of width at (subtag_of t) ∷ heads_from width (at + 1 + length t) ts

-- the least number above last, as pick_from chooses it
unfoldable pub better_by : ℕ → Head → Head → Head
better_by last head best = cond (ltb last head.key) (cond (ltb head.key best.key) head best) best

unfoldable pub pick_by : ℕ → Head → List Head → Head
pick_by last best [] = best
pick_by last best (head ∷ heads) = pick_by last (better_by last head best) heads
