-- The spans of a part of what is read can be marked in one line. Assumes nothing.
use mathlib.Core.Path.{◌≡◌}
use mathlib.Core.List.{List, [], ◌∷◌, ◌++◌}
use Prim.Native.Nat.{ℕ, suc, ◌+◌, ◌≤◌}
use native.Mathlib.Omega.{arith}
use lib.ListN.{length}
use Rattle.standard.specs.Tag.{All}
use Rattle.standard.specs.Grammar.{is_singleton}
use Rattle.standard.specs.Identifier.{Identifier}
use Rattle.standard.specs.Reading.{split, up_to, read, good}
use Rattle.standard.specs.Places.{Span, Places, places_of, unwritten, shown, written, Apart, Inside}
use Rattle.standard.proofs.Places.{not-overlapping}
use Rattle.std.specs.Prelude.{Option, Some, None}
use Rattle.underline.specs.declared.Part.{Part}
use Rattle.underline.specs.declared.Part.TheVariants.{Language, Script, Region, Variants}
use Rattle.underline.specs.Underline.{part_spans, Drawable}

-- spans apart from a column on are so from an earlier one on
pub apart-earlier : (a b : ℕ) (ss : List Span) → a ≤ b → Apart b ss → Apart a ss
unfolding Apart
apart-earlier a b [] h p = p
apart-earlier a b (s ∷ ss) h p = (let q = p.0 in omega arith, p.1)

-- the front and the end of spans that can be marked
apart-front : (at : ℕ) (ss ts : List Span) → Apart at (ss ++ ts) → Apart at ss
unfolding Apart
apart-front at [] ts p = tt
apart-front at (s ∷ ss) ts p = (p.0, apart-front (s.start + suc s.len) ss ts p.1)

apart-end : (at : ℕ) (ss ts : List Span) → Apart at (ss ++ ts) → Apart 0 ts
unfolding Apart
apart-end at [] ts p = apart-earlier 0 at ts (omega arith) p
apart-end at (s ∷ ss) ts p = apart-end (s.start + suc s.len) ss ts p.1

inside-front : (n : ℕ) (ss ts : List Span) → Inside n (ss ++ ts) → Inside n ss
unfolding Inside All
inside-front n [] ts p = tt
inside-front n (s ∷ ss) ts p = (p.0, inside-front n ss ts p.1)

inside-end : (n : ℕ) (ss ts : List Span) → Inside n (ss ++ ts) → Inside n ts
unfolding Inside All
inside-end n [] ts p = p
inside-end n (s ∷ ss) ts p = inside-end n ss ts p.1

module _ (n : ℕ) (ss ts : List Span) (d : Drawable n (ss ++ ts)) where
  front : Drawable n ss
  front = record { apart = apart-front 0 ss ts d.apart; inside = inside-front n ss ts d.inside }

  end : Drawable n ts
  end = record { apart = apart-end 0 ss ts d.apart; inside = inside-end n ss ts d.inside }

none-drawable : (n : ℕ) → Drawable n []
unfolding Apart Inside All
none-drawable n = record { apart = tt; inside = tt }

-- the spans of each part are among all that were written
part-drawable : (n : ℕ) (ps : Places) → Drawable n (written ps) → (part : Option Part) → Drawable n (part_spans part ps)
unfolding written part_spans
part-drawable n ps d None = none-drawable n
part-drawable n ps d (Some Language) = front n (shown ps.language) _ d
part-drawable n ps d (Some Script) = front n (shown ps.script) _ (end n (shown ps.language) _ d)
part-drawable n ps d (Some Region) = front n (shown ps.region) _ (end n (shown ps.script) _ (end n (shown ps.language) _ d))
part-drawable n ps d (Some Variants) = end n (shown ps.region) _ (end n (shown ps.script) _ (end n (shown ps.language) _ d))

-- of every accepted input and every part
pub drawable : (part : Option Part) (x : List ℕ) (i : Identifier) → read x ≡ good i → Drawable (length x) (part_spans part (places_of (up_to is_singleton (split x))))
drawable part x i e =
    let p = not-overlapping x i e in
    part-drawable (length x) (places_of (up_to is_singleton (split x))) (record { apart = p.0; inside = p.1 }) part

-- of a refusal, which has no places
pub refused-drawable : (part : Option Part) (n : ℕ) → Drawable n (part_spans part unwritten)
unfolding written shown
refused-drawable part n = part-drawable n unwritten (none-drawable n) part
