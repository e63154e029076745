-- The pieces of a text by the places where they end; and texts that are joined again.
-- Assumes nothing.
use mathlib.Core.Path.{◌≡◌, refl, sym, ap, ap₂, ◌∙◌}
use mathlib.Core.Bool.{true, false, cond}
use mathlib.Core.List.{List, [], ◌∷◌, ◌++◌}
use Prim.Native.Nat.{ℕ, zero, suc, ◌+◌, ◌-◌, ◌≤◌, ◌<◌, zero-le, suc-le-suc}
use native.Mathlib.Nat.{le_of_suc-le-suc, not-suc-le-zero, sub-zero, suc-sub-suc}
use native.Mathlib.Numerals.{add-one}
use native.Mathlib.Omega.{arith}
use lib.Dec.{eqb, ltb, leb-suc-suc}
use lib.ListN.{length, take, drop}
use borrow.Author.Tests.{eq-eqb, lt-ltb, le-ltb, eqb-true}
use Rattle.standard.specs.Tag.{Tag, onto, All}
use Rattle.standard.specs.Reading.{joined}
use Rattle.standard.specs.Table.{pieces}
use Rattle.standard.proofs.General.{bool_cases}
use Rattle.byte_string.specs.Strings.{end_of}
use Rattle.standard.proofs.Table.{pieces-some}
use Rattle.row_shapes.specs.Shapes.{between, others, no_more}

ltb-suc : (a n : ℕ) → ltb (suc a) (suc n) ≡ ltb a n
ltb-suc a n = leb-suc-suc (suc a) n

-- one byte in front
module _ (b x : ℕ) (s : List ℕ) where
  pub pieces-here : eqb x b ≡ true → pieces b (x ∷ s) ≡ [] ∷ pieces b s
  unfolding pieces
  pieces-here e = rw (e, pieces)

  pub pieces-next : eqb x b ≡ false → pieces b (x ∷ s) ≡ onto x (pieces b s)
  unfolding pieces
  pieces-next e = rw (e, pieces)

  first_piece : pieces b s ≡ take (end_of b s zero) s ∷ others b s (end_of b s zero)
      → pieces b (x ∷ s) ≡ take (cond (eqb x b) zero (suc (end_of b s zero))) (x ∷ s) ∷ others b (x ∷ s) (cond (eqb x b) zero (suc (end_of b s zero)))
  unfolding others onto
  first_piece i =
      bool_cases (eqb x b) (λ e. rw (pieces-here e, e, lt-ltb zero (suc (length s)) (suc-le-suc zero-le)))
      (λ e. rw (pieces-next e, e, ltb-suc (end_of b s zero) (length s)) (ap (onto x) i))

  others-suc : (e : ℕ) → others b s e ≡ others b (x ∷ s) (suc e)
  unfolding others
  others-suc e = rw (ltb-suc e (length s))

-- the pieces from i on: the one that starts there, and those past its end, if it has one
pieces-at' : (b : ℕ) (s : List ℕ) (i : ℕ) → i ≤ length s → pieces b (drop i s) ≡ take (end_of b s i - i) (drop i s) ∷ others b s (end_of b s i)
unfolding end_of pieces others
pieces-at' b [] zero h = refl
pieces-at' b [] (suc i) h = absurd (not-suc-le-zero h)
pieces-at' b (x ∷ s) zero h = rw sub-zero (first_piece b x s (rw sub-zero at (pieces-at' b s zero zero-le)))
pieces-at' b (x ∷ s) (suc i) h =
    rw suc-sub-suc (pieces-at' b s i (le_of_suc-le-suc h) ∙ ap (λ (z : List Tag). take (end_of b s i - i) (drop i s) ∷ z) (others-suc b x s (end_of b s i)))

pub pieces-at : (b : ℕ) (s : List ℕ) (i e : ℕ) → e ≡ end_of b s i → i ≤ length s → pieces b (drop i s) ≡ take (e - i) (drop i s) ∷ others b s e
pieces-at b s i e q h = rw q (pieces-at' b s i h)

pub pieces-first : (b : ℕ) (s : List ℕ) (e : ℕ) → e ≡ end_of b s 0 → pieces b s ≡ take e s ∷ others b s e
pieces-first b s e q = pieces-at b s 0 e q zero-le ∙ rw sub-zero

pub others-at : (b : ℕ) (s : List ℕ) (e f : ℕ) → e < length s → f ≡ end_of b s (e + 1) → others b s e ≡ between s e f ∷ others b s f
unfolding others
others-at b s e f h q = rw (lt-ltb e (length s) h, ← add-one e) (pieces-at b s (e + 1) f q (omega arith))

pub others-none : (b : ℕ) (s : List ℕ) (e : ℕ) → length s ≤ e → others b s e ≡ []
unfolding others
others-none b s e h = rw (le-ltb e (length s) h)

pub more-some : (b : ℕ) (s : List ℕ) (e : ℕ) → e < length s → no_more (others b s e) ≡ false
unfolding no_more
more-some b s e h = rw (others-at b s e (end_of b s (e + 1)) h refl)

-- Pieces have no separator in them, and joined they are the text again.
abbrev pub Free : ℕ → Tag → Type 0
Free b t = All (λ (x : ℕ). eqb x b ≡ false) t

pub pieces-free : (b : ℕ) (s : List ℕ) → All (Free b) (pieces b s)
unfolding pieces All onto
pieces-free b [] = (tt, tt)
pieces-free b (x ∷ s) = bool_cases (eqb x b) (λ e. rw (pieces-here b x s e) (tt, pieces-free b s)) (λ e. rw (pieces-next b x s e) (put e (pieces b s) (pieces-free b s)))
  where
    put : eqb x b ≡ false → (ts : List Tag) → All (Free b) ts → All (Free b) (onto x ts)
    put e [] h = ((e, tt), tt)
    put e (t ∷ ts) h = ((e, h.0), h.1)

joined-sep : (ts : List Tag) (t : Tag) (us : List Tag) → ts ≡ t ∷ us → joined ([] ∷ ts) ≡ 45 ∷ joined ts
unfolding joined
joined-sep ts t us e = rw e

joined-onto : (x : ℕ) (ts : List Tag) (t : Tag) (us : List Tag) → ts ≡ t ∷ us → joined (onto x ts) ≡ x ∷ joined ts
unfolding joined onto
joined-onto x ts t [] e = rw e
joined-onto x ts t (u ∷ us) e = rw e

pub joined-pieces : (s : List ℕ) → joined (pieces 45 s) ≡ s
unfolding pieces joined
joined-pieces [] = refl
joined-pieces (x ∷ s) =
    let p = pieces-some 45 s in
    bool_cases (eqb x 45)
    (λ e. let h = eqb-true x 45 e in ap joined (pieces-here 45 x s e) ∙ joined-sep (pieces 45 s) p.first p.more p.are ∙ ap₂ ◌∷◌ (sym h) (joined-pieces s))
    (λ e. ap joined (pieces-next 45 x s e) ∙ joined-onto x (pieces 45 s) p.first p.more p.are ∙ ap (◌∷◌ x) (joined-pieces s))

pub pieces-alone : (b : ℕ) (t : Tag) → Free b t → pieces b t ≡ t ∷ []
unfolding pieces All onto
pieces-alone b [] h = refl
pieces-alone b (x ∷ t) h = pieces-next b x t h.0 ∙ ap (onto x) (pieces-alone b t h.1)

pub pieces_more : (b : ℕ) (t : Tag) (s : List ℕ) → Free b t → pieces b (t ++ (b ∷ s)) ≡ t ∷ pieces b s
unfolding All onto
pieces_more b [] s h = pieces-here b b s (eq-eqb b b refl)
pieces_more b (x ∷ t) s h = pieces-next b x (t ++ (b ∷ s)) h.0 ∙ ap (onto x) (pieces_more b t s h.1)

pub pieces-joined : (t : Tag) (ts : List Tag) → Free 45 t → All (Free 45) ts → pieces 45 (joined (t ∷ ts)) ≡ t ∷ ts
unfolding joined All
pieces-joined t [] h k = pieces-alone 45 t h
pieces-joined t (u ∷ ts) h k = pieces_more 45 t (joined (u ∷ ts)) h ∙ ap (◌∷◌ t) (pieces-joined u ts k.0 k.1)
