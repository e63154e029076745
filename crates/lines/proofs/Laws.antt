-- Laws of the line reader. Assumes nothing.
use mathlib.Core.Path.{◌≡◌, refl, sym, ap, ◌∙◌}
use mathlib.Core.Bool.{cond}
use mathlib.Core.List.{List, [], ◌∷◌, ◌++◌, map, append_assoc, append-nil}
use mathlib.Core.Logic.{⊎_elim}
use Prim.Native.Nat.{ℕ, suc, ◌+◌, ◌-◌, ◌≤◌, ◌<◌}
use native.Mathlib.Numerals.{add-one}
use native.Mathlib.Omega.{arith}
use lib.Dec.{eqb}
use lib.ListN.{length, take, drop, get_or, length-append, length-drop, drop_of_length-le}
use lib.Seq.{paste, sets, sets-eq, take_all, take_at, drop_at, drop-cons, length-sets, length-take-le}
use borrow.Author.Tests.{eq-eqb, ne_eqb, lt-ltb, le-ltb, eqb-true, eqb-false}
use Rattle.standard.specs.Tag.{onto}
use Rattle.standard.proofs.General.{bool_cases, le-or-lt}
use Rattle.byte_string.proofs.Stores.{sets-append}
use Rattle.table.specs.Lines.{lines}
use Rattle.lines.specs.Squeeze.{Bytes, next_run, kept, squeezed, run_after, taken_in, whole_length, handed_over, unfinished, handed, all_lines, together}

-- One byte: 0A, one that is kept, and one that is not.
pub next-end : (run b : ℕ) → b ≡ 10 → next_run run b ≡ 0
unfolding next_run
next-end run b e = rw (eq-eqb b 10 e)

pub next_more : (run b : ℕ) → (b ≡ 10 → ⊥) → run < 260 → next_run run b ≡ suc run
unfolding next_run
next_more run b f h = rw (ne_eqb b 10 f, lt-ltb run 260 h)

pub next-full : (run b : ℕ) → (b ≡ 10 → ⊥) → 260 ≤ run → next_run run b ≡ run
unfolding next_run
next-full run b f h = rw (ne_eqb b 10 f, le-ltb run 260 h)

pub kept-end : (run b : ℕ) → b ≡ 10 → kept run b ≡ b ∷ []
unfolding kept
kept-end run b e = rw (eq-eqb b 10 e)

pub kept_more : (run b : ℕ) → (b ≡ 10 → ⊥) → run < 260 → kept run b ≡ b ∷ []
unfolding kept
kept_more run b f h = rw (ne_eqb b 10 f, lt-ltb run 260 h)

pub kept_full : (run b : ℕ) → (b ≡ 10 → ⊥) → 260 ≤ run → kept run b ≡ []
unfolding kept
kept_full run b f h = rw (ne_eqb b 10 f, le-ltb run 260 h)

byte-cases : {P : Type 0} (run b : ℕ) → (b ≡ 10 → P) → ((b ≡ 10 → ⊥) → run < 260 → P) → ((b ≡ 10 → ⊥) → 260 ≤ run → P) → P
byte-cases run b end few full =
    bool_cases (eqb b 10) (λ e. end (eqb-true b 10 e)) (λ e. ⊎_elim (full (eqb-false b 10 e)) (few (eqb-false b 10 e)) (le-or-lt 260 run))

-- Squeezing a piece after a piece is squeezing both.
pub squeezed-append : (run : ℕ) (x y : Bytes) → squeezed run (x ++ y) ≡ squeezed run x ++ squeezed (run_after run x) y
unfolding squeezed run_after
squeezed-append run [] y = refl
squeezed-append run (b ∷ x) y = rw (squeezed-append (next_run run b) x y) (sym (append_assoc (kept run b) (squeezed (next_run run b) x) (squeezed (run_after (next_run run b) x) y)))

-- one byte more of a block
module _ (x : Bytes) (i : ℕ) (h : i < length x) (run : ℕ) where
  pub squeezed-more : squeezed run (drop i x) ≡ kept run (get_or x i 0) ++ squeezed (next_run run (get_or x i 0)) (drop (i + 1) x)
  unfolding squeezed
  squeezed-more = rw (add-one, drop-cons x i 0)

  pub run_more : run_after run (drop i x) ≡ run_after (next_run run (get_or x i 0)) (drop (i + 1) x)
  unfolding run_after
  run_more = rw (add-one, drop-cons x i 0)

-- A line without 0A.
data Plain : Bytes → Type 0 where
  none : Plain []
  more : {b : ℕ} {x : Bytes} → (b ≡ 10 → ⊥) → Plain x → Plain (b ∷ x)

plain-snoc : {x : Bytes} (b : ℕ) → (b ≡ 10 → ⊥) → Plain x → Plain (x ++ (b ∷ []))
plain-snoc b f none = more f none
plain-snoc b f (more g p) = more g (plain-snoc b f p)

-- lines that begin with it
line-end : (u z : Bytes) → Plain u → lines (u ++ (10 ∷ z)) ≡ u ∷ lines z
unfolding lines onto
line-end [] z none = refl
line-end (b ∷ u) z (more f p) = rw (ne_eqb b 10 f, line-end u z p)

first : Bytes → Bytes
first [] = []
first (b ∷ x) = cond (eqb b 10) [] (b ∷ first x)

later : Bytes → List Bytes
later [] = []
later (b ∷ x) = cond (eqb b 10) (lines x) (later x)

open-one : (b : ℕ) (x : Bytes) → onto b (lines x) ≡ (b ∷ first x) ∷ later x
unfolding lines onto first later
open-one b [] = refl
open-one b (d ∷ x) = bool_cases (eqb d 10) (λ e. rw e) (λ e. rw e (ap (onto b) (open-one d x)))

line-open : (c : ℕ) (u x : Bytes) → Plain (c ∷ u) → lines (c ∷ (u ++ x)) ≡ (c ∷ (u ++ first x)) ∷ later x
unfolding lines onto
line-open c [] x (more f p) = rw (ne_eqb c 10 f) (open-one c x)
line-open c (d ∷ u) x (more f p) = rw (ne_eqb c 10 f, line-open d u x p)

-- a full line takes no more
line-full : (u : Bytes) (b : ℕ) (x : Bytes) → Plain u → (b ≡ 10 → ⊥) → length u ≡ 260 → map (take 260) (lines (u ++ (b ∷ x))) ≡ map (take 260) (lines (u ++ x))
unfolding first later
line-full [] b x p f e = absurd (omega arith)
line-full (c ∷ u) b x p f e =
    rw (line-open c u (b ∷ x) p, line-open c u x p, ne_eqb b 10 f)
    (ap (λ (l : Bytes). l ∷ map (take 260) (later x)) (take_at (c ∷ u) (b ∷ first x) 260 e ∙ sym (take_at (c ∷ u) (first x) 260 e)))

-- a line by itself
line-alone : (u : Bytes) → Plain u → length u ≤ 260 → lines u ≡ map (take 260) (lines u)
unfolding lines first later
line-alone [] p h = refl
line-alone (c ∷ u) p h = rw (← (append-nil u), line-open c u [] p) (ap (λ (l : Bytes). l ∷ []) (sym (take_all 260 (c ∷ (u ++ [])) (omega (arith, length-append u [])))))

-- What is squeezed has the lines of the input, each cut to 260 bytes.
snoc-length : (u : Bytes) (b : ℕ) → length (u ++ (b ∷ [])) ≡ suc (length u)
snoc-length u b = omega (arith, length-append u (b ∷ []))

squeezed-lines : (u x : Bytes) → Plain u → length u ≤ 260 → lines (u ++ squeezed (length u) x) ≡ map (take 260) (lines (u ++ x))
unfolding squeezed
squeezed-lines u [] p h = rw append-nil (line-alone u p h)
squeezed-lines u (b ∷ x) p h = byte-cases (length u) b
    (λ e. rw (kept-end (length u) b e, next-end (length u) b e, e, line-end u (squeezed 0 x) p, line-end u x p, squeezed-lines [] x none (omega arith)) (ap (λ (l : Bytes). l ∷ map (take 260) (lines x)) (sym (take_all 260 u h))))
    (λ f k. rw (kept_more (length u) b f k, next_more (length u) b f k, ← (snoc-length u b), ← (append_assoc u (b ∷ []) (squeezed (length (u ++ (b ∷ []))) x)), ← (append_assoc u (b ∷ []) x)) (squeezed-lines (u ++ (b ∷ [])) x (plain-snoc b f p) (omega (arith, snoc-length u b))))
    (λ f k. rw (kept_full (length u) b f k, next-full (length u) b f k) (squeezed-lines u x p h ∙ sym (line-full u b x p f (omega arith))))

pub lines-squeezed : (x : Bytes) → lines (squeezed 0 x) ≡ map (take 260) (lines x)
lines-squeezed x = squeezed-lines [] x none (omega arith)

-- The whole lines of what is taken in, and the unfinished line behind them.
record Cut (y : Bytes) (run : ℕ) : Type 0 where
  whole : Bytes
  rest : Bytes
  parts : y ≡ whole ++ rest
  size : length rest ≡ run
  plain : Plain rest
  apart : (z : Bytes) → lines (whole ++ z) ≡ lines whole ++ lines z

cut : (u b : Bytes) → Plain u → Cut (u ++ squeezed (length u) b) (run_after (length u) b)
unfolding squeezed run_after lines
cut u [] p = record { whole = []; rest = u; parts = append-nil u; size = refl; plain = p; apart = λ z. refl }
cut u (b ∷ x) p = byte-cases (length u) b
    (λ e. let c = cut [] x none in rw (kept-end (length u) b e, next-end (length u) b e, e) (record {
      whole = u ++ (10 ∷ c.whole);
      rest = c.rest;
      parts = rw c.parts (sym (append_assoc u (10 ∷ c.whole) c.rest));
      size = c.size;
      plain = c.plain;
      apart = λ z. rw (append_assoc u (10 ∷ c.whole) z, line-end u (c.whole ++ z) p, line-end u c.whole p, c.apart z);
    }))
    (λ f k. rw (kept_more (length u) b f k, next_more (length u) b f k, ← (snoc-length u b), ← (append_assoc u (b ∷ []) (squeezed (length (u ++ (b ∷ []))) x))) (cut (u ++ (b ∷ [])) x (plain-snoc b f p)))
    (λ f k. rw (kept_full (length u) b f k, next-full (length u) b f k) (cut u x p))

module _ (u b : Bytes) (c : Cut (u ++ squeezed (length u) b) (run_after (length u) b)) where
  taken-parts : taken_in u b ≡ c.whole ++ c.rest
  unfolding taken_in
  taken-parts = c.parts

  whole_length_lem : whole_length u b ≡ length c.whole
  unfolding whole_length
  whole_length_lem = rw (taken-parts) (omega (arith, length-append c.whole c.rest, c.size))

handed-lines : (u : Bytes) (bs : List Bytes) → Plain u → all_lines (handed u bs) ≡ lines (u ++ squeezed (length u) (together bs))
unfolding handed handed_over unfinished all_lines together squeezed
handed-lines u [] p = append-nil (lines u) ∙ ap lines (sym (append-nil u))
handed-lines u (b ∷ bs) p =
    let c = cut u b p in
    let n = whole_length_lem u b c in
    rw (n, taken-parts u b c, take_at c.whole c.rest (length c.whole) refl, drop_at c.whole c.rest (length c.whole) refl, handed-lines c.rest bs c.plain, ← (c.apart (c.rest ++ squeezed (length c.rest) (together bs))), c.size, squeezed-append (length u) b (together bs), ← (append_assoc u (squeezed (length u) b) (squeezed (run_after (length u) b) (together bs))), c.parts)
    (ap lines (sym (append_assoc c.whole c.rest (squeezed (run_after (length u) b) (together bs)))))

-- THE LINE READER: the lines of the pieces that are handed over are the lines of the input, each cut to 260 bytes,
-- wherever the blocks of input end.
pub all_lines_lem : (bs : List Bytes) → all_lines (handed [] bs) ≡ map (take 260) (lines (together bs))
all_lines_lem bs = handed-lines [] bs none ∙ lines-squeezed (together bs)

-- Bounds.
pub kept-length : (run b : ℕ) → length (kept run b) ≤ 1
kept-length run b = byte-cases run b (λ e. rw (kept-end run b e) (omega arith)) (λ f k. rw (kept_more run b f k) (omega arith)) (λ f k. rw (kept_full run b f k) (omega arith))

pub run_fits : (run b at : ℕ) → run ≤ at → next_run run b ≤ at + length (kept run b)
run_fits run b at h = byte-cases run b (λ e. rw (next-end run b e) (omega arith)) (λ f k. rw (next_more run b f k, kept_more run b f k) (omega arith)) (λ f k. rw (next-full run b f k, kept_full run b f k) (omega arith))

-- A block that is being taken in: what is left of it settles the rest.
pub record Taking (block piece₀ piece : Bytes) (run end n i : ℕ) : Type 0 where
  pub within : i ≤ length block
  pub few : n ≤ 260
  pub fits : n ≤ end
  pub room : end + length block ≤ run + length block + i
  pub same : length piece ≡ length piece₀
  pub total : end + length (squeezed n (drop i block)) ≡ run + length (squeezed run block)
  pub left : run_after n (drop i block) ≡ run_after run block
  pub bytes : sets piece end (squeezed n (drop i block)) ≡ sets piece₀ run (squeezed run block)

pub taking-start : (block piece : Bytes) (run : ℕ) → run ≤ 260 → Taking block piece piece run run run 0
taking-start block piece run h = record { within = omega arith; few = h; fits = omega arith; room = omega arith; same = refl; total = refl; left = refl; bytes = refl }

pub taking-more : (block piece₀ piece piece' : Bytes) (run end end' n n' i : ℕ) → Taking block piece₀ piece run end n i → i < length block
    → end' ≡ end + length (kept n (get_or block i 0)) → piece' ≡ sets piece end (kept n (get_or block i 0)) → n' ≡ next_run n (get_or block i 0) → n' ≤ 260
    → Taking block piece₀ piece' run end' n' (i + 1)
taking-more block piece₀ piece piece' run end end' n n' i t h e p q k =
    let s = squeezed-more block i h n in
    let a = length-append (kept n (get_or block i 0)) (squeezed (next_run n (get_or block i 0)) (drop (i + 1) block)) in
    let m = kept-length n (get_or block i 0) in
    let f = run_fits n (get_or block i 0) end t.fits in
    record {
      within = omega arith;
      few = k;
      fits = rw (q, e) f;
      room = omega (arith, t.room);
      same = rw p (length-sets piece end (kept n (get_or block i 0)) ∙ t.same);
      total = rw (q, e) (let z = rw s at t.total in omega arith);
      left = rw q (sym (run_more block i h n) ∙ t.left);
      bytes = rw (q, e, p) (sym (sets-append piece end (kept n (get_or block i 0)) (squeezed (next_run n (get_or block i 0)) (drop (i + 1) block))) ∙ (rw s at t.bytes));
    }

-- all of it was
pub taking-end : (block piece₀ piece : Bytes) (run end n i : ℕ) → Taking block piece₀ piece run end n i → length block ≤ i
    → (end ≡ run + length (squeezed run block)) × ((end - n) + run_after run block ≡ end) × (piece ≡ sets piece₀ run (squeezed run block)) × (end ≤ run + length block) × (end ≤ end - n + 260)
unfolding squeezed run_after
taking-end block piece₀ piece run end n i t h =
    let d = drop_of_length-le block h in
    let e = rw d at t.total in
    let l = rw d at t.left in
    let f = t.fits in
    let k = t.few in
    (omega arith, omega arith, rw d at t.bytes, omega (arith, t.room, t.within), omega arith)

-- The unfinished line moved to the front.
pub moved : (l : Bytes) (whole end : ℕ) → whole ≤ end → end ≤ length l → paste l 0 (drop whole l) (end - whole) ≡ sets l 0 (take (end - whole) (drop whole l))
moved l whole end h k =
    let x = take (end - whole) (drop whole l) in
    let d = length-drop whole l in
    let n : length x ≡ end - whole = length-take-le (end - whole) (drop whole l) (omega arith) in
    let z : 0 + length x ≡ 0 + (end - whole) = omega arith in
    sym (sets-eq x l 0 (omega arith) ∙ ap (λ (i : ℕ). x ++ drop i l) z)
