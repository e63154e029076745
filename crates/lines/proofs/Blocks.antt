-- Laws of the line reader between two blocks of input. Assumes nothing.
use mathlib.Core.Path.{◌≡◌, refl, sym, ap, ap₂, ◌∙◌}
use mathlib.Core.List.{List, [], ◌∷◌, ◌++◌, append_assoc, append-nil}
use Prim.Native.Nat.{ℕ, ◌+◌, ◌-◌, ◌≤◌, ◌<◌}
use native.Mathlib.Omega.{arith}
use lib.ListN.{length, take, drop, length-append, length-drop}
use lib.Seq.{sets, sets-eq, take_at, take-append-le, drop-append-le, length-take-le}
use Rattle.byte_string.proofs.Stores.{written}
use Rattle.table.specs.Lines.{lines}
use Rattle.lines.specs.declared.Taken.{Taken}
use Rattle.lines.specs.Squeeze.{Bytes, squeezed, run_after, taken_in, whole_length, handed_over, unfinished, handed, all_lines, together}
use Rattle.lines.specs.Reader.{Placed, Carries, HandsOver}

-- One block more.
over-more : (u : Bytes) (bs : List Bytes) (b : Bytes) → handed_over u (bs ++ (b ∷ [])) ≡ handed_over u bs ++ (take (whole_length (unfinished u bs) b) (taken_in (unfinished u bs) b) ∷ [])
unfolding handed_over unfinished
over-more u [] b = refl
over-more u (c ∷ bs) b = ap (◌∷◌ (take (whole_length u c) (taken_in u c))) (over-more (drop (whole_length u c) (taken_in u c)) bs b)

unfinished-more : (u : Bytes) (bs : List Bytes) (b : Bytes) → unfinished u (bs ++ (b ∷ [])) ≡ drop (whole_length (unfinished u bs) b) (taken_in (unfinished u bs) b)
unfolding unfinished
unfinished-more u [] b = refl
unfinished-more u (c ∷ bs) b = unfinished-more (drop (whole_length u c) (taken_in u c)) bs b

pub together-more : (bs : List Bytes) (b : Bytes) → together (bs ++ (b ∷ [])) ≡ together bs ++ b
unfolding together
together-more [] b = append-nil b
together-more (c ∷ bs) b = ap (λ (x : Bytes). c ++ x) (together-more bs b) ∙ sym (append_assoc c (together bs) b)

-- the lines of one piece more
pub all_more : (xs : List Bytes) (x : Bytes) → all_lines (xs ++ (x ∷ [])) ≡ all_lines xs ++ lines x
unfolding all_lines
all_more [] x = append-nil (lines x)
all_more (y ∷ xs) x = ap (λ (z : List Bytes). lines y ++ z) (all_more xs x) ∙ sym (append_assoc (lines y) (all_lines xs) (lines x))

-- The lines that some blocks and then others hand over.
over-append : (u : Bytes) (bs cs : List Bytes) → handed_over u (bs ++ cs) ≡ handed_over u bs ++ handed_over (unfinished u bs) cs
unfolding handed_over unfinished
over-append u [] cs = refl
over-append u (b ∷ bs) cs = ap (◌∷◌ (take (whole_length u b) (taken_in u b))) (over-append (drop (whole_length u b) (taken_in u b)) bs cs)

unfinished-append : (u : Bytes) (bs cs : List Bytes) → unfinished u (bs ++ cs) ≡ unfinished (unfinished u bs) cs
unfolding unfinished
unfinished-append u [] cs = refl
unfinished-append u (b ∷ bs) cs = unfinished-append (drop (whole_length u b) (taken_in u b)) bs cs

all_append : (xs ys : List Bytes) → all_lines (xs ++ ys) ≡ all_lines xs ++ all_lines ys
unfolding all_lines
all_append [] ys = refl
all_append (x ∷ xs) ys = ap (λ (z : List Bytes). lines x ++ z) (all_append xs ys) ∙ sym (append_assoc (lines x) (all_lines xs) (all_lines ys))

pub handed-rest : (bs cs : List Bytes) → all_lines (handed [] (bs ++ cs)) ≡ all_lines (handed_over [] bs) ++ all_lines (handed (unfinished [] bs) cs)
unfolding handed
handed-rest bs cs =
    ap all_lines (ap₂ (λ (xs : List Bytes) (x : Bytes). xs ++ (x ∷ [])) (over-append [] bs cs) (unfinished-append [] bs cs)
    ∙ append_assoc (handed_over [] bs) (handed_over (unfinished [] bs) cs) (unfinished (unfinished [] bs) cs ∷ []))
    ∙ all_append (handed_over [] bs) (handed_over (unfinished [] bs) cs ++ (unfinished (unfinished [] bs) cs ∷ []))

-- Nothing was read yet.
pub carried-start : (t : Taken) (piece : Bytes) → t.whole ≡ 0 → t.end ≡ 0 → Carries [] t piece
unfolding Carries unfinished
carried-start t piece w e = let z : t.end - t.whole ≡ 0 = omega arith in rw z refl

-- The unfinished line u moved to the front of the piece.
module _ (piece piece₁ : Bytes) (t : Taken) (kept : ℕ) (p : Placed t (length piece)) (k : kept ≡ t.end - t.whole) (q : piece₁ ≡ sets piece 0 (take (t.end - t.whole) (drop t.whole piece))) where
  pub front-line : take kept piece₁ ≡ take (t.end - t.whole) (drop t.whole piece)
  front-line =
      let z = length-take-le (t.end - t.whole) (drop t.whole piece) (omega (arith, length-drop t.whole piece, p.within)) in
      ap₂ take (k ∙ sym z) q ∙ written piece (take (t.end - t.whole) (drop t.whole piece)) (omega (arith, p.within))

-- A block b taken in behind the unfinished line u at the front.
module _ (u piece b : Bytes) (kept : ℕ) (fits : kept ≤ length piece) (line : take kept piece ≡ u) (piece₁ : Bytes) (r : Taken)
    (e : r.end ≡ kept + length (squeezed kept b)) (w : r.whole + run_after kept b ≡ r.end) (p : piece₁ ≡ sets piece kept (squeezed kept b)) (h : r.end ≤ length piece) where
  u-length : length u ≡ kept
  u-length = ap length (sym line) ∙ length-take-le kept piece fits

  taken : taken_in u b ≡ take kept piece ++ squeezed kept b
  unfolding taken_in
  taken = ap₂ (λ (x : Bytes) (n : ℕ). x ++ squeezed n b) (sym line) u-length

  taken-length : length (taken_in u b) ≡ r.end
  taken-length = ap length taken ∙ length-append (take kept piece) (squeezed kept b) ∙ (let t = length-take-le kept piece fits in omega arith)

  whole_is : r.whole ≡ whole_length u b
  unfolding whole_length
  whole_is = let t = taken-length in let k : run_after (length u) b ≡ run_after kept b = ap (λ (n : ℕ). run_after n b) u-length in omega arith

  bytes : piece₁ ≡ taken_in u b ++ drop r.end piece
  bytes =
      p ∙ sets-eq (squeezed kept b) piece kept (omega arith)
      ∙ ap₂ (λ (x : Bytes) (n : ℕ). x ++ drop n piece) (sym taken) (sym e)

  -- at the front stand its whole lines
  whole-lines : take r.whole piece₁ ≡ take (whole_length u b) (taken_in u b)
  whole-lines =
      ap (take r.whole) bytes ∙ take-append-le r.whole (taken_in u b) (drop r.end piece) (let t = taken-length in omega arith)
      ∙ ap (λ (n : ℕ). take n (taken_in u b)) whole_is

  -- and behind them the unfinished one
  rest : take (r.end - r.whole) (drop r.whole piece₁) ≡ drop (whole_length u b) (taken_in u b)
  rest =
      let t = taken-length in
      ap (λ (x : Bytes). take (r.end - r.whole) (drop r.whole x)) bytes ∙ ap (take (r.end - r.whole)) (drop-append-le r.whole (taken_in u b) (drop r.end piece) (omega arith))
      ∙ take_at (drop r.whole (taken_in u b)) (drop r.end piece) (r.end - r.whole) (let d = length-drop r.whole (taken_in u b) in omega arith)
      ∙ ap (λ (n : ℕ). drop n (taken_in u b)) whole_is

  pub hands_more : (bs : List Bytes) → unfinished [] bs ≡ u → 0 < length b → HandsOver bs b r piece₁
  unfolding Carries
  hands_more bs z n = record {
    more = λ _. over-more [] bs b ∙ ap (λ (x : Bytes). handed_over [] bs ++ (x ∷ [])) (ap (λ (v : Bytes). take (whole_length v b) (taken_in v b)) z ∙ sym whole-lines);
    carried = λ _. rest ∙ sym (unfinished-more [] bs b ∙ ap (λ (v : Bytes). drop (whole_length v b) (taken_in v b)) z);
    last = λ m. absurd (omega arith);
  }

-- The end of the input.
pub hands-last : (bs : List Bytes) (b piece : Bytes) (r : Taken) → take r.whole piece ≡ unfinished [] bs → length b ≡ 0 → HandsOver bs b r piece
unfolding handed
hands-last bs b piece r l z = record {
  more = λ n. absurd (omega arith);
  carried = λ n. absurd (omega arith);
  last = λ _. ap (λ (x : Bytes). handed_over [] bs ++ (x ∷ [])) (sym l);
}
