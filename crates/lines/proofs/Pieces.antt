-- Laws of the rows of a piece. Assumes nothing.
use mathlib.Core.Path.{◌≡◌, refl, sym, ap, ap₂, ◌∙◌}
use mathlib.Core.List.{List, [], ◌∷◌, ◌++◌, map, append_assoc}
use mathlib.Core.Logic.{⊎_elim}
use Prim.Native.Nat.{ℕ, zero, suc, ◌+◌, ◌-◌, ◌≤◌, ◌<◌}
use native.Mathlib.Omega.{arith}
use lib.ListN.{length, take, drop, length-append, length-drop, drop_of_length-le}
use lib.Seq.{sets, drop-drop, length-sets, length-take-le, take_all}
use borrow.Author.Tests.{le-leb, lt-leb}
use Rattle.byte_string.proofs.Stores.{sets-append}
use Rattle.standard.proofs.General.{le-or-lt}
use Rattle.table.specs.Lines.{lines}
use Rattle.byte_string.specs.Strings.{end_of}
use Rattle.table.proofs.Lines.{lines_at}
use Rattle.byte_string.proofs.Ends.{end-le, end_ge}
use Rattle.lines.specs.Squeeze.{Bytes, handed, all_lines, together}
use Rattle.lines.proofs.Laws.{all_lines_lem}
use Rattle.lines.specs.Pieces.{rows_text, answered, span, piece_text, at_most, piece_used, Next}

pub drop-most : (x : Bytes) (m : ℕ) → drop (at_most (length x) m) x ≡ drop m x
unfolding at_most
drop-most x m = ⊎_elim (λ h. ap (λ (k : ℕ). drop k x) (let e : length x - (length x - m) ≡ m = omega arith in e)) (λ h. rw (drop_of_length-le x {i = m} (omega arith), drop_of_length-le x {i = length x - (length x - m)} (omega arith))) (le-or-lt m (length x))

pub rest-length : (x : Bytes) (from : ℕ) → length (take (length x - from) (drop from x)) ≡ length x - from
rest-length x from = let d = length-drop from x in length-take-le (length x - from) (drop from x) (omega arith)

-- the line that starts at i
pub record Line (x : Bytes) (i e : ℕ) : Type 0 where
  pub low : i ≤ e
  pub high : e ≤ length x
  pub size : length (take (e - i) (drop i x)) ≡ e - i
  pub first : lines (drop i x) ≡ take (e - i) (drop i x) ∷ lines (drop (e + 1) x)

pub line : (x : Bytes) (i e : ℕ) → i < length x → e ≡ end_of 10 x i → Line x i e
line x i e h q = record {
  low = rw q (end_ge 10 x i (omega arith));
  high = rw q (end-le 10 x i);
  size = let a = end-le 10 x i in let d = length-drop i x in rw q (length-take-le (end_of 10 x i - i) (drop i x) (omega arith));
  first = rw q (lines_at x i h);
}

-- the next line starts above this one
pub next-above : (x : Bytes) (i e at : ℕ) → i < length x → e ≡ end_of 10 x i → Next (length x) e at → i < at
next-above x i e at h q n = let l = line x i e h q in ⊎_elim (λ g. let z = n.end g in omega (arith, l.low)) (λ g. let z = n.behind g in omega (arith, l.low)) (le-or-lt (length x) e)

-- no rows
pub rows_none : (row : Bytes → Bytes) → rows_text row [] ≡ []
unfolding rows_text
rows_none row = refl

-- the rows of some lines, then those of others
pub rows_append : (row : Bytes → Bytes) (ls ms : List Bytes) → rows_text row (ls ++ ms) ≡ rows_text row ls ++ rows_text row ms
unfolding rows_text
rows_append row [] ms = refl
rows_append row (l ∷ ls) ms = ap (λ (x : Bytes). row l ++ x) (rows_append row ls ms) ∙ sym (append_assoc (row l) (rows_text row ls) (rows_text row ms))

-- the lines from there on, and how many bytes are used up to it
pub next-lines : (x : Bytes) (e at : ℕ) → Next (length x) e at → lines (drop (e + 1) x) ≡ lines (drop at x)
next-lines x e at n =
    ⊎_elim (λ h. rw (drop_of_length-le x {i = e + 1} (omega arith), drop_of_length-le x {i = at} (let z = n.end h in omega arith)))
    (λ h. ap (λ (k : ℕ). lines (drop k x)) (sym (n.behind h))) (le-or-lt (length x) e)

pub next-used : (x : Bytes) (e at at' s : ℕ) → at ≤ e → e ≤ length x → Next (length x) e at' → at_most (length x) (at' + s) ≡ at_most (length x) (at + (e - at + 1 + s))
unfolding at_most
next-used x e at at' s h k n = ⊎_elim (λ g. let z = n.end g in omega arith) (λ g. let z = n.behind g in omega arith) (le-or-lt (length x) e)

module _ (row : Bytes → Bytes) (need : ℕ) where
  answered-more : (room : ℕ) (l : Bytes) (ls : List Bytes) → need ≤ room → answered row need room (l ∷ ls) ≡ l ∷ answered row need (room - length (row l)) ls
  unfolding answered
  answered-more room l ls h = rw (le-leb need room h, answered)

  answered-full : (room : ℕ) (ls : List Bytes) → room < need → answered row need room ls ≡ []
  unfolding answered
  answered-full room [] h = refl
  answered-full room (l ∷ ls) h = rw (lt-leb need room h, answered)

  -- The lines that are answered, then those of the rest of the piece, are all its lines.
  Rest : ℕ → Bytes → Type 0
  Rest room x = answered row need room (lines x) ++ lines (drop (span (answered row need room (lines x))) x) ≡ lines x

  rest-full : (room : ℕ) (x : Bytes) → room < need → Rest room x
  unfolding span Rest
  rest-full room x h = rw (answered-full room (lines x) h)

  rest-none : (room : ℕ) → Rest room []
  unfolding span answered lines Rest
  rest-none room = refl

  rest_more : (room : ℕ) (x : Bytes) (e : ℕ) → need ≤ room → Line x 0 e → Rest (room - length (row (take e x))) (drop (e + 1) x) → Rest room x
  unfolding span Rest
  rest_more room x e h l r =
      let a = answered row need (room - length (row (take e x))) (lines (drop (e + 1) x)) in
      let z : e - 0 ≡ e = omega arith in
      let n : length (take e x) + 1 + span a ≡ e + 1 + span a = let s = rw z at l.size in omega arith in
      rw (rw z at l.first, answered-more room (take e x) (lines (drop (e + 1) x)) h, n, ← (drop-drop (span a) (e + 1) x)) (ap (◌∷◌ (take e x)) r)

  rest_from : (k room : ℕ) (x : Bytes) → length x ≤ k → Rest room x
  rest_from zero room [] h = rest-none room
  rest_from zero room (b ∷ x) h = absurd (omega arith)
  rest_from (suc k) room [] h = rest-none room
  rest_from (suc k) room (b ∷ x) h =
      ⊎_elim (λ g. let e = end_of 10 (b ∷ x) 0 in rest_more room (b ∷ x) e g (line (b ∷ x) 0 e (omega arith) refl) (rest_from k (room - length (row (take e (b ∷ x)))) (drop (e + 1) (b ∷ x)) (omega (arith, length-drop (e + 1) (b ∷ x))))) (rest-full room (b ∷ x)) (le-or-lt need room)

  pub rest_lines : (room : ℕ) (x : Bytes) → answered row need room (lines x) ++ lines (drop (piece_used row need room x) x) ≡ lines x
  unfolding piece_used Rest
  rest_lines room x = rw (drop-most x (span (answered row need room (lines x)))) (rest_from (length x) room x (omega arith))

  pub rest-rows : (room : ℕ) (x : Bytes) → piece_text row need room x ++ rows_text row (lines (drop (piece_used row need room x) x)) ≡ rows_text row (lines x)
  unfolding piece_text
  rest-rows room x = sym (rows_append row (answered row need room (lines x)) (lines (drop (piece_used row need room x) x))) ∙ ap (rows_text row) (rest_lines room x)

  -- Rows that are being made: what is left of the piece settles the rest.
  abbrev left : Bytes → Bytes → ℕ → ℕ → List Bytes
  left x out₀ at len = answered row need (length out₀ - len) (lines (drop at x))

  pub record Going (x out₀ out : Bytes) (at len : ℕ) : Type 0 where
    pub within : at ≤ length x
    pub room : len ≤ length out₀
    pub same : length out ≡ length out₀
    pub used : at_most (length x) (at + span (left x out₀ at len)) ≡ piece_used row need (length out₀) x
    pub total : len + length (rows_text row (left x out₀ at len)) ≡ length (piece_text row need (length out₀) x)
    pub bytes : sets out len (rows_text row (left x out₀ at len)) ≡ sets out₀ 0 (piece_text row need (length out₀) x)

  pub going_start : (x out : Bytes) → Going x out out 0 0
  unfolding piece_used piece_text
  going_start x out =
      let z : length out - 0 ≡ length out = omega arith in
      record { within = omega arith; room = omega arith; same = refl; used = rw z (ap (at_most (length x)) (let y : 0 + span (answered row need (length out) (lines x)) ≡ span (answered row need (length out) (lines x)) = omega arith in y)); total = rw z (omega arith); bytes = rw z refl }

  pub going_more : (x out₀ out out' : Bytes) (at at' e len len' : ℕ) → Going x out₀ out at len → at < length x → e ≡ end_of 10 x at → Next (length x) e at' → len + need ≤ length out₀
      → len' ≡ len + length (row (take (e - at) (drop at x))) → out' ≡ sets out len (row (take (e - at) (drop at x))) → len' ≤ len + need
      → Going x out₀ out' at' len'
  unfolding rows_text span
  going_more x out₀ out out' at at' e len len' g h q n k p o f =
      let l = line x at e h q in
      let t = take (e - at) (drop at x) in
      let z : length out₀ - len - length (row t) ≡ length out₀ - len' = omega arith in
      let m : left x out₀ at len ≡ t ∷ left x out₀ at' len' = rw (l.first, answered-more (length out₀ - len) t (lines (drop (e + 1) x)) (omega arith), z, next-lines x e at' n) refl in
      let s = left x out₀ at' len' in
      record {
        within = ⊎_elim (λ g. let y = n.end g in omega (arith, l.high)) (λ g. let y = n.behind g in omega arith) (le-or-lt (length x) e);
        room = omega arith;
        same = rw o (length-sets out len (row t) ∙ g.same);
        used = next-used x e at at' (span s) l.low l.high n ∙ (let y = rw (m, l.size) at g.used in y);
        total = let y = rw m at g.total in omega (arith, length-append (row t) (rows_text row s));
        bytes = ap₂ (λ (y : Bytes) (j : ℕ). sets y j (rows_text row s)) o p ∙ (sym (sets-append out len (row t) (rows_text row s)) ∙ (rw m at g.bytes));
      }

  -- the piece was answered whole, or there is no more room
  module _ (x out₀ out : Bytes) (at len : ℕ) (g : Going x out₀ out at len) where
    done : left x out₀ at len ≡ [] → (at ≡ piece_used row need (length out₀) x) × (len ≡ length (piece_text row need (length out₀) x)) × (out ≡ sets out₀ 0 (piece_text row need (length out₀) x))
    unfolding rows_text span at_most
    done e = let u = rw e at g.used in let t = rw e at g.total in (omega (arith, g.within), omega arith, rw e at g.bytes)

    pub going_end : length x ≤ at → (at ≡ piece_used row need (length out₀) x) × (len ≡ length (piece_text row need (length out₀) x)) × (out ≡ sets out₀ 0 (piece_text row need (length out₀) x))
    unfolding answered lines
    going_end h = done (rw (drop_of_length-le x {i = at} h) refl)

    pub going-full : length out₀ < len + need → (at ≡ piece_used row need (length out₀) x) × (len ≡ length (piece_text row need (length out₀) x)) × (out ≡ sets out₀ 0 (piece_text row need (length out₀) x))
    going-full h = done (answered-full (length out₀ - len) (lines (drop at x)) (omega (arith, g.room)))

  -- where there is room for a row, a piece that is not empty gets further
  pub used-some : (room : ℕ) (x : Bytes) → need ≤ room → 0 < length x → 0 < piece_used row need room x
  unfolding piece_used at_most span
  used-some room x h k =
      let e = end_of 10 x 0 in
      let l = line x 0 e k refl in
      rw (l.first, answered-more room (take (e - 0) x) (lines (drop (e + 1) x)) h) (omega arith)

  -- the same of the rest of a piece, as code lends it
  pub used-rest : (room : ℕ) (x : Bytes) (from : ℕ) → need ≤ room → from < length x → 0 < piece_used row need room (take (length x - from) (drop from x))
  used-rest room x from h k = used-some room (take (length x - from) (drop from x)) h (omega (arith, rest-length x from))

-- Of a line only the first 260 bytes matter where all lines of more than 258 bytes are answered alike.
pub first-enough : {B : Type 0} (answer : Bytes → B) (same : B) → ((x : Bytes) → 258 < length x → answer x ≡ same) → (x : Bytes) → answer (take 260 x) ≡ answer x
first-enough answer same long x =
    ⊎_elim (λ h. ap answer (take_all 260 x h))
    (λ h. long (take 260 x) (omega (arith, length-take-le 260 x (omega arith))) ∙ sym (long x (omega arith))) (le-or-lt (length x) 260)

-- A program over the line reader: where of a line only the first 260 bytes matter, the rows of the lines that are handed
-- over are the rows of the lines of the input, wherever its blocks end.
module _ (row : Bytes → Bytes) (first : (x : Bytes) → row (take 260 x) ≡ row x) where
  pub rows-first : (ls : List Bytes) → rows_text row (map (take 260) ls) ≡ rows_text row ls
  unfolding rows_text
  rows-first [] = refl
  rows-first (l ∷ ls) = ap₂ (λ (a b : Bytes). a ++ b) (first l) (rows-first ls)

  pub rows-handed : (bs : List Bytes) → rows_text row (all_lines (handed [] bs)) ≡ rows_text row (lines (together bs))
  rows-handed bs = ap (rows_text row) (all_lines_lem bs) ∙ rows-first (lines (together bs))
