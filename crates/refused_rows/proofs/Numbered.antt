-- Laws of the rows of numbered lines of a piece. Assumes nothing.
use Rattle.std.proofs.Common.{◌≡◌, ℕ, zero, suc, ◌+◌, ◌-◌, ◌<◌, ◌≤◌, List, [], ◌∷◌, ◌++◌, length, take, drop, sym, refl, ap, ◌∙◌, ap₂, ⊎_elim, append_assoc, arith, length-append, length-drop, drop_of_length-le, drop-drop, le-leb}
use lib.Seq.{sets, length-sets}
use borrow.Author.Tests.{lt-leb}
use Rattle.standard.proofs.General.{le-or-lt}
use Rattle.byte_string.specs.Strings.{end_of}
use Rattle.byte_string.proofs.Stores.{sets-append}
use Rattle.table.specs.Lines.{lines}
use Rattle.lines.specs.Squeeze.{Bytes}
use Rattle.lines.specs.Pieces.{span, at_most, Next}
use Rattle.lines.proofs.Pieces.{Line, line, drop-most, next-lines, next-used}
use Rattle.refused_rows.specs.Numbered.{next_number, number_after, rows_from, answered_from, piece_lines, piece_text, piece_used, piece_next}

-- the number behind lines, and behind more
pub after-append : (n : ℕ) (ls ms : List Bytes) → number_after n (ls ++ ms) ≡ number_after (number_after n ls) ms
unfolding number_after
after-append n [] ms = refl
after-append n (l ∷ ls) ms = after-append (next_number n) ls ms

module _ (row : ℕ → Bytes → Bytes) where
  pub rows_append : (n : ℕ) (ls ms : List Bytes) → rows_from row n (ls ++ ms) ≡ rows_from row n ls ++ rows_from row (number_after n ls) ms
  unfolding rows_from number_after
  rows_append n [] ms = refl
  rows_append n (l ∷ ls) ms = ap (λ (x : Bytes). row n l ++ x) (rows_append (next_number n) ls ms) ∙ sym (append_assoc (row n l) (rows_from row (next_number n) ls) (rows_from row (number_after (next_number n) ls) ms))

module _ (row : ℕ → Bytes → Bytes) (need : ℕ) where
  answered-more : (room n : ℕ) (l : Bytes) (ls : List Bytes) → need ≤ room → answered_from row need room n (l ∷ ls) ≡ l ∷ answered_from row need (room - length (row n l)) (next_number n) ls
  unfolding answered_from
  answered-more room n l ls h = rw (le-leb need room h, answered_from)

  answered-full : (room n : ℕ) (ls : List Bytes) → room < need → answered_from row need room n ls ≡ []
  unfolding answered_from
  answered-full room n [] h = refl
  answered-full room n (l ∷ ls) h = rw (lt-leb need room h, answered_from)

  -- The lines that are answered, then those of the rest of the piece, are all its lines.
  Rest : ℕ → ℕ → Bytes → Type 0
  Rest room n x = answered_from row need room n (lines x) ++ lines (drop (span (answered_from row need room n (lines x))) x) ≡ lines x

  rest-full : (room n : ℕ) (x : Bytes) → room < need → Rest room n x
  unfolding span Rest
  rest-full room n x h = rw (answered-full room n (lines x) h)

  rest-none : (room n : ℕ) → Rest room n []
  unfolding span answered_from lines Rest
  rest-none room n = refl

  rest_more : (room n : ℕ) (x : Bytes) (e : ℕ) → need ≤ room → Line x 0 e → Rest (room - length (row n (take e x))) (next_number n) (drop (e + 1) x) → Rest room n x
  unfolding span Rest
  rest_more room n x e h l r =
      let a = answered_from row need (room - length (row n (take e x))) (next_number n) (lines (drop (e + 1) x)) in
      let z : e - 0 ≡ e = omega arith in
      let m : length (take e x) + 1 + span a ≡ e + 1 + span a = let s = rw z at l.size in omega arith in
      rw (rw z at l.first, answered-more room n (take e x) (lines (drop (e + 1) x)) h, m, ← (drop-drop (span a) (e + 1) x)) (ap (λ (y : List Bytes). take e x ∷ y) r)

  rest_from : (k room n : ℕ) (x : Bytes) → length x ≤ k → Rest room n x
  rest_from zero room n [] h = rest-none room n
  rest_from zero room n (b ∷ x) h = absurd (omega arith)
  rest_from (suc k) room n [] h = rest-none room n
  rest_from (suc k) room n (b ∷ x) h =
      ⊎_elim (λ g. let e = end_of 10 (b ∷ x) 0 in rest_more room n (b ∷ x) e g (line (b ∷ x) 0 e (omega arith) refl) (rest_from k (room - length (row n (take e (b ∷ x)))) (next_number n) (drop (e + 1) (b ∷ x)) (omega (arith, length-drop (e + 1) (b ∷ x))))) (rest-full room n (b ∷ x)) (le-or-lt need room)

  pub rest_lines : (room n : ℕ) (x : Bytes) → piece_lines row need room n x ++ lines (drop (piece_used row need room n x) x) ≡ lines x
  unfolding piece_lines piece_used Rest
  rest_lines room n x = rw (drop-most x (span (answered_from row need room n (lines x)))) (rest_from (length x) room n x (omega arith))

  -- Their rows, then the rows of the rest with the number carried on, are the rows of all; and so is the number behind them.
  pub rest-rows : (room n : ℕ) (x : Bytes) → piece_text row need room n x ++ rows_from row (piece_next row need room n x) (lines (drop (piece_used row need room n x) x)) ≡ rows_from row n (lines x)
  unfolding piece_text piece_next
  rest-rows room n x = sym (rows_append row n (piece_lines row need room n x) (lines (drop (piece_used row need room n x) x))) ∙ ap (rows_from row n) (rest_lines room n x)

  pub rest-number : (room n : ℕ) (x : Bytes) → number_after (piece_next row need room n x) (lines (drop (piece_used row need room n x) x)) ≡ number_after n (lines x)
  unfolding piece_next
  rest-number room n x = sym (after-append n (piece_lines row need room n x) (lines (drop (piece_used row need room n x) x))) ∙ ap (number_after n) (rest_lines room n x)

  -- Rows that are being made: what is left of the piece settles the rest.
  abbrev left : Bytes → Bytes → ℕ → ℕ → ℕ → List Bytes
  left x out₀ at next len = answered_from row need (length out₀ - len) next (lines (drop at x))

  pub record Going (first : ℕ) (x out₀ out : Bytes) (at next len : ℕ) : Type 0 where
    pub within : at ≤ length x
    pub room : len ≤ length out₀
    pub same : length out ≡ length out₀
    pub used : at_most (length x) (at + span (left x out₀ at next len)) ≡ piece_used row need (length out₀) first x
    pub number : number_after next (left x out₀ at next len) ≡ piece_next row need (length out₀) first x
    pub total : len + length (rows_from row next (left x out₀ at next len)) ≡ length (piece_text row need (length out₀) first x)
    pub bytes : sets out len (rows_from row next (left x out₀ at next len)) ≡ sets out₀ 0 (piece_text row need (length out₀) first x)

  pub going_start : (first : ℕ) (x out : Bytes) → Going first x out out 0 first 0
  unfolding piece_used piece_text piece_next piece_lines
  going_start first x out =
      let z : length out - 0 ≡ length out = omega arith in
      let a = answered_from row need (length out) first (lines x) in
      record { within = omega arith; room = omega arith; same = refl; used = rw z (ap (at_most (length x)) (let y : 0 + span a ≡ span a = omega arith in y)); number = rw z refl; total = rw z (omega arith); bytes = rw z refl }

  pub going_more : (first : ℕ) (x out₀ out out' : Bytes) (at at' e next next' len len' : ℕ) → Going first x out₀ out at next len → at < length x → e ≡ end_of 10 x at → Next (length x) e at' → len + need ≤ length out₀
      → len' ≡ len + length (row next (take (e - at) (drop at x))) → out' ≡ sets out len (row next (take (e - at) (drop at x))) → len' ≤ len + need → next' ≡ next_number next
      → Going first x out₀ out' at' next' len'
  unfolding rows_from span number_after
  going_more first x out₀ out out' at at' e next next' len len' g h q n k p o f u =
      let l = line x at e h q in
      let t = take (e - at) (drop at x) in
      let z : length out₀ - len - length (row next t) ≡ length out₀ - len' = omega arith in
      let m : left x out₀ at next len ≡ t ∷ left x out₀ at' next' len' = rw (l.first, answered-more (length out₀ - len) next t (lines (drop (e + 1) x)) (omega arith), z, next-lines x e at' n, u) refl in
      let s = left x out₀ at' next' len' in
      record {
        within = ⊎_elim (λ g. let y = n.end g in omega (arith, l.high)) (λ g. let y = n.behind g in omega arith) (le-or-lt (length x) e);
        room = omega arith;
        same = rw o (length-sets out len (row next t) ∙ g.same);
        used = next-used x e at at' (span s) l.low l.high n ∙ (let y = rw (m, l.size) at g.used in y);
        number = ap (λ (i : ℕ). number_after i s) u ∙ (rw m at g.number);
        total = ap (λ (i : ℕ). len' + length (rows_from row i s)) u ∙ (let y = rw m at g.total in omega (arith, length-append (row next t) (rows_from row (next_number next) s)));
        bytes = ap (λ (i : ℕ). sets out' len' (rows_from row i s)) u ∙ ap₂ (λ (y : Bytes) (j : ℕ). sets y j (rows_from row (next_number next) s)) o p ∙ (sym (sets-append out len (row next t) (rows_from row (next_number next) s)) ∙ (rw m at g.bytes));
      }

  -- the piece was answered whole, or there is no more room
  module _ (first : ℕ) (x out₀ out : Bytes) (at next len : ℕ) (g : Going first x out₀ out at next len) where
    pub record Made : Type 0 where
      pub used : at ≡ piece_used row need (length out₀) first x
      pub number : next ≡ piece_next row need (length out₀) first x
      pub size : len ≡ length (piece_text row need (length out₀) first x)
      pub bytes : out ≡ sets out₀ 0 (piece_text row need (length out₀) first x)

    done : left x out₀ at next len ≡ [] → Made
    unfolding rows_from span at_most number_after
    done e =
        let u = rw e at g.used in
        let t = rw e at g.total in
        record { used = omega (arith, g.within); number = rw e at g.number; size = omega arith; bytes = rw e at g.bytes }

    pub going_end : length x ≤ at → Made
    unfolding answered_from lines
    going_end h = done (rw (drop_of_length-le x {i = at} h) refl)

    pub going-full : length out₀ < len + need → Made
    going-full h = done (answered-full (length out₀ - len) next (lines (drop at x)) (omega (arith, g.room)))

  -- where there is room for a row, a piece that is not empty gets further
  pub used-some : (room n : ℕ) (x : Bytes) → need ≤ room → 0 < length x → 0 < piece_used row need room n x
  unfolding piece_used piece_lines at_most span
  used-some room n x h k =
      let e = end_of 10 x 0 in
      let l = line x 0 e k refl in
      rw (l.first, answered-more room n (take (e - 0) x) (lines (drop (e + 1) x)) h) (omega arith)
