-- Laws of rows that are printed with the line's number carried on: in a piece, and from piece to piece. Assumes nothing.
use mathlib.Core.Path.{◌≡◌, refl, sym, ap, ◌∙◌}
use mathlib.Core.Bool.{true, false, true≢false}
use mathlib.Core.List.{List, [], ◌∷◌, ◌++◌, append_assoc, append-nil}
use Prim.Native.Nat.{ℕ, ◌+◌, ◌-◌, ◌%◌, ◌^◌, ◌≤◌, ◌<◌}
use native.Mathlib.Nat.{mod-eq_of_lt, mod-add-mod}
use native.Mathlib.Omega.{arith}
use lib.ListN.{length, take, drop, length-append, drop_of_length-le}
use lib.Seq.{drop-drop}
use Rattle.byte_string.proofs.Stores.{all_from}
use Rattle.table.specs.Lines.{lines}
use Rattle.lines.specs.Squeeze.{Bytes, handed_over, all_lines}
use Rattle.lines.proofs.Blocks.{all_more}
use Rattle.program_io.specs.declared.output.Output.{Output}
use Rattle.program_io.specs.Printed.{Prints, PrintsLines}
use Rattle.program_io.proofs.Printing.{Printing, printing-end, printing-failed}
use Rattle.refused_rows.specs.Numbered.{number_after, rows_from, piece_lines, piece_text, piece_used, piece_next}
use Rattle.refused_rows.proofs.Numbered.{after-append, rows_append, rest_lines}

module _ (row : ℕ → Bytes → Bytes) (first : ℕ) where
  -- no lines have no rows
  pub none : rows_from row first [] ≡ []
  unfolding rows_from
  none = refl

  -- The rows of the lines before `at` were printed, after what `from` counts, and the next line has the number `next`.
  pub record Numbering (x : Bytes) (from o : Output) (at next : ℕ) : Type 0 where
    pub within : at ≤ length x
    pub going : o.failed ≡ false
    pub before : List Bytes
    pub cut : lines x ≡ before ++ lines (drop at x)
    pub number : next ≡ number_after first before
    pub bytes : o.bytes ≡ (from.bytes + length (rows_from row first before)) % 2 ^ 64

  pub numbering_start : (x : Bytes) (from : Output) → from.failed ≡ false → from.bytes < 2 ^ 64 → Numbering x from from 0 first
  unfolding rows_from number_after
  numbering_start x from f h = record {
    within = omega arith;
    going = f;
    before = [];
    cut = refl;
    number = refl;
    bytes = sym ((let z : from.bytes + 0 ≡ from.bytes = omega arith in ap (λ (m : ℕ). m % 2 ^ 64) z) ∙ mod-eq_of_lt h);
  }

  printing : (x : Bytes) (from o : Output) (at next : ℕ) → Numbering x from o at next → Printing (rows_from row first) none x from o at
  printing x from o at next p = record { within = p.within; going = p.going; before = p.before; cut = p.cut; bytes = p.bytes }

  -- one call more, which wrote as many rows as had room
  pub numbering-more : (need room : ℕ) (x : Bytes) (from o o' : Output) (at next used next' len n : ℕ) → Numbering x from o at next → used ≡ piece_used row need room next (take (length x - at) (drop at x))
      → used ≤ length x - at → next' ≡ piece_next row need room next (take (length x - at) (drop at x)) → len ≡ length (piece_text row need room next (take (length x - at) (drop at x))) → n ≡ len
      → Prints o n o' → o'.failed ≡ false → Numbering x from o' (at + used) next'
  unfolding piece_text piece_next
  numbering-more need room x from o o' at next used next' len n p u w m l e q f =
      let y = drop at x in
      let a : take (length x - at) y ≡ y = all_from at x in
      let ms = piece_lines row need room next y in
      let t = rows_from row next ms in
      let s = rows_from row first p.before in
      let d : drop used y ≡ drop (at + used) x = drop-drop used at x in
      let c : lines y ≡ ms ++ lines (drop (at + used) x) =
      sym (rest_lines row need room next y) ∙ ap (λ (k : ℕ). ms ++ lines (drop k y)) (sym (u ∙ ap (piece_used row need room next) a)) ∙ ap (λ (z : Bytes). ms ++ lines z) d in
      let r : rows_from row first (p.before ++ ms) ≡ s ++ t = rows_append row first p.before ms ∙ ap (λ (k : ℕ). s ++ rows_from row k ms) (sym p.number) in
      let k : n ≡ length t = e ∙ l ∙ ap (λ (z : Bytes). length (piece_text row need room next z)) a in
      let z : from.bytes + length s + n ≡ from.bytes + (length s + length t) = omega arith in
      record {
        within = omega (arith, p.within);
        going = f;
        before = p.before ++ ms;
        cut = p.cut ∙ ap (λ (ls : List Bytes). p.before ++ ls) c ∙ sym (append_assoc p.before ms (lines (drop (at + used) x)));
        number = m ∙ ap (λ (z : Bytes). piece_next row need room next z) a ∙ ap (λ (k : ℕ). number_after k ms) p.number ∙ sym (after-append first p.before ms);
        bytes =
            q.counted f ∙ ap (λ (m : ℕ). (m + n) % 2 ^ 64) p.bytes ∙ mod-add-mod (from.bytes + length s) (2 ^ 64) n ∙ ap (λ (m : ℕ). m % 2 ^ 64) z
            ∙ ap (λ (m : ℕ). (from.bytes + m) % 2 ^ 64) (sym (ap length r ∙ length-append s t));
      }

  -- all lines, and a write that failed
  pub numbering-end : (x : Bytes) (from o : Output) (at next : ℕ) → Numbering x from o at next → length x ≤ at
      → PrintsLines (rows_from row first) (lines x) from o × (o.failed ≡ false → next ≡ number_after first (lines x))
  unfolding lines
  numbering-end x from o at next p h =
      let e : lines x ≡ p.before = p.cut ∙ ap (λ (y : Bytes). p.before ++ lines y) (drop_of_length-le x {i = at} h) ∙ append-nil p.before in
      (printing-end (rows_from row first) none x from o at (printing x from o at next p) h, λ _. p.number ∙ ap (number_after first) (sym e))

  pub numbering-failed : (x : Bytes) (from o o' : Output) (at next next' n : ℕ) → Numbering x from o at next → Prints o n o' → o'.failed ≡ true
      → PrintsLines (rows_from row first) (lines x) from o' × (o'.failed ≡ false → next' ≡ number_after first (lines x))
  numbering-failed x from o o' at next next' n p q f =
      (printing-failed (rows_from row first) none x from o o' at n (printing x from o at next p) q f, λ g. absurd (true≢false (sym f ∙ g)))

-- from piece to piece: the rows behind those of the pieces so far, and the next number
module _ (bs : List Bytes) (next : ℕ) (e : next ≡ number_after 1 (all_lines (handed_over [] bs))) where
  pub behind : (row : ℕ → Bytes → Bytes) (ls : List Bytes) → rows_from row 1 (all_lines (handed_over [] bs) ++ ls) ≡ rows_from row 1 (all_lines (handed_over [] bs)) ++ rows_from row next ls
  behind row ls = rows_append row 1 (all_lines (handed_over [] bs)) ls ∙ ap (λ (k : ℕ). rows_from row 1 (all_lines (handed_over [] bs)) ++ rows_from row k ls) (sym e)

  pub number_more : (x : Bytes) (cs : List Bytes) (next' : ℕ) → handed_over [] cs ≡ handed_over [] bs ++ (x ∷ []) → next' ≡ number_after next (lines x) → next' ≡ number_after 1 (all_lines (handed_over [] cs))
  number_more x cs next' h m =
      m ∙ ap (λ (k : ℕ). number_after k (lines x)) e ∙ sym (after-append 1 (all_lines (handed_over [] bs)) (lines x))
      ∙ ap (number_after 1) (sym (ap all_lines h ∙ all_more (handed_over [] bs) x))

pub number-none : 1 ≡ number_after 1 (all_lines (handed_over [] []))
unfolding number_after all_lines handed_over
number-none = refl
