-- Laws of rows that are printed: of the lines of a piece, and piece by piece of the lines of an input. Assumes nothing.
use Rattle.std.proofs.Common.{◌≡◌, ℕ, ◌+◌, ◌-◌, ◌%◌, ◌^◌, ◌<◌, ◌≤◌, true, false, ◌⊎◌, List, [], ◌∷◌, ◌++◌, map, length, take, drop, sym, refl, ap, ◌∙◌, subst, inl, inr, true≢false, append_assoc, append-nil, mod-eq_of_lt, arith, length-append, drop_of_length-le, drop-drop}
use native.Mathlib.Nat.{mod-add-mod}
use Rattle.byte_string.proofs.Stores.{all_from}
use Rattle.table.specs.Lines.{lines}
use Rattle.lines.specs.Squeeze.{Bytes, handed_over, handed, all_lines, together}
use Rattle.lines.specs.Pieces.{rows_text, answered, piece_text, piece_used}
use Rattle.lines.proofs.Laws.{all_lines_lem}
use Rattle.lines.proofs.Pieces.{rows_none, rows_append, rest_lines}
use Rattle.lines.proofs.Blocks.{all_more}
use Rattle.program_io.specs.declared.input.Input.{Input}
use Rattle.program_io.specs.declared.output.Output.{Output}
use Rattle.program_io.specs.declared.input.Last.{Last}
use Rattle.program_io.specs.declared.input.Last.TheVariants.{Block, End, Failure}
use Rattle.program_io.specs.Handed.{is_failure, Read, Ended, Broken, Handed}
use Rattle.program_io.specs.Printed.{Prints, PrintsLines, headed, Headed, Answers}

-- a text more is counted
pub counted : (n a t b : ℕ) → b ≡ (n + a) % 2 ^ 64 → (b + t) % 2 ^ 64 ≡ (n + (a + t)) % 2 ^ 64
counted n a t b e =
    let z : n + a + t ≡ n + (a + t) = omega arith in
    ap (λ (m : ℕ). (m + t) % 2 ^ 64) e ∙ mod-add-mod (n + a) (2 ^ 64) t ∙ ap (λ (m : ℕ). m % 2 ^ 64) z

module _ (rows : List Bytes → Bytes) (none : rows [] ≡ []) where
  -- The rows of the lines before `at` were printed, after what `from` counts.
  pub record Printing (x : Bytes) (from o : Output) (at : ℕ) : Type 0 where
    pub within : at ≤ length x
    pub going : o.failed ≡ false
    pub before : List Bytes
    pub cut : lines x ≡ before ++ lines (drop at x)
    pub bytes : o.bytes ≡ (from.bytes + length (rows before)) % 2 ^ 64

  pub printing-start : (x : Bytes) (from : Output) → from.failed ≡ false → from.bytes < 2 ^ 64 → Printing x from from 0
  printing-start x from f h = record {
    within = omega arith;
    going = f;
    before = [];
    cut = refl;
    bytes = sym (ap (λ (t : Bytes). (from.bytes + length t) % 2 ^ 64) none ∙ (let z : from.bytes + 0 ≡ from.bytes = omega arith in ap (λ (m : ℕ). m % 2 ^ 64) z) ∙ mod-eq_of_lt h);
  }

  pub printing-more : (x : Bytes) (from o o' : Output) (at at' : ℕ) (p : Printing x from o at) (ms : List Bytes) (t : Bytes) → lines (drop at x) ≡ ms ++ lines (drop at' x) → at' ≤ length x
      → rows (p.before ++ ms) ≡ rows p.before ++ t → Prints o (length t) o' → o'.failed ≡ false → Printing x from o' at'
  printing-more x from o o' at at' p ms t l h e q f = record {
    within = h;
    going = f;
    before = p.before ++ ms;
    cut = p.cut ∙ ap (λ (ls : List Bytes). p.before ++ ls) l ∙ sym (append_assoc p.before ms (lines (drop at' x)));
    bytes = q.counted f ∙ counted from.bytes (length (rows p.before)) (length t) o.bytes p.bytes ∙ ap (λ (m : ℕ). (from.bytes + m) % 2 ^ 64) (sym (ap length e ∙ length-append (rows p.before) t));
  }

  -- all lines, and a write that failed
  pub printing-end : (x : Bytes) (from o : Output) (at : ℕ) → Printing x from o at → length x ≤ at → PrintsLines rows (lines x) from o
  unfolding lines
  printing-end x from o at p h =
      let e : lines x ≡ p.before = p.cut ∙ ap (λ (y : Bytes). p.before ++ lines y) (drop_of_length-le x {i = at} h) ∙ append-nil p.before in
      record { all = λ _. p.bytes ∙ ap (λ (ls : List Bytes). (from.bytes + length (rows ls)) % 2 ^ 64) (sym e); first = λ g. absurd (true≢false (sym g ∙ p.going)) }

  pub printing-failed : (x : Bytes) (from o o' : Output) (at n : ℕ) → Printing x from o at → Prints o n o' → o'.failed ≡ true → PrintsLines rows (lines x) from o'
  printing-failed x from o o' at n p q f = record {
    all = λ g. absurd (true≢false (sym f ∙ g));
    first = λ g. (p.before, lines (drop at x), p.cut, q.failed g ∙ p.bytes);
  }

module _ (rows : List Bytes → Bytes) where
  -- The rows of the pieces that were handed over of the blocks bs were printed.
  pub record Printed (bs : List Bytes) (o : Output) : Type 0 where
    pub going : o.failed ≡ false
    pub bytes : o.bytes ≡ length (rows (all_lines (handed_over [] bs))) % 2 ^ 64

  -- One piece more, whose rows are those of its lines behind the others.
  module _ (bs : List Bytes) (x : Bytes) (o o' : Output) (rest : List Bytes → Bytes) (p : Printed bs o) (q : PrintsLines rest (lines x) o o')
      (behind : (ls : List Bytes) → rows (all_lines (handed_over [] bs) ++ ls) ≡ rows (all_lines (handed_over [] bs)) ++ rest ls) where
    so_far : (ls : List Bytes) (n : ℕ) → n ≡ (o.bytes + length (rest ls)) % 2 ^ 64 → n ≡ length (rows (all_lines (handed_over [] bs) ++ ls)) % 2 ^ 64
    so_far ls n e =
        e ∙ ap (λ (m : ℕ). (m + length (rest ls)) % 2 ^ 64) p.bytes ∙ mod-add-mod (length (rows (all_lines (handed_over [] bs)))) (2 ^ 64) (length (rest ls))
        ∙ ap (λ (m : ℕ). m % 2 ^ 64) (sym (ap length (behind ls) ∙ length-append (rows (all_lines (handed_over [] bs))) (rest ls)))

    all_of : (xs : List Bytes) → xs ≡ handed_over [] bs ++ (x ∷ []) → o'.failed ≡ false → o'.bytes ≡ length (rows (all_lines xs)) % 2 ^ 64
    all_of xs h f = so_far (lines x) o'.bytes (q.all f) ∙ ap (λ (ls : List Bytes). length (rows ls) % 2 ^ 64) (sym (ap all_lines h ∙ all_more (handed_over [] bs) x))

    pub printed-more : (cs : List Bytes) → handed_over [] cs ≡ handed_over [] bs ++ (x ∷ []) → o'.failed ≡ false → Printed cs o'
    printed-more cs h f = record { going = f; bytes = all_of (handed_over [] cs) h f }

    pub answers-end : ((ls : List Bytes) → rows (map (take 260) ls) ≡ rows ls) → (i : Input) → handed [] bs ≡ handed_over [] bs ++ (x ∷ []) → Ended bs i → o'.failed ≡ false → Answers rows bs i o'
    unfolding Answers
    answers-end first i h e f =
        inl (record { read = e; printed = f; bytes = all_of (handed [] bs) h f ∙ ap (λ (t : Bytes). length t % 2 ^ 64) (ap rows (all_lines_lem bs) ∙ first (lines (together bs))) })

    pub answers-unwritten : (cs : List Bytes) (i : Input) → Read cs i → ◌⊎◌ (handed_over [] cs ≡ handed_over [] bs ++ (x ∷ [])) (handed [] cs ≡ handed_over [] bs ++ (x ∷ [])) → o'.failed ≡ true → Answers rows cs i o'
    unfolding Answers
    answers-unwritten cs i d l f =
        let w = q.first f in
        inr (inr (record { read = d; failed = f; pieces = handed_over [] bs; x = x; last = l; ls = w.0; ms = w.1; cut = w.2; bytes = so_far w.0 o'.bytes w.3 }))

  pub answers-unread : (bs : List Bytes) (o : Output) (i : Input) → Printed bs o → Broken bs i → Answers rows bs i o
  unfolding Answers
  answers-unread bs o i p b = inr (inl (record { read = b; printed = p.going; bytes = p.bytes }))

-- Rows behind a header: of no lines, of more lines, and of what the line reader keeps of them.
module _ (header : Bytes) (rows : List Bytes → Bytes) where
  pub printed-header : rows [] ≡ [] → (o : Output) → Headed header o → Printed (headed header rows) [] o
  unfolding headed all_lines handed_over
  printed-header none o h = record { going = h.printed; bytes = h.bytes ∙ sym (ap (λ (t : Bytes). length t % 2 ^ 64) (ap (λ (t : Bytes). header ++ t) none ∙ append-nil header)) }

  pub headed-behind : (rest : List Bytes → Bytes) (xs : List Bytes) → ((ls : List Bytes) → rows (xs ++ ls) ≡ rows xs ++ rest ls) → (ls : List Bytes) → headed header rows (xs ++ ls) ≡ headed header rows xs ++ rest ls
  unfolding headed
  headed-behind rest xs e ls = ap (λ (t : Bytes). header ++ t) (e ls) ∙ sym (append_assoc header (rows xs) (rest ls))

  pub headed-first : ((ls : List Bytes) → rows (map (take 260) ls) ≡ rows ls) → (ls : List Bytes) → headed header rows (map (take 260) ls) ≡ headed header rows ls
  unfolding headed
  headed-first e ls = ap (λ (t : Bytes). header ++ t) (e ls)

pub headed-printed : (header : Bytes) (from o : Output) → from.bytes ≡ 0 → Prints from (length header) o → o.failed ≡ false → Headed header o
headed-printed header from o z p f = record { printed = f; bytes = p.counted f ∙ (let e : from.bytes + length header ≡ length header = omega (arith, z) in ap (λ (m : ℕ). m % 2 ^ 64) e) }

-- a piece that was handed over is the last one, of the blocks read so far or of the whole input
pub handed-piece : (bs : List Bytes) (b : Bytes) (i : Input) (piece : Bytes) → Handed bs b i piece → is_failure i.last ≡ false
    → ((cs : List Bytes) × Read cs i × ((handed_over [] cs ≡ handed_over [] bs ++ (take i.taken.whole piece ∷ [])) ⊎ (handed [] cs ≡ handed_over [] bs ++ (take i.taken.whole piece ∷ []))))
handed-piece bs b i piece h f = go i.last refl f
  where
    go : (l : Last) → i.last ≡ l → is_failure l ≡ false
        → ((cs : List Bytes) × Read cs i × ((handed_over [] cs ≡ handed_over [] bs ++ (take i.taken.whole piece ∷ [])) ⊎ (handed [] cs ≡ handed_over [] bs ++ (take i.taken.whole piece ∷ []))))
    go Block e g = (bs ++ (b ∷ []), record { unfailed = f; bytes = (h.going e).bytes }, inl (h.lines e))
    go End e g = (bs, record { unfailed = f; bytes = (h.ended e).bytes }, inr (h.last e))
    go Failure e g = absurd (true≢false g)

-- Rows that are each made of a line alone: a call wrote as many as had room.
module _ (row : Bytes → Bytes) (need room : ℕ) where
  pub printing-piece : (x : Bytes) (from o o' : Output) (at used len n : ℕ) → Printing (rows_text row) (rows_none row) x from o at → used ≡ piece_used row need room (take (length x - at) (drop at x))
      → used ≤ length x - at → len ≡ length (piece_text row need room (take (length x - at) (drop at x))) → n ≡ len → Prints o n o' → o'.failed ≡ false → Printing (rows_text row) (rows_none row) x from o' (at + used)
  unfolding piece_text
  printing-piece x from o o' at used len n p u w l e q f =
      let a : take (length x - at) (drop at x) ≡ drop at x = all_from at x in
      let y = drop at x in
      let ms = answered row need room (lines y) in
      let d : drop used y ≡ drop (at + used) x = drop-drop used at x in
      let cut : lines y ≡ ms ++ lines (drop (at + used) x) =
      sym (rest_lines row need room y) ∙ ap (λ (k : ℕ). ms ++ lines (drop k y)) (sym (u ∙ ap (piece_used row need room) a)) ∙ ap (λ (z : Bytes). ms ++ lines z) d in
      let m : n ≡ length (rows_text row ms) = e ∙ l ∙ ap (λ (z : Bytes). length (piece_text row need room z)) a in
      printing-more (rows_text row) (rows_none row) x from o o' at (at + used) p ms (rows_text row ms) cut (omega (arith, p.within)) (rows_append row p.before ms)
      (subst (λ (k : ℕ). Prints o k o') m q) f
