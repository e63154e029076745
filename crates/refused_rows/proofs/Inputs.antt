-- Open this first for the rows of `refused`: they are the rows of the lines that the bill counts as refused, each with its
-- number in the input. Assumes nothing.
use Rattle.std.proofs.Common.{◌≡◌, ℕ, suc, ◌+◌, ◌^◌, ◌<◌, ◌≤◌, Bool, true, false, cond, eqb, List, [], ◌∷◌, ◌++◌, map, length, take, sym, refl, ap, ◌∙◌, ap₂, mod-eq_of_lt, add-one, arith}
use mathlib.Core.Option.{Option, none, some}
use Rattle.standard.specs.Delivery.{Bytes}
use Rattle.standard.specs.Tag.{onto}
use Rattle.standard.specs.Table.{tables_of}
use Rattle.standard.proofs.General.{clash}
use Rattle.table.specs.Lines.{lines}
use Rattle.bill_rules.specs.Bill.{refusing}
use Rattle.bill_rules.specs.Refusals.{LineFault, line_fault, Numbered, listed, refused_from, refused_lines}
use Rattle.bill_rules.proofs.Refusals.{faulty, refused-faulty}
use Rattle.bill_lines.proofs.Cuts.{usage-first}
use Rattle.refused_rows.specs.Numbered.{next_number, rows_from}
use Rattle.refused_rows.specs.Rows.{fault_row, row_if, kept_row, line_row, rows_of, refused_text}
use Rattle.refused_rows.proofs.Laws.{row_first}

-- the lines of an input are no more than its bytes
onto-few : (b n : ℕ) (ls : List Bytes) → length ls ≤ n → length (onto b ls) ≤ suc n
unfolding onto
onto-few b n [] h = omega arith
onto-few b n (l ∷ ls) h = omega arith

pub lines-few : (x : Bytes) → length (lines x) ≤ length x
unfolding lines
lines-few [] = omega arith
lines-few (b ∷ x) = go (eqb b 10) (lines-few x)
  where
    go : (t : Bool) → length (lines x) ≤ length x → length (cond t ([] ∷ lines x) (onto b (lines x))) ≤ suc (length x)
    go true h = omega arith
    go false h = onto-few b (length x) (lines x) h

-- cut lines have the rows, and the numbers, of the whole lines
module _ (A L : Bytes) where
  pub first_rows : (n : ℕ) (ls : List Bytes) → rows_from (line_row A L) n (map (take 260) ls) ≡ rows_from (line_row A L) n ls
  unfolding rows_from
  first_rows n [] = refl
  first_rows n (l ∷ ls) = ap₂ (λ (a b : Bytes). a ++ b) (row_first A L n l) (first_rows (next_number n) ls)

  -- a line that the bill accepts has no row, and one that it refuses has one
  cut-faulty : (l : Bytes) → faulty (line_fault (tables_of A L []) (take 260 l)) ≡ faulty (line_fault (tables_of A L []) l)
  cut-faulty l =
      let T = tables_of A L [] in
      sym (refused-faulty T (take 260 l)) ∙ ap refusing (usage-first T l) ∙ refused-faulty T l

  pub accepted-row : (n : ℕ) (l : Bytes) → line_fault (tables_of A L []) l ≡ none → line_row A L n l ≡ []
  unfolding line_row kept_row row_if faulty
  accepted-row n l e = go (line_fault (tables_of A L []) (take 260 l)) (cut-faulty l ∙ ap faulty e)
    where
      go : (o : Option LineFault) → faulty o ≡ false → row_if n (take 260 l) o ≡ []
      go none f = refl
      go (some g) f = clash {b = true} refl f

  pub refused-row : (n : ℕ) (l : Bytes) (f : LineFault) → line_fault (tables_of A L []) l ≡ some f → ((g : LineFault) × (line_row A L n l ≡ fault_row n (take 260 l) g))
  unfolding line_row kept_row row_if faulty
  refused-row n l f e = go (line_fault (tables_of A L []) (take 260 l)) (cut-faulty l ∙ ap faulty e)
    where
      go : (o : Option LineFault) → faulty o ≡ true → ((g : LineFault) × (row_if n (take 260 l) o ≡ fault_row n (take 260 l) g))
      go none f = clash {b = false} f refl
      go (some g) f = (g, refl)

  listed-rows : (n : ℕ) (l : Bytes) (o : Option LineFault) (ls : List Numbered) → line_fault (tables_of A L []) l ≡ o
      → rows_of A L (listed o (record { number = n; line = l }) ls) ≡ line_row A L n l ++ rows_of A L ls
  unfolding rows_of listed
  listed-rows n l none ls e = sym (ap (λ (y : Bytes). y ++ rows_of A L ls) (accepted-row n l e))
  listed-rows n l (some f) ls e = refl

  -- numbers below 2^64 are those of the lines
  next_fits : (n : ℕ) (ls : List Bytes) → n + suc (length ls) ≤ 2 ^ 64 → rows_from (line_row A L) (next_number n) ls ≡ rows_from (line_row A L) (suc n) ls
  unfolding next_number rows_from
  next_fits n [] h = refl
  next_fits n (l ∷ ls) h = ap (λ (k : ℕ). rows_from (line_row A L) k (l ∷ ls)) (mod-eq_of_lt {n = n + 1} {m = 2 ^ 64} (omega arith) ∙ rw add-one refl)

  rows-listed : (n : ℕ) (ls : List Bytes) → n + length ls ≤ 2 ^ 64 → rows_from (line_row A L) n ls ≡ rows_of A L (refused_from (tables_of A L []) n ls)
  unfolding rows_from refused_from rows_of
  rows-listed n [] h = refl
  rows-listed n (l ∷ ls) h =
      ap (λ (y : Bytes). line_row A L n l ++ y) (next_fits n ls h ∙ rows-listed (suc n) ls (omega arith))
      ∙ sym (listed-rows n l (line_fault (tables_of A L []) l) (refused_from (tables_of A L []) (suc n) ls) refl)

  -- The rows of an input, of fewer than 2^64 bytes, are the rows of the lines that the bill counts as refused, with their
  -- numbers from 1 on.
  pub input-rows : (x : Bytes) → length x < 2 ^ 64 → rows_from (line_row A L) 1 (lines x) ≡ refused_text A L (lines x)
  unfolding refused_text refused_lines
  input-rows x h = rows-listed 1 (lines x) (omega (arith, lines-few x))
