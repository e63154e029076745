-- Laws of a row in canonical case. Assumes nothing.
use mathlib.Core.Path.{◌≡◌, refl, sym, ap, ◌∙◌}
use mathlib.Core.Bool.{Bool}
use mathlib.Core.List.{List, [], ◌∷◌}
use mathlib.Core.Option.{Option, none}
use Prim.Native.Nat.{ℕ, ◌+◌, ◌-◌, ◌≤◌, ◌<◌}
use native.Mathlib.Numerals.{add-one}
use native.Mathlib.Omega.{arith}
use lib.ListN.{length, get_or, take, drop, set, length-set, drop_of_length-le}
use lib.Seq.{sets, length-sets, drop-cons}
use Rattle.standard.specs.Grammar.{lower_byte}
use Rattle.standard.specs.Reading.{Fault}
use Rattle.standard.specs.Table.{rows, rows_fault, shape_of, is_none}
use Rattle.byte_string.proofs.Stores.{all_from, front}
use Rattle.std.specs.Prelude.{⊤, Result, Ok, Err}
use Rattle.std.specs.Result.{is_ok}
use Rattle.row_shapes.specs.declared.RowFault.{RowFault}
use Rattle.row_shapes.specs.declared.RowFault.TheVariants.{Shape, Order}
use Rattle.row_shapes.specs.declared.Table.{Table}
use Rattle.row_shapes.specs.Rows.{kind_is, fault_is}
use Rattle.tsv.specs.Fields.{field}
use Rattle.tsv.proofs.Laws.{ended, field-length}
use Rattle.subtag.specs.Bytes.{cased_byte}
use Rattle.table_report.specs.Cases.{first_of, next_count, recased, passes}

pub recased-length : (first n : ℕ) (x : List ℕ) → length (recased first n x) ≡ length x
unfolding recased
recased-length first n [] = refl
recased-length first n (b ∷ x) = let e = recased-length first (next_count first n b x) x in omega arith

-- one byte more, and all of them; what is to come is written behind what was
module _ (first : ℕ) (row : List ℕ) (o₀ o : List ℕ) (i n : ℕ) (w : sets o₀ 0 (recased first 0 row) ≡ sets o i (recased first n (drop i row))) where
  next : i < length row → recased first n (drop i row) ≡ cased_byte 0 n (lower_byte (get_or row i 0)) ∷ recased first (next_count first n (get_or row i 0) (drop (i + 1) row)) (drop (i + 1) row)
  unfolding recased
  next h = rw (add-one, drop-cons row i 0 h)

  pub recased-next : i < length row → (b m : ℕ) → b ≡ cased_byte 0 n (lower_byte (get_or row i 0)) → m ≡ next_count first n (get_or row i 0) (take (length row - (i + 1)) (drop (i + 1) row))
      → sets o₀ 0 (recased first 0 row) ≡ sets (set o i b) (i + 1) (recased first m (drop (i + 1) row))
  recased-next h b m e g =
      let k : m ≡ next_count first n (get_or row i 0) (drop (i + 1) row) = g ∙ ap (next_count first n (get_or row i 0)) (all_from (i + 1) row) in
      w ∙ ap (sets o i) (next h) ∙ rw (e, k, add-one)

  pub recased-all : length row ≤ i → i ≤ length row → (i ≡ 0 + length (recased first 0 row)) × (o ≡ sets o₀ 0 (recased first 0 row))
  unfolding recased
  recased-all h g = (omega (arith, recased-length first 0 row), sym (w ∙ rw (drop_of_length-le row h)))

-- the row in canonical case and 0A, once they are written, are judged as a table
module _ (row buf o : List ℕ) (first end : ℕ) (r : length row + 1 ≤ length buf) (e : end ≡ 0 + length (recased first 0 row)) (g : o ≡ sets buf 0 (recased first 0 row)) where
  pub end_fits : end + 1 ≤ length (set o end 10)
  end_fits = omega (arith, length-set o end 10, ap length g ∙ length-sets buf 0 (recased first 0 row), recased-length first 0 row)

  judged-text : take (end + 1) (set o end 10) ≡ field (recased first 0 row) 10
  judged-text =
      let d = ended buf o 0 end (recased first 0 row) 10 e g in
      let l = field-length (recased first 0 row) 10 in
      let k = recased-length first 0 row in
      ap (take (end + 1)) d.1 ∙ front buf (field (recased first 0 row) 10) (end + 1) (omega (arith, d.0)) (omega arith)

  pub passes-is : (t : Table) (f : Option Fault) (b : Bool) → b ≡ is_none f → first ≡ first_of t row → f ≡ rows_fault (shape_of (kind_is t)) none 0 (rows (take (end + 1) (set o end 10))) → b ≡ passes t row
  unfolding passes
  passes-is t f b h i j = h ∙ ap is_none (rw judged-text at j) ∙ rw i

-- the answer that is good
pub good-ok : (r : Result ⊤ RowFault) → is_ok r ≡ is_none (fault_is r)
unfolding is_none
good-ok (Ok done) = refl
good-ok (Err (Shape at)) = refl
good-ok (Err (Order at)) = refl
