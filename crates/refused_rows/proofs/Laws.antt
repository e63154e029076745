-- Laws of the rows of `refused`. Assumes nothing.
use Rattle.std.proofs.Common.{◌≡◌, ℕ, ◌+◌, ◌<◌, ◌≤◌, [], ◌++◌, length, take, drop, sym, refl, ap, ◌∙◌, arith, take-take}
use mathlib.Core.Option.{Option, none, some}
use lib.Seq.{sets, sets-eq}
use Rattle.standard.specs.Delivery.{Bytes}
use Rattle.standard.specs.Table.{TableFault, check, to_maximise}
use Rattle.standard.proofs.Numbers.{TableWithin, check-within}
use Rattle.std.specs.Prelude.{Result, Ok, Err}
use Rattle.std.specs.Result.{IsErrAnd}
use Rattle.table_check.specs.declared.Fault.{Fault}
use Rattle.table_check.specs.Verdicts.{fault_of}
use Rattle.refused_rows.specs.declared.Rowed.{Rowed}
use Rattle.refused_rows.specs.Numbered.{piece_text, piece_used, piece_next}
use Rattle.refused_rows.specs.Rows.{kept_row, line_row, Answer, rows_given, after_tables, refused_given, rowed_is}
use Rattle.refused_rows.proofs.Numbered.{used-some}

-- Of a line only the first 260 bytes matter.
pub row_first : (A L : Bytes) (n : ℕ) (x : Bytes) → line_row A L n (take 260 x) ≡ line_row A L n x
unfolding line_row
row_first A L n x = ap (kept_row A L n) (take-take 260 260 x (omega arith))

sets-front : (text out : Bytes) → length text ≤ length out → sets out 0 text ≡ text ++ drop (length text) out
sets-front text out h = sets-eq text out 0 (omega arith) ∙ (let z : 0 + length text ≡ length text = omega arith in rw z refl)

-- The rows of a piece, once they are written.
pub rows-given : (A L : Bytes) (first : ℕ) (x : Bytes) → check to_maximise A L [] ≡ none → (out₀ out : Bytes) (k : Rowed)
    → k.used ≡ piece_used (line_row A L) 2400 (length out₀) first x → k.next ≡ piece_next (line_row A L) 2400 (length out₀) first x → k.len ≡ length (piece_text (line_row A L) 2400 (length out₀) first x)
    → out ≡ sets out₀ 0 (piece_text (line_row A L) 2400 (length out₀) first x) → k.len ≤ length out₀ → rowed_is first (Ok k) out ≡ refused_given A L first x out₀
unfolding refused_given after_tables rows_given rowed_is
rows-given A L first x pass out₀ out k u m l o h =
    let text = piece_text (line_row A L) 2400 (length out₀) first x in
    let s : out ≡ text ++ drop (length text) out₀ = o ∙ sets-front text out₀ (omega arith) in
    rw (pass, u, m, l, s)

-- a bad table, whose fault is handed on
pub table-given : (A L : Bytes) (first : ℕ) (x out : Bytes) (f : Fault) → some (fault_of f) ≡ check to_maximise A L [] → (r : Result Rowed Fault) → IsErrAnd r (λ (g : Fault). g ≡ f) → rowed_is first r out ≡ refused_given A L first x out
unfolding refused_given after_tables rowed_is
table-given A L first x out f e (Ok k) g = absurd g
table-given A L first x out f e (Err w) g = rw (← e, g)

-- a table's fault has a number
pub fault-number : (A L : Bytes) (f : TableFault) → check to_maximise A L [] ≡ some f → f.fault.number ≡ 0 → ⊥
unfolding TableWithin
fault-number A L f g z = let w = rw g at (check-within to_maximise A L []) in omega (arith, w.0)

-- an answer over good tables
module _ (A L : Bytes) (first : ℕ) (x out₀ out : Bytes) (k : Rowed) (e : rowed_is first (Ok k) out ≡ refused_given A L first x out₀) where
  pub record Good : Type 0 where
    pub used : k.used ≡ piece_used (line_row A L) 2400 (length out₀) first x
    pub next : k.next ≡ piece_next (line_row A L) 2400 (length out₀) first x
    pub len : k.len ≡ length (piece_text (line_row A L) 2400 (length out₀) first x)

  pub good-rowed : check to_maximise A L [] ≡ none → Good
  unfolding refused_given rowed_is rows_given after_tables
  good-rowed pass =
      let q = rw pass at e in
      record { used = ap (λ (a : Answer). a.used) q; next = ap (λ (a : Answer). a.next) q; len = ap (λ (a : Answer). a.len) q }

  -- where there is room for a row, good tables bring a piece that is not empty further
  pub further : 2400 ≤ length out₀ → 0 < length x → 0 < k.used
  unfolding refused_given rowed_is after_tables
  further h n = go (check to_maximise A L []) refl
    where
      go : (o : Option TableFault) → check to_maximise A L [] ≡ o → 0 < k.used
      go none g = omega (arith, (good-rowed g).used, used-some (line_row A L) 2400 (length out₀) first x h n)
      go (some f) g = absurd (fault-number A L f g (sym (let q = rw g at e in ap (λ (a : Answer). a.number) q)))
