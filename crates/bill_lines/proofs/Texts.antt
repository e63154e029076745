-- The text of entries, row by row. Assumes nothing.
use mathlib.Core.Path.{◌≡◌, refl, sym, ap, ◌∙◌}
use mathlib.Core.List.{List, ◌++◌, append_assoc, append-nil}
use Prim.Native.Nat.{ℕ, zero, suc, ◌+◌, ◌*◌, ◌≤◌}
use native.Mathlib.Omega.{arith}
use native.Mathlib.Numerals.{add-one}
use lib.Count.{ones}
use lib.ListN.{length, get_or}
use lib.Seq.{sets}
use Rattle.standard.specs.Delivery.{Bytes}
use Rattle.byte_string.proofs.Stores.{wrote-two}
use Rattle.tsv.specs.Fields.{decimal, field}
use Rattle.tsv.proofs.Laws.{field-length}
use Rattle.bill_ledger.specs.Places.{text_at, entry_at, entries_from}
use Rattle.bill_lines.specs.Text.{header, last_text, entry_text, entries_text}
use Rattle.standard.specs.Tag.{text}

-- a key and a tab have at most 32 bytes
pub key-put : (o o₁ ks k : Bytes) (at r i : ℕ) → k ≡ text_at ks i → length k ≤ 31 → r ≡ at + length (field k 9) → o₁ ≡ sets o at (field k 9)
    → (r ≡ at + length (field (text_at ks i) 9)) × (o₁ ≡ sets o at (field (text_at ks i) 9)) × (r ≤ at + 32)
key-put o o₁ ks k at r i x h f g =
    let v = field-length k 9 in
    (f ∙ ap (λ (y : Bytes). at + length (field y 9)) x, g ∙ ap (λ (y : Bytes). sets o at (field y 9)) x, omega (arith, f, v, h))

-- a key and two numbers, written one after the other
pub row_written : (o o₁ o₂ o₃ : Bytes) (at p q r : ℕ) (ks : Bytes) (cs : List ℕ) (i m : ℕ) → m ≡ ones (get_or cs (2 * i) 0)
    → (p ≡ at + length (field (text_at ks i) 9)) × (o₁ ≡ sets o at (field (text_at ks i) 9))
    → (q ≡ p + length (field (decimal m) 9)) × (o₂ ≡ sets o₁ p (field (decimal m) 9))
    → (r ≡ q + length (field (decimal (get_or cs (2 * i + 1) 0)) 10)) × (o₃ ≡ sets o₂ q (field (decimal (get_or cs (2 * i + 1) 0)) 10))
    → (r ≡ at + length (entry_text (entry_at ks cs i))) × (o₃ ≡ sets o at (entry_text (entry_at ks cs i)))
unfolding entry_text entry_at
row_written o o₁ o₂ o₃ at p q r ks cs i m f a b c =
    let d = decimal (get_or cs (2 * i + 1) 0) in
    let t = field (decimal m) 9 ++ field d 10 in
    let w = wrote-two o₁ o₂ o₃ p q r (field (decimal m) 9) (field d 10) t refl b.0 b.1 c.0 c.1 in
    wrote-two o o₁ o₃ at p r (field (text_at ks i) 9) t (field (text_at ks i) 9 ++ (field (decimal (ones (get_or cs (2 * i) 0))) 9 ++ field d 10))
    (ap (λ (n : ℕ). field (text_at ks i) 9 ++ (field (decimal n) 9 ++ field d 10)) (sym f)) a.0 a.1 w.0 w.1

-- one entry more
text-more : (ks : Bytes) (cs : List ℕ) (i n : ℕ) → entries_text (entries_from ks cs i (suc n)) ≡ entries_text (entries_from ks cs i n) ++ entry_text (entry_at ks cs (i + n))
unfolding entries_text entries_from
text-more ks cs i zero = append-nil (entry_text (entry_at ks cs i)) ∙ ap (λ (j : ℕ). entry_text (entry_at ks cs j)) (let z : i ≡ i + 0 = omega arith in z)
text-more ks cs i (suc n) =
    ap (λ (x : Bytes). entry_text (entry_at ks cs i) ++ x) (text-more ks cs (suc i) n)
    ∙ sym (append_assoc (entry_text (entry_at ks cs i)) (entries_text (entries_from ks cs (suc i) n)) (entry_text (entry_at ks cs (suc i + n))))
    ∙ ap (λ (j : ℕ). (entry_text (entry_at ks cs i) ++ entries_text (entries_from ks cs (suc i) n)) ++ entry_text (entry_at ks cs j)) (let z : suc i + n ≡ i + suc n = omega arith in z)

-- the first rows, and where they end
pub record Rows (o₀ o : Bytes) (at end : ℕ) (ks : Bytes) (cs : List ℕ) (i : ℕ) : Type 0 where
  pub end_is : end ≡ at + length (entries_text (entries_from ks cs 0 i))
  pub written : o ≡ sets o₀ at (entries_text (entries_from ks cs 0 i))

pub rows_none : (o : Bytes) (at : ℕ) (ks : Bytes) (cs : List ℕ) → Rows o o at at ks cs 0
unfolding entries_text entries_from
rows_none o at ks cs = record { end_is = omega arith; written = refl }

pub rows_more : (o₀ o o' : Bytes) (at end r : ℕ) (ks : Bytes) (cs : List ℕ) (i : ℕ) → Rows o₀ o at end ks cs i
    → r ≡ end + length (entry_text (entry_at ks cs i)) → o' ≡ sets o end (entry_text (entry_at ks cs i)) → Rows o₀ o' at r ks cs (i + 1)
rows_more o₀ o o' at end r ks cs i w e f =
    let t = wrote-two o₀ o o' at end r (entries_text (entries_from ks cs 0 i)) (entry_text (entry_at ks cs i)) (entries_text (entries_from ks cs 0 (suc i))) (text-more ks cs 0 i ∙ ap (λ (j : ℕ). entries_text (entries_from ks cs 0 i) ++ entry_text (entry_at ks cs j)) (let z : 0 + i ≡ i = omega arith in z)) w.end_is w.written e f in
    rw add-one (record { end_is = t.0; written = t.1 })

pub rows_all : (o₀ o : Bytes) (at end : ℕ) (ks : Bytes) (cs : List ℕ) (i n : ℕ) → Rows o₀ o at end ks cs i → i ≡ n → end ≤ at + 80 * i → n ≤ 512
    → (end ≡ at + length (entries_text (entries_from ks cs 0 n))) × (o ≡ sets o₀ at (entries_text (entries_from ks cs 0 n))) × (end ≤ at + 40960)
rows_all o₀ o at end ks cs i n w e h k =
    (w.end_is ∙ ap (λ (j : ℕ). at + length (entries_text (entries_from ks cs 0 j))) e, w.written ∙ ap (λ (j : ℕ). sets o₀ at (entries_text (entries_from ks cs 0 j))) e, omega arith)

-- the last row: what is always the same, and a number
pub last-start : length (field (text "-\t0") 9) ≡ 4
unfolding field
last-start = refl

last-parts : (n : ℕ) → last_text n ≡ field (text "-\t0") 9 ++ field (decimal n) 10
unfolding field last_text
last-parts n = refl

header-length : length header ≡ 23
unfolding header field
header-length = refl

pub last_written : (o o₁ o₂ : Bytes) (at p r n : ℕ) → p ≡ at + length (field (text "-\t0") 9) → o₁ ≡ sets o at (field (text "-\t0") 9)
    → r ≡ p + length (field (decimal n) 10) → o₂ ≡ sets o₁ p (field (decimal n) 10) → (r ≡ at + length (last_text n)) × (o₂ ≡ sets o at (last_text n))
last_written o o₁ o₂ at p r n a b c d = wrote-two o o₁ o₂ at p r (field (text "-\t0") 9) (field (decimal n) 10) (last_text n) (last-parts n) a b c d

-- the header
pub header-put : (o o₁ : Bytes) (r : ℕ) → r ≡ 0 + length header → o₁ ≡ sets o 0 header → (r ≡ 0 + length header) × (o₁ ≡ sets o 0 header) × (r ≤ 23)
header-put o o₁ r e f = (e, f, omega (arith, header-length))

-- header, rows and the last row
pub bill-written : (o o₁ o₂ o₃ : Bytes) (p q r : ℕ) (x y : Bytes) → p ≡ 0 + length header → o₁ ≡ sets o 0 header → q ≡ p + length x → o₂ ≡ sets o₁ p x → r ≡ q + length y → o₃ ≡ sets o₂ q y
    → (r ≡ length (header ++ (x ++ y))) × (o₃ ≡ sets o 0 (header ++ (x ++ y)))
bill-written o o₁ o₂ o₃ p q r x y a b c d e f =
    let w = wrote-two o₁ o₂ o₃ p q r x y (x ++ y) refl c d e f in
    let v = wrote-two o o₁ o₃ 0 p r header (x ++ y) (header ++ (x ++ y)) refl a b w.0 w.1 in
    (let z = v.0 in omega (arith, z), v.1)
