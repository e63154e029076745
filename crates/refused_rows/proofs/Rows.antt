-- Laws of the row of a refused line. Assumes nothing.
use Rattle.std.proofs.Common.{◌≡◌, ℕ, ◌+◌, ◌-◌, ◌*◌, ◌≤◌, ◌++◌, length, take, drop, sym, refl, ap, ◌∙◌, ⊎_elim, arith, drop_of_length-le, take_all}
use mathlib.Core.Option.{Option, none, some}
use Prim.Native.Nat.{min}
use Rattle.standard.specs.Delivery.{Bytes}
use Rattle.standard.proofs.General.{le-or-lt}
use Rattle.byte_string.specs.Strings.{end_of, Writes, WritesWithin}
use Rattle.byte_string.proofs.Stores.{wrote-two, all_from}
use Rattle.byte_string.proofs.Ends.{end-le}
use Rattle.lines.specs.Pieces.{Next}
use Rattle.tsv.specs.Fields.{decimal, field}
use Rattle.tsv.specs.Shown.{shown}
use Rattle.tsv.proofs.Laws.{field-length}
use Rattle.bill_rules.specs.Bill.{before_tab, after_tab}
use Rattle.bill_rules.specs.Refusals.{MemberFault, LineFault}
use Rattle.bill_lines.proofs.Shapes.{tab-before, tab-after, tab-none}
use Rattle.refused_rows.specs.Rows.{member_words, number_text, place_of, words_of, identifier_bytes, fault_text, head_text, fault_row, row_if}

-- words of a member's fault, written
pub words-put : (f : MemberFault) (x o o' : Bytes) (at r : ℕ) → member_words f ≡ x → length x ≤ 79 → Writes o at (field x 10) r o' → WritesWithin (at + 80) o at (field (member_words f) 10) r o'
words-put f x o o' at r e h w = rw e (w.0, w.1, omega (arith, w.0, field-length x 10))

-- a line's number and its member
pub head-put : (n : ℕ) (l o o₁ o₂ : Bytes) (at p r t : ℕ) → t ≡ end_of 9 l 0 → WritesWithin (at + 21) o at (field (decimal n) 9) p o₁ → WritesWithin (p + 4 * 255 + 4) o₁ p (field (shown 255 (take t l)) 9) r o₂
    → WritesWithin (at + 1045) o at (head_text n l) r o₂
unfolding head_text
head-put n l o o₁ o₂ at p r t e v w =
    let b : field (decimal n) 9 ++ field (shown 255 (before_tab l)) 9 ≡ field (decimal n) 9 ++ field (shown 255 (take t l)) 9 =
    ap (λ (y : Bytes). field (decimal n) 9 ++ field (shown 255 y) 9) (tab-before l ∙ ap (λ (k : ℕ). take k l) (sym e)) in
    let s = wrote-two o o₁ o₂ at p r (field (decimal n) 9) (field (shown 255 (take t l)) 9) _ b v.0 v.1 w.0 w.1 in
    (s.0, s.1, omega (arith, v.2, w.2))

-- where the identifier of a line starts: at its end where there is no tab
pub start-within : (l : Bytes) (s : ℕ) → Next (length l) (end_of 9 l 0) s → s ≤ length l
start-within l s n = let h = end-le 9 l 0 in ⊎_elim (λ g. let z = n.end g in omega arith) (λ g. let z = n.behind g in omega arith) (le-or-lt (length l) (end_of 9 l 0))

pub identifier-at : (l : Bytes) (s : ℕ) → Next (length l) (end_of 9 l 0) s → take (length l - s) (drop s l) ≡ identifier_bytes (after_tab l)
unfolding identifier_bytes
identifier-at l s n =
    all_from s l ∙ ⊎_elim
    (λ g. let z = n.end g in drop_of_length-le l {i = s} (omega arith) ∙ sym (ap identifier_bytes (tab-none l g)))
    (λ g. let z = n.behind g in ap (λ (k : ℕ). drop k l) z ∙ sym (ap identifier_bytes (tab-after l g)))
    (le-or-lt (length l) (end_of 9 l 0))

-- a row of five parts
pub row_put : (n : ℕ) (l : Bytes) (f : LineFault) (o o₁ o₂ o₃ o₄ o₅ : Bytes) (at p q r s e : ℕ) → Writes o at (head_text n l) p o₁ → Writes o₁ p (field (number_text f) 9) q o₂
    → Writes o₂ q (field (decimal (place_of f)) 9) r o₃ → Writes o₃ r (field (shown 255 (identifier_bytes (after_tab l))) 9) s o₄ → Writes o₄ s (field (words_of f) 10) e o₅
    → Writes o at (fault_row n l f) e o₅
unfolding fault_row fault_text
row_put n l f o o₁ o₂ o₃ o₄ o₅ at p q r s e v w x y z =
    let i = field (shown 255 (identifier_bytes (after_tab l))) 9 in
    let k = wrote-two o₃ o₄ o₅ r s e i (field (words_of f) 10) (i ++ field (words_of f) 10) refl y.0 y.1 z.0 z.1 in
    let j = wrote-two o₂ o₃ o₅ q r e (field (decimal (place_of f)) 9) (i ++ field (words_of f) 10) _ refl x.0 x.1 k.0 k.1 in
    let h = wrote-two o₁ o₂ o₅ p q e (field (number_text f) 9) (field (decimal (place_of f)) 9 ++ (i ++ field (words_of f) 10)) _ refl w.0 w.1 j.0 j.1 in
    wrote-two o o₁ o₅ at p e (head_text n l) (fault_text l f) _ refl v.0 v.1 h.0 h.1

-- the first 260 bytes of a line
pub first-kept : (l : Bytes) (k : ℕ) → k ≡ min (length l) 260 → take k l ≡ take 260 l
first-kept l k e = ⊎_elim (λ g. take_all k l (omega arith) ∙ sym (take_all 260 l (omega arith))) (λ g. ap (λ (j : ℕ). take j l) (let z : k ≡ 260 = omega arith in z)) (le-or-lt (length l) 260)

-- no row, and the row of a fault
pub nothing_put : (n : ℕ) (l o : Bytes) (at : ℕ) (g : Option LineFault) → g ≡ none → WritesWithin (at + 2400) o at (row_if n l g) at o
unfolding row_if
nothing_put n l o at g e = rw e (omega arith, refl, omega arith)

pub fault-put : (n : ℕ) (l o o' : Bytes) (at r : ℕ) (g : Option LineFault) (f : LineFault) → g ≡ some f → WritesWithin (at + 2400) o at (fault_row n l f) r o' → WritesWithin (at + 2400) o at (row_if n l g) r o'
unfolding row_if
fault-put n l o o' at r g f e w = rw e w
