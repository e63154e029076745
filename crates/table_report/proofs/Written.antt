-- Laws of what is written of a verdict. Assumes nothing.
use mathlib.Core.Path.{◌≡◌, refl}
use mathlib.Core.Bool.{true, false}
use mathlib.Core.List.{List, [], ◌++◌, append_assoc}
use Prim.Native.Nat.{ℕ, ◌+◌, ◌-◌, ◌≤◌, ◌<◌}
use native.Mathlib.Omega.{arith}
use lib.ListN.{length, take, drop}
use borrow.Author.Tests.{eq-eqb, ne_eqb, le-leb, lt-leb, ltb-true, ltb-false}
use Prim.Native.Nat.{min}
use lib.Dec.{ltb}
use Rattle.standard.proofs.General.{bool_cases}
use Rattle.standard.specs.Tag.{text}
use Rattle.byte_string.specs.Strings.{Writes, WritesWithin}
use Rattle.byte_string.proofs.Stores.{wrote-two, all_from}
use Rattle.tsv.specs.Fields.{decimal, field}
use Rattle.tsv.proofs.Laws.{field-length, table-word}
use Rattle.meaning.specs.Meaning.{meaning_of}
use Rattle.table_report.specs.declared.Wrong.{Wrong}
use Rattle.table_report.specs.Words.{wrong_words, told_text}
use Rattle.row_shapes.specs.declared.Table.{Table}
use Rattle.row_shapes.specs.declared.Table.TheVariants.{Aliases, Likely, Parents}
use Rattle.tsv.specs.Shown.{shown}
use Rattle.table_report.specs.Faults.{count_of, shape_fault, order_fault}
use Rattle.table_report.specs.Line.{names_row, line_of, row_for, meant_text, verdict_text, rest_text, spot, line_text, report_text, told}

-- the words of what is wrong
pub said : (w v : Wrong) (o o' : List ℕ) (at r : ℕ) → w ≡ v → length (wrong_words v) ≤ 59 → Writes o at (field (wrong_words v) 10) r o'
    → WritesWithin (at + 60) o at (field (wrong_words w) 10) r o'
said w v o o' at r e h p =
    let l = field-length (wrong_words v) 10 in
    let q : WritesWithin (at + 60) o at (field (wrong_words v) 10) r o' = (p.0, p.1, omega (arith, p.0)) in
    rw e q

-- those behind the words of the number
told_text_lem : (n : ℕ) (w : Wrong) → field (told_text n w) 10 ≡ field (meaning_of n) 58 ++ (field [] 32 ++ field (wrong_words w) 10)
unfolding field told_text
told_text_lem n w = simp append_assoc

pub told-written : (o o₁ o₂ o₃ : List ℕ) (at p q r n : ℕ) (w : Wrong) → WritesWithin (at + 80) o at (field (meaning_of n) 58) p o₁ → Writes o₁ p (field [] 32) q o₂
    → WritesWithin (q + 60) o₂ q (field (wrong_words w) 10) r o₃ → WritesWithin (at + 150) o at (field (told_text n w) 10) r o₃
told-written o o₁ o₂ o₃ at p q r n w a b c =
    let y = field [] 32 ++ field (wrong_words w) 10 in
    let v = wrote-two o₁ o₂ o₃ p q r (field [] 32) (field (wrong_words w) 10) y refl b.0 b.1 c.0 c.1 in
    let u = wrote-two o o₁ o₃ at p r (field (meaning_of n) 58) y (field (told_text n w) 10) (told_text_lem n w) a.0 a.1 v.0 v.1 in
    (u.0, u.1, omega (arith, field-length [] 32, a.2, b.0, c.2))

-- the first four fields
pub verdict-written : (o o₁ o₂ o₃ o₄ : List ℕ) (p q r e number place table : ℕ) → Writes o 0 (field (text "table") 9) p o₁
    → WritesWithin (p + 21) o₁ p (field (decimal number) 9) q o₂ → WritesWithin (q + 21) o₂ q (field (decimal table) 9) r o₃
    → WritesWithin (r + 21) o₃ r (field (decimal place) 9) e o₄ → WritesWithin 90 o 0 (verdict_text number place table) e o₄
unfolding verdict_text
verdict-written o o₁ o₂ o₃ o₄ p q r e number place table a b c d =
    let t = field (decimal table) 9 ++ field (decimal place) 9 in
    let w = wrote-two o₂ o₃ o₄ q r e (field (decimal table) 9) (field (decimal place) 9) t refl c.0 c.1 d.0 d.1 in
    let v = wrote-two o₁ o₂ o₄ p q e (field (decimal number) 9) t (field (decimal number) 9 ++ t) refl b.0 b.1 w.0 w.1 in
    let u = wrote-two o o₁ o₄ 0 p e (field (text "table") 9) (field (decimal number) 9 ++ t) _ refl a.0 a.1 v.0 v.1 in
    (u.0, u.1, omega (arith, table-word, a.0, b.2, c.2, d.2))

-- the line of the file
module _ (n : ℕ) (x : List ℕ) (p : ℕ) where
  pub line-none : names_row n ≡ false → line_of n x p ≡ 0
  unfolding line_of
  line-none e = rw e

  pub line-some : names_row n ≡ true → (k : ℕ) → k ≡ count_of 10 (take p x) → line_of n x p ≡ k + 1
  unfolding line_of
  line-some e k g = rw (e, g)

-- what is meant
module _ (n : ℕ) (t : Table) (x : List ℕ) (p : ℕ) where
  pub meant-shape : n ≡ 12 → (w : Wrong) → w ≡ shape_fault t (take (length x - p) (drop p x)) → meant_text n t x p ≡ told_text 12 w
  unfolding meant_text
  meant-shape e w g = rw (eq-eqb n 12 e, g, all_from p x)

  pub meant-order : (n ≡ 12 → ⊥) → n ≡ 13 → (w : Wrong) → w ≡ order_fault t x p → meant_text n t x p ≡ told_text 13 w
  unfolding meant_text
  meant-order f e w g = rw (ne_eqb n 12 f, eq-eqb n 13 e, g)

  pub meant-number : (n ≡ 12 → ⊥) → (n ≡ 13 → ⊥) → meant_text n t x p ≡ meaning_of n
  unfolding meant_text
  meant-number f g = rw (ne_eqb n 12 f, ne_eqb n 13 g)

  -- the last three fields, once they are written
  pub rest-written : (o o₁ o₂ o₃ : List ℕ) (at q r e : ℕ) → WritesWithin (at + 21) o at (field (decimal (line_of n x p)) 9) q o₁
      → WritesWithin (q + 1024) o₁ q (field (shown 255 (row_for n (take (length x - p) (drop p x)))) 9) r o₂ → WritesWithin (r + 150) o₂ r (field (meant_text n t x p) 10) e o₃
      → WritesWithin (at + 1195) o at (rest_text n t x p) e o₃
  unfolding rest_text
  rest-written o o₁ o₂ o₃ at q r e a b c =
      let z = rw (all_from p x) at b in
      let y = field (shown 255 (row_for n (drop p x))) 9 ++ field (meant_text n t x p) 10 in
      let v = wrote-two o₁ o₂ o₃ q r e (field (shown 255 (row_for n (drop p x))) 9) (field (meant_text n t x p) 10) y refl z.0 z.1 c.0 c.1 in
      let u = wrote-two o o₁ o₃ at q e (field (decimal (line_of n x p)) 9) y _ refl a.0 a.1 v.0 v.1 in
      (u.0, u.1, omega (arith, a.2, b.2, c.2))

-- the whole line
-- a place beyond the end
pub spot-least : (len place s : ℕ) → s ≡ min place len → s ≡ spot len place
unfolding spot
spot-least len place s e = bool_cases (ltb len place) (λ h. rw h (let k = ltb-true _ _ h in omega arith)) (λ h. rw h (let k = ltb-false _ _ h in omega arith))

pub line-written : (n p named : ℕ) (t : Table) (x o o₁ o₂ : List ℕ) (at s e : ℕ) → WritesWithin 90 o 0 (verdict_text n p named) at o₁ → s ≡ spot (length x) p
    → WritesWithin (at + 1195) o₁ at (rest_text n t x s) e o₂ → WritesWithin 1285 o 0 (line_text n p named t x) e o₂
unfolding line_text
line-written n p named t x o o₁ o₂ at s e a g b =
    let c = rw g at b in
    let u = wrote-two o o₁ o₂ 0 at e (verdict_text n p named) (rest_text n t x (spot (length x) p)) _ refl a.0 a.1 c.0 c.1 in
    (u.0, u.1, omega (arith, a.2, b.2))

-- what is written into so many bytes
module _ (n p named : ℕ) (A L P : List ℕ) (room : ℕ) where
  pub told_none : room < 2048 → told n p named A L P room ≡ []
  unfolding told
  told_none h = rw (lt-leb 2048 room h)

  module _ (h : 2048 ≤ room) where
    pub told-aliases : named ≡ 1 → told n p named A L P room ≡ line_text n p named Aliases A
    unfolding told report_text
    told-aliases e = rw (le-leb 2048 room h, eq-eqb named 1 e)

    pub told-likely : (named ≡ 1 → ⊥) → named ≡ 2 → told n p named A L P room ≡ line_text n p named Likely L
    unfolding told report_text
    told-likely f e = rw (le-leb 2048 room h, ne_eqb named 1 f, eq-eqb named 2 e)

    pub told-parents : (named ≡ 1 → ⊥) → (named ≡ 2 → ⊥) → told n p named A L P room ≡ line_text n p named Parents P
    unfolding told report_text
    told-parents f g = rw (le-leb 2048 room h, ne_eqb named 1 f, ne_eqb named 2 g)
