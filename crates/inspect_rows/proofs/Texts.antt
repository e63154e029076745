-- Laws of the rows' fields. Assumes nothing.
use mathlib.Core.Path.{◌≡◌, refl}
use mathlib.Core.List.{List, [], ◌∷◌, ◌++◌, append_assoc}
use Prim.Native.Nat.{ℕ, zero, suc, ◌+◌}
use native.Mathlib.Omega.{arith}
use lib.ListN.{length, take}
use borrow.Author.Tests.{eq-eqb, ne_eqb}
use Rattle.byte_string.specs.Strings.{Writes, WritesWithin}
use Rattle.byte_string.proofs.Stores.{wrote-two}
use Rattle.standard.specs.Tag.{text}
use Rattle.reader.specs.declared.report.Word.{Word}
use Rattle.reader.specs.Words.{word_is}
use Rattle.tsv.specs.Fields.{decimal, field}
use Rattle.tsv.proofs.Laws.{field-length}
use Rattle.meaning.specs.Meaning.{meaning_of}
use Rattle.inspect_rows.specs.Rows.{dashed, key_text, meant_text}

pub dashed-none : (w : Word) → w.len ≡ 0 → 45 ∷ [] ≡ dashed (word_is w)
unfolding dashed word_is
dashed-none w e = rw e

pub dashed-some : (w : Word) → length w.bytes ≡ 8 → (w.len ≡ 0 → ⊥) → word_is w ≡ dashed (word_is w)
unfolding word_is dashed
dashed-some w e f = go w.len w.bytes e f
  where
    go : (n : ℕ) (x : List ℕ) → length x ≡ 8 → (n ≡ 0 → ⊥) → take n x ≡ dashed (take n x)
    go zero x e f = absurd (f refl)
    go (suc n) [] e f = absurd (omega arith)
    go (suc n) (b ∷ x) e f = refl

-- why there is no key, once its parts are written
key-text : (key : ℕ) → field (key_text key) 10 ≡ field (text "as a key") 32 ++ (field (decimal key) 58 ++ (field [] 32 ++ field (meaning_of key) 10))
unfolding field key_text
key-text key = simp append_assoc

pub key-written : (o o₁ o₂ o₃ o₄ : List ℕ) (at p q r e key : ℕ) → Writes o at (field (text "as a key") 32) p o₁
    → WritesWithin (p + 21) o₁ p (field (decimal key) 58) q o₂ → Writes o₂ q (field [] 32) r o₃ → WritesWithin (r + 80) o₃ r (field (meaning_of key) 10) e o₄
    → WritesWithin (at + 111) o at (field (key_text key) 10) e o₄
key-written o o₁ o₂ o₃ o₄ at p q r e key a b c d =
    let y = field [] 32 ++ field (meaning_of key) 10 in
    let w = wrote-two o₂ o₃ o₄ q r e (field [] 32) (field (meaning_of key) 10) y refl c.0 c.1 d.0 d.1 in
    let v = wrote-two o₁ o₂ o₄ p q e (field (decimal key) 58) y (field (decimal key) 58 ++ y) refl b.0 b.1 w.0 w.1 in
    let u = wrote-two o o₁ o₄ at p e (field (text "as a key") 32) (field (decimal key) 58 ++ y) (field (key_text key) 10) (key-text key) a.0 a.1 v.0 v.1 in
    (u.0, u.1, omega (arith, field-length (text "as a key") 32, field-length [] 32, a.0, b.2, c.0, d.2))

-- what is meant, as the code decides it
module _ (number key : ℕ) where
  pub meant-number : (number ≡ 0 → ⊥) → meant_text number key ≡ meaning_of number
  unfolding meant_text
  meant-number f = rw (ne_eqb number 0 f)

  pub meant-done : number ≡ 0 → key ≡ 0 → meant_text number key ≡ meaning_of 0
  unfolding meant_text
  meant-done e z = rw (eq-eqb number 0 e, eq-eqb key 0 z)

  pub meant-key : number ≡ 0 → (key ≡ 0 → ⊥) → meant_text number key ≡ key_text key
  unfolding meant_text
  meant-key e f = rw (eq-eqb number 0 e, ne_eqb key 0 f)
