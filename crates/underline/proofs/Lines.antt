-- Laws of the identifier and the line of marks below it. Assumes nothing.
use mathlib.Core.Path.{◌≡◌, refl}
use mathlib.Core.List.{List, [], ◌∷◌, ◌++◌, map, append-nil}
use Prim.Native.Nat.{ℕ, zero, suc, ◌+◌, ◌≤◌, ◌<◌}
use native.Mathlib.Omega.{arith}
use lib.ListN.{length, take, set}
use Rattle.byte_string.specs.Strings.{Writes, WritesWithin}
use Rattle.byte_string.proofs.Stores.{wrote-two}
use Rattle.standard.specs.Places as standard
use Rattle.standard.specs.Places.{span, shown}
use Rattle.reader.specs.declared.spans.Span.{Span}
use Rattle.reader.specs.declared.spans.Places.{Places}
use Rattle.reader.specs.Spans.{span_is, up_to_count, places_is}
use Rattle.tsv.specs.Fields.{Bytes, field}
use Rattle.tsv.proofs.Laws.{ended, field-length}
use Rattle.std.specs.Prelude.{Some}
use Rattle.underline.specs.declared.Part.{Part}
use Rattle.underline.specs.declared.Part.TheVariants.{Language, Script, Region, Variants}
use Rattle.underline.specs.Underline.{part_spans, span_marks, marks_text, lines_text, underlined_text, Drawable}
use Rattle.underline.proofs.Marking.{marks-short}

-- nothing to mark
pub nothing_written : (o : Bytes) (at : ℕ) (x : Bytes) (ss : List standard.Span) → ss ≡ [] → WritesWithin (at + 512) o at (lines_text x ss) at o
unfolding lines_text
nothing_written o at x ss e = rw e (omega arith, refl, omega arith)

lines-some : (x : Bytes) (ss : List standard.Span) → 0 < length ss → lines_text x ss ≡ field x 10 ++ field (marks_text 0 ss) 10
unfolding lines_text
lines-some x [] h = absurd (omega arith)
lines-some x (s ∷ ss) h = refl

-- spans that are marked below an identifier at the place at
module _ (at : ℕ) (x : Bytes) (ss : List standard.Span) (d : Drawable (length x) ss) (h : length x ≤ 255) where
  pub lines-room : (p : ℕ) → p ≡ at + length (field x 10) → p + length (marks_text 0 ss) + 1 ≤ at + 512
  lines-room p e = omega (arith, marks-short (length x) ss d, field-length x 10)

  pub lines-written : 0 < length ss → (o o₁ o₂ : Bytes) (p q : ℕ) → Writes o at (field x 10) p o₁ → Writes o₁ p (marks_text 0 ss) q o₂
      → WritesWithin (at + 512) o at (lines_text x ss) (q + 1) (set o₂ q 10)
  lines-written some o o₁ o₂ p q a b =
      let e = ended o₁ o₂ p q (marks_text 0 ss) 10 b.0 b.1 in
      let t = wrote-two o o₁ (set o₂ q 10) at p (q + 1) (field x 10) (field (marks_text 0 ss) 10) (lines_text x ss) (lines-some x ss some) a.0 a.1 e.0 e.1 in
      (t.0, t.1, omega (arith, lines-room p a.0, b.0))

-- a part of one subtag, or of none
pub one_none : (s : Span) → s.len ≡ 0 → shown (span_is s) ≡ []
unfolding shown span_is
one_none s e = rw e

one-shown : (s : Span) → (s.len ≡ 0 → ⊥) → shown (span_is s) ≡ span_is s ∷ []
unfolding shown span_is
one-shown s f = go s.start s.len f
  where
    go : (start len : ℕ) → (len ≡ 0 → ⊥) → shown (span start len) ≡ span start len ∷ []
    go start zero g = absurd (g refl)
    go start (suc n) g = refl

module _ (at : ℕ) (x : Bytes) (s : Span) (d : Drawable (length x) (shown (span_is s))) (h : length x ≤ 255) (f : s.len ≡ 0 → ⊥) where
  one-marks : marks_text 0 (shown (span_is s)) ≡ span_marks 0 (span_is s)
  unfolding marks_text
  one-marks = rw (one-shown s f) (append-nil (span_marks 0 (span_is s)))

  pub one-room : (p : ℕ) → p ≡ at + length (field x 10) → p + length (span_marks 0 (span_is s)) + 1 ≤ at + 512
  one-room p e = rw one-marks at (lines-room at x (shown (span_is s)) d h p e)

  pub one_written : (o o₁ o₂ : Bytes) (p q : ℕ) → Writes o at (field x 10) p o₁ → Writes o₁ p (span_marks 0 (span_is s)) q o₂
      → WritesWithin (at + 512) o at (lines_text x (shown (span_is s))) (q + 1) (set o₂ q 10)
  one_written o o₁ o₂ p q a b =
      let some : 0 < length (shown (span_is s)) = rw (one-shown s f) (omega arith) in
      lines-written at x (shown (span_is s)) d h some o o₁ o₂ p q a (rw one-marks b)

-- the first so many
pub first-none : (spans : List Span) (count : ℕ) → count ≡ 0 → take count (map span_is spans) ≡ []
first-none spans count e = rw e

pub first_some : (spans : List Span) (count : ℕ) → length spans ≡ 50 → (count ≡ 0 → ⊥) → 0 < length (take count (map span_is spans))
first_some spans zero e f = absurd (f refl)
first_some [] (suc n) e f = absurd (omega arith)
first_some (s ∷ spans) (suc n) e f = omega arith

-- the spans of each part, as the code has them
module _ (part : Part) (count : ℕ) (ps : Places) where
  pub of-language : part ≡ Language → part_spans (Some part) (places_is count ps) ≡ shown (span_is ps.language)
  unfolding part_spans places_is
  of-language e = rw e

  pub of-script : part ≡ Script → part_spans (Some part) (places_is count ps) ≡ shown (span_is ps.script)
  unfolding part_spans places_is
  of-script e = rw e

  pub of-region : part ≡ Region → part_spans (Some part) (places_is count ps) ≡ shown (span_is ps.region)
  unfolding part_spans places_is
  of-region e = rw e

  pub of-variants : part ≡ Variants → part_spans (Some part) (places_is count ps) ≡ take count (map span_is ps.variants)
  unfolding part_spans places_is up_to_count
  of-variants e = rw e

  pub part-written : (bound at next : ℕ) (o o₁ x : Bytes) (ss : List standard.Span) → part_spans (Some part) (places_is count ps) ≡ ss
      → WritesWithin bound o at (lines_text x ss) next o₁ → WritesWithin bound o at (underlined_text (Some part) x (places_is count ps)) next o₁
  unfolding underlined_text
  part-written bound at next o o₁ x ss e w = rw e w
