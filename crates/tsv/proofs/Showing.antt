-- Laws of text that is shown. Assumes nothing.
use mathlib.Core.Path.{◌≡◌, refl, sym, ap, ◌∙◌}
use mathlib.Core.Bool.{true, false, not}
use mathlib.Core.List.{[], ◌∷◌, ◌++◌, append_assoc, append-nil}
use mathlib.Core.Logic.{⊎_elim}
use Prim.Native.Nat.{ℕ, suc, ◌+◌, ◌*◌, ◌/◌, ◌%◌, ◌≤◌, ◌<◌, min}
use native.Mathlib.Omega.{arith}
use native.Mathlib.Numerals.{add-one}
use lib.Dec.{eqb}
use lib.ListN.{length, take, set, get_or}
use lib.Seq.{sets, take-suc, take_all, length-take-le}
use borrow.Author.Tests.{le-leb, lt-leb, lt-ltb, le-ltb}
use Rattle.byte_string.proofs.Stores.{wrote-two}
use Rattle.tsv.proofs.Laws.{ended, field-length}
use Rattle.tsv.specs.Fields.{Bytes, field}
use Rattle.tsv.specs.Shown.{plain, hex, safe_byte, safe, dots, shown}
use Rattle.standard.specs.Tag.{text}
use Rattle.standard.proofs.General.{le-or-lt}

-- the tests of a byte
module _ (b : ℕ) where
  pub plain-low : b < 32 → plain b ≡ false
  unfolding plain
  plain-low h = rw (lt-leb 32 b h)

  pub plain-high : 32 ≤ b → 126 < b → plain b ≡ false
  unfolding plain
  plain-high h k = rw (le-leb 32 b h, lt-leb b 126 k)

  pub plain-rest : 32 ≤ b → b ≤ 126 → plain b ≡ not (eqb b 92)
  unfolding plain
  plain-rest h k = rw (le-leb 32 b h, le-leb b 126 k)

pub hex-low : (n : ℕ) → n < 10 → hex n ≡ 48 + n
unfolding hex
hex-low n h = rw (lt-ltb n 10 h)

pub hex-high : (n : ℕ) → 10 ≤ n → hex n ≡ 55 + n
unfolding hex
hex-high n h = rw (le-ltb n 10 h)

-- a byte written
pub byte-plain : (out : Bytes) (at b : ℕ) → plain b ≡ true → (at + 1 ≡ at + length (safe_byte b)) × (set out at b ≡ sets out at (safe_byte b)) × (at + 1 ≤ at + 4)
unfolding safe_byte
byte-plain out at b e = rw e (refl, refl, omega arith)

pub byte-escape : (out : Bytes) (at b h l : ℕ) → plain b ≡ false → h ≡ hex (b / 16) → l ≡ hex (b % 16)
    → (at + 4 ≡ at + length (safe_byte b)) × (set (set (set (set out at 92) (at + 1) 120) (at + 2) h) (at + 3) l ≡ sets out at (safe_byte b)) × (at + 4 ≤ at + 4)
unfolding safe_byte
byte-escape out at b h l e f g =
    let p : at + 1 ≡ suc at = omega arith in
    let q : at + 2 ≡ suc (suc at) = omega arith in
    let r : at + 3 ≡ suc (suc (suc at)) = omega arith in
    rw (e, f, g) (refl, rw (p, q, r), omega arith)

pub safe-append : (x y : Bytes) → safe (x ++ y) ≡ safe x ++ safe y
unfolding safe
safe-append [] y = refl
safe-append (b ∷ x) y = ap (λ (z : Bytes). safe_byte b ++ z) (safe-append x y) ∙ sym (append_assoc (safe_byte b) (safe x) (safe y))

safe-one : (b : ℕ) → safe (b ∷ []) ≡ safe_byte b
unfolding safe
safe-one b = append-nil (safe_byte b)

-- Bytes that are being written: the first i of x at the place at, up to the place p.
pub record Showing (out : Bytes) (at : ℕ) (x : Bytes) (i p : ℕ) (out' : Bytes) : Type 0 where
  pub next : p ≡ at + length (safe (take i x))
  pub put : out' ≡ sets out at (safe (take i x))
  pub within : p ≤ at + 4 * i

pub showing-start : (out : Bytes) (at : ℕ) (x : Bytes) → Showing out at x 0 at out
unfolding safe
showing-start out at x = record { next = omega arith; put = refl; within = omega arith }

pub showing-more : (out o o' : Bytes) (at : ℕ) (x : Bytes) (i p q : ℕ) → Showing out at x i p o → i < length x
    → (q ≡ p + length (safe_byte (get_or x i 0))) × (o' ≡ sets o p (safe_byte (get_or x i 0))) × (q ≤ p + 4) → Showing out at x (i + 1) q o'
showing-more out o o' at x i p q s h w =
    let e : safe (take (i + 1) x) ≡ safe (take i x) ++ safe_byte (get_or x i 0) =
    rw (add-one, take-suc x i 0 h, safe-append (take i x) (get_or x i 0 ∷ []), safe-one (get_or x i 0)) in
    let t = wrote-two out o o' at p q (safe (take i x)) (safe_byte (get_or x i 0)) (safe (take (i + 1) x)) e s.next s.put w.0 w.1 in
    record { next = t.0; put = t.1; within = omega (arith, s.within, w.2) }

-- the text whole
pub shown-none : (most : ℕ) (x : Bytes) → length x ≡ 0 → shown most x ≡ text "-"
unfolding shown
shown-none most [] h = refl
shown-none most (b ∷ x) h = absurd (omega arith)

shown-some : (most : ℕ) (x : Bytes) → (length x ≡ 0 → ⊥) → shown most x ≡ safe (take most x) ++ dots most x
unfolding shown
shown-some most [] h = absurd (h refl)
shown-some most (b ∷ x) h = refl

pub shown-whole : (most : ℕ) (x : Bytes) → (length x ≡ 0 → ⊥) → length x ≤ most → shown most x ≡ safe (take most x)
unfolding dots
shown-whole most x n h = shown-some most x n ∙ rw (le-leb (length x) most h) (append-nil (safe (take most x)))

pub shown-cut : (most : ℕ) (x : Bytes) → (length x ≡ 0 → ⊥) → most < length x → shown most x ≡ safe (take most x) ++ text "..."
unfolding dots
shown-cut most x n h = shown-some most x n ∙ rw (lt-leb (length x) most h)

field-append : (x y : Bytes) (mark : ℕ) → field (x ++ y) mark ≡ x ++ field y mark
unfolding field
field-append x y mark = append_assoc x y (mark ∷ [])

-- the mark behind the text, and `...` with it
module _ (out o : Bytes) (at most mark end : ℕ) (x : Bytes) (n : length x ≡ 0 → ⊥)
    (w : (end ≡ at + length (safe (take most x))) × (o ≡ sets out at (safe (take most x))) × (end ≤ at + 4 * most)) where
  pub whole-put : length x ≤ most → (end + 1 ≡ at + length (field (shown most x) mark)) × (set o end mark ≡ sets out at (field (shown most x) mark)) × (end + 1 ≤ at + 4 * most + 4)
  whole-put h =
      let t = ended out o at end (safe (take most x)) mark w.0 w.1 in
      rw (shown-whole most x n h) (t.0, t.1, omega (arith, w.2))

  pub cut-put : (o' : Bytes) (r : ℕ) → most < length x → (r ≡ end + length (field (text "...") mark)) × (o' ≡ sets o end (field (text "...") mark))
      → (r ≡ at + length (field (shown most x) mark)) × (o' ≡ sets out at (field (shown most x) mark)) × (r ≤ at + 4 * most + 4)
  cut-put o' r h p =
      let e : field (shown most x) mark ≡ safe (take most x) ++ field (text "...") mark = rw (shown-cut most x n h) (field-append (safe (take most x)) (text "...") mark) in
      let t = wrote-two out o o' at end r (safe (take most x)) (field (text "...") mark) (field (shown most x) mark) e w.0 w.1 p.0 p.1 in
      (t.0, t.1, omega (arith, w.2, p.0, field-length (text "...") mark))

-- the first bytes, at most so many
pub first : (most : ℕ) (x : Bytes) → take (min (length x) most) x ≡ take most x
first most x = ⊎_elim
    (λ h. let e : min (length x) most ≡ most = omega arith in ap (λ n. take n x) e)
    (λ h. let e : min (length x) most ≡ length x = omega arith in ap (λ n. take n x) e ∙ take_all (length x) x (omega arith) ∙ sym (take_all most x (omega arith)))
    (le-or-lt most (length x))

few : (most : ℕ) (x : Bytes) → length (take (min (length x) most) x) ≤ most
few most x = let e = length-take-le (min (length x) most) x (omega arith) in omega arith

pub few-of : (k most : ℕ) (x : Bytes) → k ≡ min (length x) most → length (take k x) ≤ most
few-of k most x e = rw e (few most x)

-- all of them are shown
pub showing-first : (out o : Bytes) (at : ℕ) (x : Bytes) (k most i p : ℕ) → k ≡ min (length x) most → Showing out at (take k x) i p o → i ≤ length (take k x) → length (take k x) ≤ i
    → (p ≡ at + length (safe (take most x))) × (o ≡ sets out at (safe (take most x))) × (p ≤ at + 4 * most)
showing-first out o at x k most i p d s g h =
    let e : take most x ≡ take i (take k x) = sym (first most x) ∙ ap (λ n. take n x) (sym d) ∙ sym (take_all i (take k x) h) in
    rw e (s.next, s.put, omega (arith, s.within, few-of k most x d))
