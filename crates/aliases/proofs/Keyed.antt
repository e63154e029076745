-- The key of a lookup, written into a buffer, and what the lookup makes of the subtag. Assumes nothing.
use mathlib.Core.Path.{◌≡◌, refl, sym, ap, ap₂, ◌∙◌}
use mathlib.Core.List.{List, [], ◌∷◌, ◌++◌, append-nil}
use mathlib.Core.Option.{Option, none, some}
use Prim.Native.Nat.{ℕ, ◌+◌, ◌≤◌, ◌<◌}
use native.Mathlib.Omega.{arith}
use lib.ListN.{length, take, drop, set, length-append, length-set}
use lib.Seq.{sets, length-sets, drop_at}
use Rattle.standard.specs.Tag.{Tag}
use Rattle.standard.specs.Reading.{optional}
use Rattle.standard.specs.Table.{lookup, rows, located}
use Rattle.table.specs.Lines.{value_if}
use Rattle.table.proofs.Lines.{lookup-located}
use Rattle.byte_string.proofs.Stores.{sets-append, front}
use Rattle.subtag.specs.Sections.{led}
use Rattle.aliases.specs.Replaced.{replaced_by, aliased_part}

-- what a lookup answers, in place of the subtag
module _ (A key : List ℕ) (t : Tag) where
  pub found-row : (v : List ℕ) → some v ≡ value_if A (located A key) → v ≡ replaced_by (lookup (rows A) key) t
  unfolding replaced_by
  found-row v e = sym (ap (λ (o : Option (List ℕ)). replaced_by o t) (lookup-located A key ∙ sym e))

  pub no_row : none ≡ value_if A (located A key) → t ≡ replaced_by (lookup (rows A) key) t
  unfolding replaced_by
  no_row e = sym (ap (λ (o : Option (List ℕ)). replaced_by o t) (lookup-located A key ∙ sym e))

pub record Keyed (name t k : List ℕ) (n e : ℕ) : Type 0 where
  pub fits : e ≤ length k
  pub size : e ≡ length (take e k)
  pub skips : n ≤ length (take e k)
  pub is : take e k ≡ name ++ t
  pub rest : drop n (take e k) ≡ t

pub keyed : (z name t k₁ k : List ℕ) (n e : ℕ) → n ≡ 0 + length name → k₁ ≡ sets z 0 name → e ≡ n + length t → k ≡ sets k₁ n t → length name + length t ≤ length z → Keyed name t k n e
keyed z name t k₁ k n e a b c d h =
    let m = length-append name t in
    let w : k ≡ sets z 0 (name ++ t) = d ∙ ap₂ (λ (x : List ℕ) (i : ℕ). sets x i t) b a ∙ sym (sets-append z 0 name t) in
    let i : take e k ≡ name ++ t = ap (take e) w ∙ front z (name ++ t) e (omega arith) (omega arith) in
    let l : length k ≡ length z = ap length w ∙ length-sets z 0 (name ++ t) in
    let s = ap length i in
    record { fits = omega arith; size = omega arith; skips = omega arith; is = i; rest = ap (drop n) i ∙ drop_at name t n (let q : length name ≡ n = omega arith in q) }

-- the whole of a subtag's part
pub aliased-none : (A name t : List ℕ) → length t ≡ 0 → aliased_part A name t ≡ []
unfolding aliased_part
aliased-none A name [] h = refl
aliased-none A name (b ∷ t) h = absurd (omega arith)

pub aliased-some : (A name t k : List ℕ) (n e : ℕ) → Keyed name t k n e → 0 < length t → aliased_part A name t ≡ led (optional (replaced_by (lookup (rows A) (take e k)) (drop n (take e k))))
unfolding aliased_part
aliased-some A name [] k n e w h = absurd (omega arith)
aliased-some A name (b ∷ t) k n e w h = ap (λ (x : Tag). led (optional x)) (ap₂ (λ (x : List ℕ) (y : Tag). replaced_by (lookup (rows A) x) y) (sym w.is) (sym w.rest))

-- one subtag with its separator
pub led-none : (t : Tag) → length t ≡ 0 → led (optional t) ≡ []
unfolding led optional
led-none [] h = refl
led-none (b ∷ t) h = absurd (omega arith)

pub led-some : (t : Tag) → (length t ≡ 0 → ⊥) → led (optional t) ≡ 45 ∷ t
unfolding led optional
led-some [] h = absurd (h refl)
led-some (b ∷ t) h = ap (◌∷◌ 45) (append-nil (b ∷ t))

-- stores keep the length
pub stored-size : (o r : List ℕ) (i b at : ℕ) (x : List ℕ) → r ≡ sets (set o i b) at x → length r ≡ length o
stored-size o r i b at x e = ap length e ∙ length-sets (set o i b) at x ∙ length-set o i b

-- what was written at the front of a buffer
pub front-in : (z k x : List ℕ) (n : ℕ) → n ≡ length x → k ≡ sets z 0 x → n ≤ length k → take n k ≡ x
front-in z k x n e f h = ap (take n) f ∙ front z x n e (omega (arith, ap length f ∙ length-sets z 0 x))
