-- Laws of bytes written one behind the other: runs of stores. Assumes nothing.
use mathlib.Core.Path.{◌≡◌, refl, sym, ap, ap₂, ◌∙◌}
use mathlib.Core.List.{List, [], ◌∷◌, ◌++◌, map, append_assoc}
use Prim.Native.Nat.{ℕ, suc, ◌+◌, ◌-◌, ◌≤◌, ◌<◌}
use native.Mathlib.Nat.{add-zero}
use native.Mathlib.Numerals.{add-one}
use native.Mathlib.Omega.{arith}
use lib.ListN.{length, drop, get_or, take, set, length-map, length-append, length-drop}
use lib.Seq.{sets, sets-eq, drop-drop, take_at, take-suc, take_all, length-take-le, get_or-set_other}

pub sets-append : (l : List ℕ) (at : ℕ) (x y : List ℕ) → sets l at (x ++ y) ≡ sets (sets l at x) (at + length x) y
sets-append l at [] y = rw add-zero
sets-append l at (a ∷ x) y =
    let e : suc at + length x ≡ at + suc (length x) = omega arith in
    sets-append (set l at a) (suc at) x y ∙ ap (λ (k : ℕ). sets (sets (set l at a) (suc at) x) k y) e

pub map-append : (f : ℕ → ℕ) (x y : List ℕ) → map f (x ++ y) ≡ map f x ++ map f y
map-append f [] y = refl
map-append f (a ∷ x) y = ap (◌∷◌ (f a)) (map-append f x y)

-- one run of stores, and another behind it
pub wrote-two : (o o₁ o₂ : List ℕ) (at p r : ℕ) (x y b : List ℕ) → b ≡ x ++ y → p ≡ at + length x → o₁ ≡ sets o at x → r ≡ p + length y → o₂ ≡ sets o₁ p y
    → (r ≡ at + length b) × (o₂ ≡ sets o at b)
wrote-two o o₁ o₂ at p r x y b e f g h k =
    let n = ap length e ∙ length-append x y in
    (omega arith, k ∙ ap₂ (λ (q : List ℕ) (i : ℕ). sets q i y) g f ∙ sym (sets-append o at x y) ∙ ap (sets o at) (sym e))

pub mapped : (f : ℕ → ℕ) (at : ℕ) (x : List ℕ) → at + length x ≡ at + length (map f x)
mapped f at x = ap (λ (n : ℕ). at + n) (sym (length-map x f))

-- one byte more, and all of them
pub plain-next : (l o : List ℕ) (at : ℕ) (x : List ℕ) (i b : ℕ) → o ≡ sets l at (take i x) → b ≡ get_or x i 0 → i < length x → set o (at + i) b ≡ sets l at (take (i + 1) x)
plain-next l o at x i b e d h =
    let n : length (take i x) ≡ i = length-take-le i x (omega arith) in
    let m : take (i + 1) x ≡ take i x ++ (get_or x i 0 ∷ []) = rw (add-one, take-suc x i 0) in
    ap₂ (λ (q : List ℕ) (c : ℕ). set q (at + i) c) e d
    ∙ sym (ap (sets l at) m ∙ sets-append l at (take i x) (get_or x i 0 ∷ []) ∙ ap (λ (k : ℕ). set (sets l at (take i x)) (at + k) (get_or x i 0)) n)

-- a text copied into a part of its length, as code does it
pub copied : (l x y : List ℕ) (at n : ℕ) → y ≡ x → n ≡ length x → at + length x ≤ length l → take at l ++ (y ++ drop n (drop at l)) ≡ sets l at x
copied l x y at n e f h =
    rw (e, f) (ap (λ (r : List ℕ). take at l ++ (x ++ r)) (drop-drop (length x) at l) ∙ sym (append_assoc (take at l) x (drop (at + length x) l)) ∙ sym (sets-eq x l at h))

pub plain-all : (l : List ℕ) (at : ℕ) (x : List ℕ) (i : ℕ) → length x ≤ i → sets l at (take i x) ≡ sets l at x
plain-all l at x i h = ap (sets l at) (take_all i x h)

-- what was written at the front
pub written : (l x : List ℕ) → length x ≤ length l → take (length x) (sets l 0 x) ≡ x
written l x h = ap (take (length x)) (sets-eq x l 0 (let z : 0 + length x ≡ length x = omega arith in omega arith)) ∙ take_at x (drop (0 + length x) l) (length x) refl

-- all that is left from a on, as code lends it
pub all_from : (a : ℕ) (s : List ℕ) → take (length s - a) (drop a s) ≡ drop a s
all_from a s = take_all (length s - a) (drop a s) (simp length-drop (omega arith))

-- what was written at the front
pub front : (l x : List ℕ) (n : ℕ) → n ≡ length x → length x ≤ length l → take n (sets l 0 x) ≡ x
front l x n e h = rw e (written l x h)

-- what stands behind a run of stores stays
pub sets_behind : (l : List ℕ) (at : ℕ) (x : List ℕ) (j : ℕ) → at + length x ≤ j → get_or (sets l at x) j 0 ≡ get_or l j 0
sets_behind l at [] j h = refl
sets_behind l at (b ∷ x) j h = sets_behind (set l at b) (suc at) x j (omega arith) ∙ get_or-set_other l at j b 0 (λ e. omega arith)
