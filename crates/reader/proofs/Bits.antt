-- One bit of a number is set: its count of ones, its bits and its range after that. Assumes nothing.
use mathlib.Core.Path.{◌≡◌, refl, sym, ap, ap₂, ◌∙◌}
use Prim.Native.Nat.{ℕ, zero, suc, max, ◌+◌, ◌*◌, ◌/◌, ◌%◌, ◌^◌, ◌<◌}
use native.Mathlib.Nat.{pow-suc, div-div-eq-div-mul, mul_comm}
use native.Mathlib.Omega.{arith}
use lib.Bits.{bit_or, or_step, or_zero_r}
use lib.Count.{ones, ones_step}
use Rattle.reader.specs.Marks.{bit}

-- half of n with the place p + 1 more
half-more : (p n : ℕ) → (2 ^ suc p + n) / 2 ≡ 2 ^ p + n / 2
half-more p n = rw (pow-suc 2 p) (omega arith)

odd-more : (p n : ℕ) → (2 ^ suc p + n) % 2 ≡ n % 2
odd-more p n = rw (pow-suc 2 p) (omega arith)

pub ones-mark : (p n : ℕ) → bit n p ≡ 0 → ones (2 ^ p + n) ≡ suc (ones n)
unfolding bit
ones-mark zero n h =
    let e : (1 + n) % 2 ≡ 1 = omega arith in
    let f : (1 + n) / 2 ≡ n / 2 = omega arith in
    ones_step (1 + n) ∙ ap₂ (λ (x y : ℕ). x + ones y) e f ∙ omega (arith, ones_step n)
ones-mark (suc p) n h =
    ones_step (2 ^ suc p + n) ∙ ap₂ (λ (x y : ℕ). x + ones y) (odd-more p n) (half-more p n)
    ∙ omega (arith, ones-mark p (n / 2) h, ones_step n)

pub bit-mark-same : (p n : ℕ) → bit n p ≡ 0 → bit (2 ^ p + n) p ≡ 1
unfolding bit
bit-mark-same zero n h = omega arith
bit-mark-same (suc p) n h = ap (λ (x : ℕ). bit x p) (half-more p n) ∙ bit-mark-same p (n / 2) h

pub bit-mark-other : (p q n : ℕ) → bit n p ≡ 0 → (p ≡ q → ⊥) → bit (2 ^ p + n) q ≡ bit n q
unfolding bit
bit-mark-other zero zero n h d = absurd (d refl)
bit-mark-other zero (suc q) n h d =
    let f : (1 + n) / 2 ≡ n / 2 = omega arith in
    ap (λ (x : ℕ). bit x q) f
bit-mark-other (suc p) zero n h d = odd-more p n
bit-mark-other (suc p) (suc q) n h d =
    ap (λ (x : ℕ). bit x q) (half-more p n) ∙ bit-mark-other p q (n / 2) h (λ e. d (ap suc e))

pub mark-lt : (p k n : ℕ) → bit n p ≡ 0 → p < k → n < 2 ^ k → 2 ^ p + n < 2 ^ k
unfolding bit
mark-lt p zero n h l b = absurd (omega arith)
mark-lt zero (suc k) n h l b = let e : 2 ^ suc k ≡ 2 ^ k * 2 = pow-suc 2 k in omega arith
mark-lt (suc p) (suc k) n h l b =
    let e : 2 ^ suc k ≡ 2 ^ k * 2 = pow-suc 2 k in
    let f : 2 ^ suc p ≡ 2 ^ p * 2 = pow-suc 2 p in
    omega (arith, mark-lt p k (n / 2) h (omega arith) (omega arith))

pub or-mark : (p n : ℕ) → bit n p ≡ 0 → bit_or n (2 ^ p) ≡ 2 ^ p + n
unfolding bit
or-mark zero n h =
    or_step n 1 ∙ ap (λ (x : ℕ). x * 2 + max (n % 2) 1) (or_zero_r (n / 2)) ∙ omega arith
or-mark (suc p) n h =
    let e : 2 ^ suc p ≡ 2 ^ p * 2 = pow-suc 2 p in
    let f : 2 ^ suc p / 2 ≡ 2 ^ p = omega arith in
    let g : 2 ^ suc p % 2 ≡ 0 = omega arith in
    or_step n (2 ^ suc p) ∙ ap₂ (λ (x y : ℕ). bit_or (n / 2) x * 2 + max (n % 2) y) f g
    ∙ omega (arith, or-mark p (n / 2) h)

-- a number below 2 ^ k without ones is 0
pub ones_none : (k n : ℕ) → n < 2 ^ k → ones n ≡ 0 → n ≡ 0
ones_none zero n h e = omega arith
ones_none (suc k) n h e =
    let f : 2 ^ suc k ≡ 2 ^ k * 2 = pow-suc 2 k in
    let g = ones_step n in
    omega (arith, ones_none k (n / 2) (omega arith) (omega arith))

-- the code's way to a bit
pub bit-shift : (p n : ℕ) → n / 2 ^ p % 2 ≡ bit n p
unfolding bit
bit-shift zero n = omega arith
bit-shift (suc p) n =
    ap (λ (x : ℕ). n / x % 2) (pow-suc 2 p ∙ mul_comm (2 ^ p) 2) ∙ ap (λ (x : ℕ). x % 2) (sym (div-div-eq-div-mul n 2 (2 ^ p)))
    ∙ bit-shift p (n / 2)

pub bit-zero : (p : ℕ) → bit 0 p ≡ 0
unfolding bit
bit-zero zero = refl
bit-zero (suc p) = bit-zero p
