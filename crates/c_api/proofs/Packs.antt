-- What was packed is unpacked. Assumes nothing.
use mathlib.Core.Path.{◌≡◌, sym, ap, ◌∙◌, subst}
use Prim.Native.Nat.{ℕ, ◌+◌, ◌*◌, ◌/◌, ◌%◌, ◌<◌}
use native.Mathlib.Omega.{arith}
use Rattle.standard.specs.Delivery.{Bytes, Made, given}
use Rattle.std.specs.Prelude.{Result}
use Rattle.operations.specs.declared.delivery.Done.{Done}
use Rattle.operations.specs.declared.delivery.Refusal.{Refusal}
use Rattle.operations.specs.Answer.{answer_of, answer_by, given_is}
use Rattle.c_api.specs.Packed.{packed, unpacked}
use Rattle.c_api.proofs.Sizes.{Fitting, Small, given-fitting}

-- the low part of a number, and what is above it
low8 : (a k : ℕ) → a < 256 → (a + k * 256) % 256 ≡ a
low8 a k h = omega arith

high8 : (a k : ℕ) → a < 256 → (a + k * 256) / 256 ≡ k
high8 a k h = omega arith

low16 : (a k : ℕ) → a < 65536 → (a + k * 65536) % 65536 ≡ a
low16 a k h = omega arith

high16 : (a k : ℕ) → a < 65536 → (a + k * 65536) / 65536 ≡ k
high16 a k h = omega arith

low24 : (a k : ℕ) → a < 16777216 → (a + k * 16777216) % 16777216 ≡ a
low24 a k h = omega arith

high32 : (a k : ℕ) → a < 4294967296 → (a + k * 4294967296) / 4294967296 ≡ k
high32 a k h = omega arith

high56 : (a k : ℕ) → a < 72057594037927936 → (a + k * 72057594037927936) / 72057594037927936 ≡ k
high56 a k h = omega arith

unpack : (n t p l s : ℕ) (out : Bytes) → n < 256 → t < 256 → p < 65536 → l < 16777216 → s < 256
    → unpacked (n + t * 256 + p % 65536 * 65536 + l % 16777216 * 4294967296 + s % 256 * 72057594037927936) out ≡ record { number = n; place = p; table = t; len = l; steps = s; output = out }
unfolding unpacked
unpack n t p l s out hn ht hp hl hs =
    let kp : p % 65536 ≡ p = omega arith in
    let kl : l % 16777216 ≡ l = omega arith in
    let ks : s % 256 ≡ s = omega arith in
    let r : ℕ = n + t * 256 + p % 65536 * 65536 + l % 16777216 * 4294967296 + s % 256 * 72057594037927936 in
    let c = l + s * 16777216 in
    let b = p + c * 65536 in
    let a = t + b * 256 in
    let e₁ : r ≡ n + a * 256 = omega arith in
    let e₂ : r ≡ n + t * 256 + b * 65536 = omega arith in
    let e₃ : r ≡ n + t * 256 + p * 65536 + c * 4294967296 = omega arith in
    let e₄ : r ≡ n + t * 256 + p * 65536 + l * 4294967296 + s * 72057594037927936 = omega arith in
    let en : r % 256 ≡ n = ap (λ (q : ℕ). q % 256) e₁ ∙ low8 n a hn in
    let et : r / 256 % 256 ≡ t = ap (λ (q : ℕ). q / 256 % 256) e₁ ∙ (ap (λ (q : ℕ). q % 256) (high8 n a hn) ∙ low8 t b ht) in
    let ep : r / 65536 % 65536 ≡ p = ap (λ (q : ℕ). q / 65536 % 65536) e₂ ∙ (ap (λ (q : ℕ). q % 65536) (high16 (n + t * 256) b (omega arith)) ∙ low16 p c hp) in
    let el : r / 4294967296 % 16777216 ≡ l = ap (λ (q : ℕ). q / 4294967296 % 16777216) e₃ ∙ (ap (λ (q : ℕ). q % 16777216) (high32 (n + t * 256 + p * 65536) c (omega arith)) ∙ low24 l s hl) in
    let es : r / 72057594037927936 ≡ s = ap (λ (q : ℕ). q / 72057594037927936) e₄ ∙ high56 (n + t * 256 + p * 65536 + l * 4294967296) s (omega arith) in
    λ j. record { number = en j; place = ep j; table = et j; len = el j; steps = es j; output = out }

pub unpacks : (m : Made) (a : Result Done Refusal) (r : ℕ) (out out' : Bytes) → Small m → r ≡ packed (answer_by a) → given_is a out' ≡ given m out → unpacked r out' ≡ given m out
unfolding packed given_is answer_of
unpacks m a r out out' s e f =
    let h : Fitting (given_is a out') = subst Fitting (sym f) (given-fitting m out s) in
    let b = answer_by a in
    ap (λ (n : ℕ). unpacked n out') e ∙ (unpack b.number b.table b.place b.len b.steps out' h.number h.table h.place h.len h.steps ∙ f)
