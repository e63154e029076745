-- Laws of a key more among the keys. Assumes nothing.
use mathlib.Core.Path.{◌≡◌, refl, ap, ap₂, ◌∙◌}
use mathlib.Core.Bool.{Bool, true, false}
use mathlib.Core.List.{List, [], ◌∷◌}
use Prim.Native.Nat.{ℕ, zero, suc, ◌+◌, ◌*◌, ◌≤◌, ◌<◌}
use native.Mathlib.Omega.{arith}
use lib.Dec.{leb}
use borrow.Author.Tests.{leb-true, leb-false}
use lib.ListN.{get_or, length, set, length-set}
use lib.Seq.{get_or-set_same, get_or-set_other, sets, length-sets}
use Rattle.standard.specs.Tag.{Tag}
use Rattle.standard.specs.Delivery.{Bytes}
use Rattle.byte_string.proofs.Stores.{sets_behind}
use Rattle.bill_ledger.specs.Places.{bytes_at, at_most31, text_at, Moved, KeyMore, CountsMore}
use Rattle.bill_ledger.proofs.Moves.{short, long}

bytes_same : (a b : Bytes) (p q n : ℕ) → ((j : ℕ) → j < n → get_or b (q + j) 0 ≡ get_or a (p + j) 0) → bytes_at b q n ≡ bytes_at a p n
unfolding bytes_at
bytes_same a b p q zero f = refl
bytes_same a b p q (suc n) f =
    let x : q ≡ q + 0 = omega arith in
    let y : p + 0 ≡ p = omega arith in
    ap₂ (λ (c : ℕ) (cs : Bytes). c ∷ cs) (ap (λ (j : ℕ). get_or b j 0) x ∙ f 0 (omega arith) ∙ ap (λ (j : ℕ). get_or a j 0) y)
    (bytes_same a b (suc p) (suc q) n (λ j h. ap (λ (j : ℕ). get_or b j 0) (let z : suc q + j ≡ q + suc j = omega arith in z) ∙ f (suc j) (omega arith) ∙ ap (λ (j : ℕ). get_or a j 0) (let z : p + suc j ≡ suc p + j = omega arith in z)))

at_most : (n : ℕ) → at_most31 n ≤ 31
at_most n = go (leb n 31) refl
  where
    go : (t : Bool) → leb n 31 ≡ t → at_most31 n ≤ 31
    go true e = let h = leb-true n 31 e in rw (short n h) h
    go false e = rw (long n (leb-false n 31 e)) (omega arith)

text_same : (a b : Bytes) (i j : ℕ) → ((k : ℕ) → k < 32 → get_or b (32 * j + k) 0 ≡ get_or a (32 * i + k) 0) → text_at b j ≡ text_at a i
unfolding text_at
text_same a b i j f =
    let x : 32 * j ≡ 32 * j + 0 = omega arith in
    let y : 32 * i + 0 ≡ 32 * i = omega arith in
    let e : get_or b (32 * j) 0 ≡ get_or a (32 * i) 0 = ap (λ (n : ℕ). get_or b n 0) x ∙ f 0 (omega arith) ∙ ap (λ (n : ℕ). get_or a n 0) y in
    ap (λ (n : ℕ). bytes_at b (32 * j + 1) (at_most31 n)) e
    ∙ bytes_same a b (32 * i + 1) (32 * j + 1) (at_most31 (get_or a (32 * i) 0))
    (λ k h. ap (λ (n : ℕ). get_or b n 0) (let z : 32 * j + 1 + k ≡ 32 * j + suc k = omega arith in z) ∙ f (suc k) (omega (arith, at_most (get_or a (32 * i) 0))) ∙ ap (λ (n : ℕ). get_or a n 0) (let z : 32 * i + suc k ≡ 32 * i + 1 + k = omega arith in z))

-- bytes written at a place
sets-under : (xs l : Bytes) (k j : ℕ) → j < k → get_or (sets l k xs) j 0 ≡ get_or l j 0
sets-under [] l k j h = refl
sets-under (x ∷ xs) l k j h = sets-under xs (set l k x) (suc k) j (omega arith) ∙ get_or-set_other l k j x 0 (λ (e : j ≡ k). omega arith)

sets-at : (xs l : Bytes) (k : ℕ) → k + length xs ≤ length l → bytes_at (sets l k xs) k (length xs) ≡ xs
unfolding bytes_at
sets-at [] l k h = refl
sets-at (x ∷ xs) l k h =
    ap₂ (λ (c : ℕ) (cs : Bytes). c ∷ cs) (sets-under xs (set l k x) (suc k) k (omega arith) ∙ get_or-set_same l k x 0 (omega arith))
    (sets-at xs (set l k x) (suc k) (omega (arith, length-set l k x)))

-- what stands in the array after the key was put
module _ (a b : Bytes) (n at : ℕ) (k : Tag) (h : at ≤ n) (l : n < 512) (s : length a ≡ 16384) (t : length k ≤ 31) (m : Moved a b (32 * at) (32 * n) 32) where
  abbrev c : Bytes
  c = set b (32 * at) (length k)

  abbrev d : Bytes
  d = sets c (32 * at + 1) k

  under : (j : ℕ) → j < 32 * at → get_or d j 0 ≡ get_or b j 0
  under j q = sets-under k c (32 * at + 1) j (omega arith) ∙ get_or-set_other b (32 * at) j (length k) 0 (λ (e : j ≡ 32 * at). omega arith)

  over : (j : ℕ) → 32 * at + 32 ≤ j → get_or d j 0 ≡ get_or b j 0
  over j q = sets_behind c (32 * at + 1) k j (omega arith) ∙ get_or-set_other b (32 * at) j (length k) 0 (λ (e : j ≡ 32 * at). omega arith)

  there : text_at d at ≡ k
  unfolding text_at
  there =
      let e : get_or d (32 * at) 0 ≡ length k = sets-under k c (32 * at + 1) (32 * at) (omega arith) ∙ get_or-set_same b (32 * at) (length k) 0 (omega (arith, m.size)) in
      ap (λ (x : ℕ). bytes_at d (32 * at + 1) (at_most31 x)) e ∙ ap (bytes_at d (32 * at + 1)) (short (length k) t) ∙ sets-at k c (32 * at + 1) (omega (arith, m.size, length-set b (32 * at) (length k)))

  pub key_more : KeyMore a d n at k
  key_more = record {
    size = length-sets c (32 * at + 1) k ∙ length-set b (32 * at) (length k) ∙ m.size;
    before = λ i q. text_same a d i i (λ j r. under (32 * i + j) (omega arith) ∙ m.low (32 * i + j) (omega arith));
    here = there;
    behind = λ i q w. text_same a d i (suc i) (λ j r. over (32 * suc i + j) (omega arith) ∙ ap (λ (x : ℕ). get_or b x 0) (let z : 32 * suc i + j ≡ 32 * i + j + 32 = omega arith in z) ∙ m.high (32 * i + j) (omega arith) (omega arith));
  }

pub counts-more : (a b : List ℕ) (n at m : ℕ) → at ≤ n → n < 512 → length a ≡ 1024 → Moved a b (2 * at) (2 * n) 2 → CountsMore a (set (set b (2 * at) m) (2 * at + 1) 1) n at m
counts-more a b n at m h l s v =
    let c = set b (2 * at) m in
    let other : (j : ℕ) → (j ≡ 2 * at → ⊥) → (j ≡ 2 * at + 1 → ⊥) → get_or (set c (2 * at + 1) 1) j 0 ≡ get_or b j 0 = λ j p q. get_or-set_other c (2 * at + 1) j 1 0 q ∙ get_or-set_other b (2 * at) j m 0 p in
    record {
      size = length-set c (2 * at + 1) 1 ∙ length-set b (2 * at) m ∙ v.size;
      before = λ i q. other i (λ (e : i ≡ 2 * at). omega arith) (λ (e : i ≡ 2 * at + 1). omega arith) ∙ v.low i (omega arith);
      marks = get_or-set_other c (2 * at + 1) (2 * at) 1 0 (λ (e : 2 * at ≡ 2 * at + 1). omega arith) ∙ get_or-set_same b (2 * at) m 0 (omega (arith, v.size));
      deliveries = get_or-set_same c (2 * at + 1) 1 0 (omega (arith, v.size, length-set b (2 * at) m));
      behind = λ i q w. other (i + 2) (λ (e : i + 2 ≡ 2 * at). omega arith) (λ (e : i + 2 ≡ 2 * at + 1). omega arith) ∙ v.high i (omega arith) (omega arith);
    }
