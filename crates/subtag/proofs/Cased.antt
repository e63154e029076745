-- Laws of capitals at the front of a subtag. Assumes nothing.
use mathlib.Core.Path.{◌≡◌, refl, sym, ap, ap₂, ◌∙◌}
use mathlib.Core.Bool.{Bool, true, false, cond}
use mathlib.Core.List.{List, [], ◌∷◌, ◌++◌, map}
use Prim.Native.Nat.{ℕ, zero, suc, ◌+◌, ◌≤◌, ◌<◌}
use native.Mathlib.Numerals.{add-one}
use native.Mathlib.Omega.{arith}
use lib.Dec.{ltb}
use lib.ListN.{length, get_or, take, set, length-map}
use lib.Seq.{sets, take-suc, take_all, length-take-le}
use borrow.Author.Tests.{lt-ltb, le-ltb, ltb-true, ltb-false}
use Rattle.standard.specs.Tag.{Tag}
use Rattle.standard.specs.Grammar.{upper_byte, title, upper}
use Rattle.subtag.specs.Bytes.{cased, cased_byte}
use Rattle.byte_string.proofs.Stores.{sets-append, map-append}

pub cased-length : (n : ℕ) (t : Tag) → length (cased n t) ≡ length t
unfolding cased
cased-length zero t = refl
cased-length (suc n) [] = refl
cased-length (suc n) (b ∷ bs) = ap suc (cased-length n bs)

-- with no capitals it stays
pub cased-none : (t : Tag) → cased 0 t ≡ t
unfolding cased
cased-none t = refl

pub cased-nil : (n : ℕ) → cased n [] ≡ []
unfolding cased
cased-nil zero = refl
cased-nil (suc n) = refl

shift : (i n : ℕ) → ltb i n ≡ ltb (suc i) (suc n)
shift i n = go (ltb i n) refl
  where
    go : (b : Bool) → ltb i n ≡ b → b ≡ ltb (suc i) (suc n)
    go true e = sym (lt-ltb (suc i) (suc n) (omega (arith, ltb-true i n e)))
    go false e = sym (le-ltb (suc i) (suc n) (omega (arith, ltb-false i n e)))

cased-more : (n : ℕ) (x : List ℕ) (b : ℕ) → cased n (x ++ (b ∷ [])) ≡ cased n x ++ (cased_byte (length x) n b ∷ [])
unfolding cased cased_byte
cased-more zero x b = ap (λ (c : Bool). x ++ (cond c (upper_byte b) b ∷ [])) (sym (le-ltb (length x) 0 (omega arith)))
cased-more (suc n) [] b = ap (◌∷◌ (upper_byte b)) (cased-nil n) ∙ ap (λ (c : Bool). cond c (upper_byte b) b ∷ []) (sym (lt-ltb 0 (suc n) (omega arith)))
cased-more (suc n) (a ∷ x) b =
    ap (◌∷◌ (upper_byte a)) (cased-more n x b) ∙ ap (λ (c : Bool). upper_byte a ∷ (cased n x ++ (cond c (upper_byte b) b ∷ []))) (shift (length x) n)

-- one byte more, in its case
pub cased_next : (f : ℕ → ℕ) (n : ℕ) (l o : List ℕ) (at : ℕ) (x : List ℕ) (i b : ℕ) → o ≡ sets l at (cased n (map f (take i x))) → b ≡ cased_byte i n (f (get_or x i 0)) → i < length x
    → set o (at + i) b ≡ sets l at (cased n (map f (take (i + 1) x)))
cased_next f n l o at x i b e d h =
    let t = map f (take i x) in
    let z : length t ≡ i = length-map (take i x) f ∙ length-take-le i x (omega arith) in
    let y : length (cased n t) ≡ i = cased-length n t ∙ z in
    let m : cased n (map f (take (i + 1) x)) ≡ cased n t ++ (cased_byte i n (f (get_or x i 0)) ∷ []) =
    ap (cased n) (rw (add-one, take-suc x i 0) (map-append f (take i x) (get_or x i 0 ∷ []))) ∙ cased-more n t (f (get_or x i 0)) ∙ ap (λ (k : ℕ). cased n t ++ (cased_byte k n (f (get_or x i 0)) ∷ [])) z in
    ap₂ (λ (q : List ℕ) (c : ℕ). set q (at + i) c) e d
    ∙ sym (ap (sets l at) m ∙ sets-append l at (cased n t) (cased_byte i n (f (get_or x i 0)) ∷ []) ∙ ap (λ (k : ℕ). set (sets l at (cased n t)) (at + k) (cased_byte i n (f (get_or x i 0)))) y)

pub cased-all : (f : ℕ → ℕ) (n : ℕ) (l : List ℕ) (at : ℕ) (x : List ℕ) (i : ℕ) → length x ≤ i → sets l at (cased n (map f (take i x))) ≡ sets l at (cased n (map f x))
cased-all f n l at x i h = ap (λ (y : List ℕ). sets l at (cased n (map f y))) (take_all i x h)

pub cased-yes : (i n b r : ℕ) → i < n → r ≡ upper_byte b → r ≡ cased_byte i n b
unfolding cased_byte
cased-yes i n b r h e = e ∙ ap (λ (c : Bool). cond c (upper_byte b) b) (sym (lt-ltb i n h))

pub cased-no : (i n b : ℕ) → n ≤ i → b ≡ cased_byte i n b
unfolding cased_byte
cased-no i n b h = ap (λ (c : Bool). cond c (upper_byte b) b) (sym (le-ltb i n h))

-- scripts and regions
pub cased-title : (t : Tag) → cased 1 t ≡ title t
unfolding cased title
cased-title [] = refl
cased-title (b ∷ bs) = refl

pub cased-upper : (n : ℕ) (t : Tag) → length t ≤ n → cased n t ≡ upper t
unfolding cased upper
cased-upper zero [] h = refl
cased-upper zero (b ∷ bs) h = absurd (omega arith)
cased-upper (suc n) [] h = refl
cased-upper (suc n) (b ∷ bs) h = ap (◌∷◌ (upper_byte b)) (cased-upper n bs (omega arith))

pub cased-start : (f : ℕ → ℕ) (n : ℕ) (l : List ℕ) (at : ℕ) → l ≡ sets l at (cased n (map f []))
cased-start f n l at = ap (sets l at) (sym (cased-nil n))
