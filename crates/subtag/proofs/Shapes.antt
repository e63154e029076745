-- What a subtag can be, from its length, counts and first byte; and the branches by which the code decides it.
-- Assumes nothing.
use mathlib.Core.Path.{◌≡◌, refl, sym, ap, ◌∙◌}
use mathlib.Core.Bool.{Bool, true, false, cond, ◌&&◌}
use mathlib.Core.List.{[], ◌∷◌}
use Prim.Native.Nat.{ℕ, zero, suc, ◌+◌, ◌≤◌, ◌<◌}
use native.Mathlib.Omega.{arith}
use lib.Dec.{eqb}
use lib.ListN.{length}
use borrow.Author.Tests.{le-leb, lt-leb, eq-eqb, ne_eqb, eqb-true, eqb-false}
use Rattle.standard.specs.Tag.{Tag}
use Rattle.standard.specs.Grammar.{small, digit, every, starts_with_digit, Size, size0, size1, size2, size3, size4, size5to8, size_over8, size_of, language_size, wrong_length, one_size, two_size, is_language, a_script, a_region, a_variant, a_none, kind, kind_of, is_singleton, is_two, is_keyword_key, is_field_key}
use Rattle.standard.specs.Reading.{wrong_size}
use Rattle.subtag.specs.declared.Subtag.{Subtag}
use Rattle.subtag.specs.declared.Class.{Class}
use Rattle.subtag.specs.declared.Class.TheVariants.{Small, Capital, Digit, Separator, Other}
use Rattle.subtag.specs.Bytes.{class_of, is_small, is_digit}
use Rattle.subtag.specs.Subtags.{count, first_byte, subtag_of}
use Rattle.subtag.specs.Kinds.{size_from, language_from, kind_from, keyword_from, field_from}
use Rattle.subtag.proofs.Bytes.{classed}

-- Sizes.
module _ (n : ℕ) where
  pub size-empty : n ≡ 0 → size_from n ≡ size0
  unfolding size_from
  size-empty e = rw e

  pub size-one : n ≡ 1 → size_from n ≡ size1
  unfolding size_from
  size-one e = rw e

  pub size-two : n ≡ 2 → size_from n ≡ size2
  unfolding size_from
  size-two e = rw e

  pub size-three : n ≡ 3 → size_from n ≡ size3
  unfolding size_from
  size-three e = rw e

  pub size-four : n ≡ 4 → size_from n ≡ size4
  unfolding size_from
  size-four e = rw e

  pub size-several : 5 ≤ n → n ≤ 8 → size_from n ≡ size5to8
  unfolding size_from
  size-several h k =
      simp
      (ne_eqb n 0 (λ e. omega arith), ne_eqb n 1 (λ e. omega arith), ne_eqb n 2 (λ e. omega arith), ne_eqb n 3 (λ e. omega arith), ne_eqb n 4 (λ e. omega arith), le-leb n 8 k)

  pub size-long : 8 < n → size_from n ≡ size_over8
  unfolding size_from
  size-long h =
      simp
      (ne_eqb n 0 (λ e. omega arith), ne_eqb n 1 (λ e. omega arith), ne_eqb n 2 (λ e. omega arith), ne_eqb n 3 (λ e. omega arith), ne_eqb n 4 (λ e. omega arith), lt-leb n 8 h)

pub size-from : (t : Tag) → size_of t ≡ size_from (length t)
unfolding size_of size_from
size-from [] = refl
size-from (a ∷ []) = refl
size-from (a ∷ b ∷ []) = refl
size-from (a ∷ b ∷ c ∷ []) = refl
size-from (a ∷ b ∷ c ∷ d ∷ []) = refl
size-from (a ∷ b ∷ c ∷ d ∷ e ∷ []) = refl
size-from (a ∷ b ∷ c ∷ d ∷ e ∷ f ∷ []) = refl
size-from (a ∷ b ∷ c ∷ d ∷ e ∷ f ∷ g ∷ []) = refl
size-from (a ∷ b ∷ c ∷ d ∷ e ∷ f ∷ g ∷ h ∷ []) = refl
size-from (a ∷ b ∷ c ∷ d ∷ e ∷ f ∷ g ∷ h ∷ i ∷ t) = sym (size-long (length (a ∷ b ∷ c ∷ d ∷ e ∷ f ∷ g ∷ h ∷ i ∷ t)) (omega arith))

-- Counts.
pub count-le : (p : ℕ → Bool) (t : Tag) → count p t ≤ length t
unfolding count
count-le p [] = omega arith
count-le p (b ∷ bs) = go (p b) (count-le p bs)
  where
    go : (q : Bool) → count p bs ≤ length bs → cond q 1 0 + count p bs ≤ suc (length bs)
    go true h = omega arith
    go false h = omega arith

pub every-count : (p : ℕ → Bool) (t : Tag) → every p t ≡ eqb (count p t) (length t)
unfolding every count
every-count p [] = refl
every-count p (b ∷ bs) = go (p b) (every-count p bs) (count-le p bs)
  where
    go : (q : Bool) → every p bs ≡ eqb (count p bs) (length bs) → count p bs ≤ length bs → (q && every p bs) ≡ eqb (cond q 1 0 + count p bs) (suc (length bs))
    go true e h = e ∙ same (eqb (count p bs) (length bs)) refl
      where
        same : (r : Bool) → eqb (count p bs) (length bs) ≡ r → r ≡ eqb (1 + count p bs) (suc (length bs))
        same true f = sym (eq-eqb (1 + count p bs) (suc (length bs)) (let g = eqb-true (count p bs) (length bs) f in omega arith))
        same false f = sym (ne_eqb (1 + count p bs) (suc (length bs)) (λ g. eqb-false (count p bs) (length bs) f (omega arith)))
    go false e h = sym (ne_eqb (0 + count p bs) (suc (length bs)) (λ g. omega arith))

pub digit-first : (t : Tag) → starts_with_digit t ≡ digit (first_byte t)
unfolding starts_with_digit first_byte digit
digit-first [] = refl
digit-first (b ∷ bs) = refl

-- Each decision of the code is the standard's.
pub language-from : (t : Tag) → language_from (subtag_of t) ≡ is_language t
unfolding language_from subtag_of is_language
language-from t = rw (size-from t, every-count small t)

pub kind-from : (t : Tag) → kind_from (subtag_of t) ≡ kind_of t
unfolding kind_from subtag_of kind_of
kind-from t = rw (size-from t, every-count small t, every-count digit t, digit-first t)

pub keyword-from : (t : Tag) → keyword_from (subtag_of t) ≡ is_keyword_key t
unfolding keyword_from subtag_of is_keyword_key first_byte count
keyword-from [] = refl
keyword-from (a ∷ []) = refl
keyword-from (a ∷ b ∷ []) = go (small a) (small b)
  where
    go : (p q : Bool) → eqb (cond p 1 0 + (cond q 1 0 + 0)) (cond p 2 1) ≡ q
    go true true = refl
    go true false = refl
    go false true = refl
    go false false = refl
keyword-from (a ∷ b ∷ c ∷ t) = simp (ne_eqb (length (a ∷ b ∷ c ∷ t)) 2 (λ e. omega arith))

digit-not-small : (b : ℕ) → small b ≡ true → digit b ≡ false
digit-not-small b e = (classed b).digit ∙ go (class_of b) (sym (classed b).small ∙ e)
  where
    go : (k : Class) → is_small k ≡ true → is_digit k ≡ false
    go Small f = refl
    go Capital f = refl
    go Digit f = sym f
    go Separator f = refl
    go Other f = refl

pub field-from : (t : Tag) → field_from (subtag_of t) ≡ is_field_key t
unfolding field_from subtag_of is_field_key first_byte count
field-from [] = refl
field-from (a ∷ []) = refl
field-from (a ∷ b ∷ []) = go (small a) refl (digit b)
  where
    digits : (d q : Bool) → d ≡ false → eqb (cond d 1 0 + (cond q 1 0 + 0)) 1 ≡ q
    digits true q e = let z : ◌≡◌ {A = ℕ} 0 1 = cc in absurd (omega arith)
    digits false true e = refl
    digits false false e = refl

    go : (p : Bool) → small a ≡ p → (q : Bool) → (p && eqb (cond (digit a) 1 0 + (cond q 1 0 + 0)) 1) ≡ (p && q)
    go true e q = digits (digit a) q (digit-not-small a e)
    go false e q = refl
field-from (a ∷ b ∷ c ∷ t) = simp (ne_eqb (length (a ∷ b ∷ c ∷ t)) 2 (λ e. omega arith))

-- Sizes alone.
module _ (t : Tag) where
  pub singleton-from : is_singleton t ≡ one_size (size_from (length t))
  unfolding is_singleton
  singleton-from = ap one_size (size-from t)

  pub two_from : is_two t ≡ two_size (size_from (length t))
  unfolding is_two
  two_from = ap two_size (size-from t)

  pub wrong-from : wrong_size t ≡ wrong_length (size_from (length t))
  unfolding wrong_size
  wrong-from = ap wrong_length (size-from t)

  pub wrong-empty : length t ≡ 0 → wrong_size t ≡ true
  unfolding wrong_length
  wrong-empty h = wrong-from ∙ ap wrong_length (size-empty (length t) h)

  pub wrong-long : 8 < length t → wrong_size t ≡ true
  unfolding wrong_length
  wrong-long h = wrong-from ∙ ap wrong_length (size-long (length t) h)

  pub right-size : 0 < length t → length t ≤ 8 → wrong_size t ≡ false
  unfolding wrong_size wrong_length size_of
  right-size h k = go t h k
    where
      go : (u : Tag) → 0 < length u → length u ≤ 8 → wrong_length (size_of u) ≡ false
      go [] h k = absurd (omega arith)
      go (a ∷ []) h k = refl
      go (a ∷ b ∷ []) h k = refl
      go (a ∷ b ∷ c ∷ []) h k = refl
      go (a ∷ b ∷ c ∷ d ∷ []) h k = refl
      go (a ∷ b ∷ c ∷ d ∷ e ∷ []) h k = refl
      go (a ∷ b ∷ c ∷ d ∷ e ∷ f ∷ []) h k = refl
      go (a ∷ b ∷ c ∷ d ∷ e ∷ f ∷ g ∷ []) h k = refl
      go (a ∷ b ∷ c ∷ d ∷ e ∷ f ∷ g ∷ i ∷ []) h k = refl
      go (a ∷ b ∷ c ∷ d ∷ e ∷ f ∷ g ∷ i ∷ j ∷ u) h k = absurd (omega arith)

-- The branches of the code.
module _ (t : Subtag) where
  pub kind-two : (b : Bool) → t.len ≡ 2 → eqb t.letters 2 ≡ b → cond b a_region a_none ≡ kind_from t
  unfolding kind_from kind
  kind-two true e f = rw (size-two t.len e, e, f)
  kind-two false e f = rw (size-two t.len e, e, f)

  pub kind-three : (b : Bool) → t.len ≡ 3 → eqb t.digits 3 ≡ b → cond b a_region a_none ≡ kind_from t
  unfolding kind_from kind
  kind-three true e f = rw (size-three t.len e, e, f)
  kind-three false e f = rw (size-three t.len e, e, f)

  pub kind-four-letters : t.len ≡ 4 → t.letters ≡ 4 → a_script ≡ kind_from t
  unfolding kind_from kind
  kind-four-letters e f = rw (size-four t.len e, eq-eqb t.letters t.len (f ∙ sym e))

  pub kind-four : (b : Bool) → t.len ≡ 4 → (t.letters ≡ 4 → ⊥) → digit t.first ≡ b → cond b a_variant a_none ≡ kind_from t
  unfolding kind_from kind
  kind-four true e f g = rw (size-four t.len e, ne_eqb t.letters t.len (λ h. f (h ∙ e)), g)
  kind-four false e f g = rw (size-four t.len e, ne_eqb t.letters t.len (λ h. f (h ∙ e)), g)

  pub kind-short : t.len < 2 → a_none ≡ kind_from t
  unfolding kind_from kind
  kind-short h = go t.len h
    where
      go : (n : ℕ) → n < 2 → a_none ≡ kind (size_from n) (eqb t.letters n) (eqb t.digits n) (digit t.first)
      go zero h = rw (size-empty 0 refl)
      go (suc zero) h = rw (size-one 1 refl)
      go (suc (suc n)) h = absurd (omega arith)

  pub kind-several : 5 ≤ t.len → t.len ≤ 8 → a_variant ≡ kind_from t
  unfolding kind_from kind
  kind-several h k = rw (size-several t.len h k)

  pub kind-long : 8 < t.len → a_none ≡ kind_from t
  unfolding kind_from kind
  kind-long h = rw (size-long t.len h)

  pub language-not : (s : Size) → size_from t.len ≡ s → language_size s ≡ false → false ≡ language_from t
  unfolding language_from
  language-not s e f = rw (e, f)

  pub language-short : t.len < 2 → false ≡ language_from t
  unfolding language_from language_size
  language-short h = go t.len h
    where
      go : (n : ℕ) → n < 2 → false ≡ (language_size (size_from n) && eqb t.letters n)
      go zero h = rw (size-empty 0 refl)
      go (suc zero) h = rw (size-one 1 refl)
      go (suc (suc n)) h = absurd (omega arith)

  pub language-four : t.len ≡ 4 → false ≡ language_from t
  unfolding language_size
  language-four e = language-not size4 (size-four t.len e) refl

  pub language-long : 8 < t.len → false ≡ language_from t
  unfolding language_size
  language-long h = language-not size_over8 (size-long t.len h) refl

  pub language-letters : 2 ≤ t.len → (t.len ≡ 4 → ⊥) → t.len ≤ 8 → eqb t.letters t.len ≡ language_from t
  unfolding language_from language_size
  language-letters h f k = go t.len refl
    where
      go : (n : ℕ) → t.len ≡ n → eqb t.letters t.len ≡ (language_size (size_from t.len) && eqb t.letters t.len)
      go zero e = absurd (omega arith)
      go (suc zero) e = absurd (omega arith)
      go (suc (suc zero)) e = rw (size-two t.len e)
      go (suc (suc (suc zero))) e = rw (size-three t.len e)
      go (suc (suc (suc (suc zero)))) e = absurd (f e)
      go (suc (suc (suc (suc (suc n))))) e = rw (size-several t.len (omega arith) k)

  pub keyword-not : (t.len ≡ 2 → ⊥) → false ≡ keyword_from t
  unfolding keyword_from
  keyword-not f = rw (ne_eqb t.len 2 f)

  pub keyword-is : (b : Bool) → t.len ≡ 2 → small t.first ≡ b → eqb t.letters (cond b 2 1) ≡ keyword_from t
  unfolding keyword_from
  keyword-is b e f = rw (eq-eqb t.len 2 e, f)

  pub field-not : (t.len ≡ 2 → ⊥) → false ≡ field_from t
  unfolding field_from
  field-not f = rw (ne_eqb t.len 2 f)

  pub field_is : (b : Bool) → t.len ≡ 2 → small t.first ≡ b → (b && eqb t.digits 1) ≡ field_from t
  unfolding field_from
  field_is b e f = rw (eq-eqb t.len 2 e, f)
