-- Subtags in canonical case, by their bytes.
-- Assumes nothing.
use mathlib.Core.Path.{◌≡◌, refl, sym, ap, ap₂, ◌∙◌}
use mathlib.Core.Bool.{Bool, true, false, cond, ◌&&◌, ◌||◌}
use mathlib.Core.List.{List, [], ◌∷◌, map, head-eq_of_cons-eq, tail-eq_of_cons-eq}
use mathlib.Core.Logic.{◌⊎◌, inl, inr, ⊎_elim}
use Rattle.standard.proofs.General.{le-or-lt, bool_cases, clash, and-true, both_ways, no}
use Rattle.subtag.specs.Kinds.{size_from}
use Prim.Native.Nat.{ℕ, zero, suc, ◌+◌, ◌-◌, ◌≤◌, ◌<◌}
use native.Mathlib.Omega.{arith}
use lib.Dec.{ltb, eqb}
use borrow.Author.Tests.{ltb-true, ltb-false, eqb-true, eq-eqb}
use lib.ListN.{length, get_or, drop, length-map}
use Rattle.std.specs.List.{list_all}
use Rattle.standard.specs.Tag.{Tag, same}
use Rattle.standard.specs.Grammar.{small, capital, digit, lower_byte, upper_byte, every, title, upper, Size, size0, size1, size2, size3, size4, size5to8, size_over8, size_of, starts_with_digit, is_language, language_size, Kind, a_script, a_region, a_variant, a_none, kind, kind_of}
use Rattle.standard.specs.Reading.{of_kind}
use Rattle.standard.specs.Table.{lower, in_canonical_case, is_word, is_variant_tag}
use Rattle.standard.proofs.Tags.{same-eq, same_refl}
use Rattle.standard.proofs.Shapes.{kind-script, kind-region}
use Rattle.standard.proofs.Sound.{of_kind-eq}
use Rattle.subtag.proofs.Bytes.{capital-in, small-in, digit-in, inside, under, over}
use Rattle.subtag.specs.Subtags.{subtag_of, first_byte}
use Rattle.subtag.proofs.Shapes as shapes
use Rattle.subtag.proofs.Shapes.{language-from, kind-from, digit-first, every-count, size-from, size-empty, size-one, size-two, size-three, size-four, size-several, size-long}
use Rattle.row_shapes.specs.Shapes.{is_script, is_region}

-- the test of all bytes, as std has it
pub every-all : (p : ℕ → Bool) (s : List ℕ) → list_all p s ≡ every p s
unfolding every
every-all p [] = refl
every-all p (b ∷ s) = ap (λ (x : Bool). p b && x) (every-all p s)

-- Bytes in lower case, and back.
module _ (b : ℕ) where
  lowered : (c : Bool) → capital b ≡ c → lower_byte b ≡ cond c (b + 32) b
  unfolding lower_byte
  lowered c e = rw e

  capital-small : capital b ≡ true → small (lower_byte b) ≡ true
  unfolding small
  capital-small e = let h = capital-in b e in ap small (lowered true e) ∙ inside 97 122 (b + 32) (omega (arith, h.low)) (omega (arith, h.high))

  capital-back : capital b ≡ true → upper_byte (lower_byte b) ≡ b
  unfolding upper_byte
  capital-back e = rw (capital-small e, lowered true e) (omega arith)

  pub not-capital : small b ≡ true → capital b ≡ false
  unfolding capital
  not-capital e = let h = small-in b e in over 65 90 b (omega (arith, h.low)) (omega (arith, h.low))

  small-lower : small b ≡ true → lower_byte b ≡ b
  small-lower e = lowered false (not-capital e)

  pub digit_low : digit b ≡ true → capital b ≡ false
  unfolding capital
  digit_low e = let h = digit-in b e in under 65 90 b (omega (arith, h.high))

  digit-lower : digit b ≡ true → lower_byte b ≡ b
  digit-lower e = lowered false (digit_low e)

  digit-upper : digit b ≡ true → upper_byte b ≡ b
  unfolding upper_byte small
  digit-upper e = let h = digit-in b e in rw (under 97 122 b (omega (arith, h.high)))

  -- a small letter that upper case gives back was a capital
  back-capital : small (lower_byte b) ≡ true → upper_byte (lower_byte b) ≡ b → capital b ≡ true
  unfolding upper_byte
  back-capital e f = bool_cases (capital b) (λ c. c) (λ c.
      let l = lowered false c in
      let s : small b ≡ true = sym (ap small l) ∙ e in
      let h = small-in b s in
      let g : b - 32 ≡ b = rw (l, s) at f in
      absurd (omega (arith, h.low)))

  lower-digit : digit (lower_byte b) ≡ true → digit b ≡ true
  lower-digit e = bool_cases (capital b) (λ c. absurd (not-both (capital-small c) e)) (λ c. sym (ap digit (lowered false c)) ∙ e)
    where
      not-both : small (lower_byte b) ≡ true → digit (lower_byte b) ≡ true → ⊥
      not-both p q = let h = small-in (lower_byte b) p in let k = digit-in (lower_byte b) q in omega (arith, h.low, k.high)

-- Runs of bytes.
pub every-both : (p : ℕ → Bool) (b : ℕ) (t : Tag) → every p (b ∷ t) ≡ true → (p b ≡ true) × (every p t ≡ true)
unfolding every
every-both p b t e = and-true (p b) (every p t) e

every-cons : (p : ℕ → Bool) (b : ℕ) (t : Tag) → p b ≡ true → every p t ≡ true → every p (b ∷ t) ≡ true
unfolding every
every-cons p b t e f = rw (e, f)

capitals : (t : Tag) → every small (lower t) ≡ true → upper (lower t) ≡ t → every capital t ≡ true
unfolding lower upper every
capitals [] e f = refl
capitals (b ∷ t) e f =
    let h = every-both small (lower_byte b) (map lower_byte t) e in
    every-cons capital b t (back-capital b h.0 (head-eq_of_cons-eq f)) (capitals t h.1 (tail-eq_of_cons-eq f))

capitals-back : (t : Tag) → every capital t ≡ true → (every small (lower t) ≡ true) × (upper (lower t) ≡ t)
unfolding lower upper every
capitals-back [] e = (refl, refl)
capitals-back (b ∷ t) e =
    let h = every-both capital b t e in
    let i = capitals-back t h.1 in
    (every-cons small (lower_byte b) (map lower_byte t) (capital-small b h.0) i.0, ap₂ ◌∷◌ (capital-back b h.0) i.1)

smalls-lower : (t : Tag) → every small t ≡ true → lower t ≡ t
unfolding lower every
smalls-lower [] e = refl
smalls-lower (b ∷ t) e = let h = every-both small b t e in ap₂ ◌∷◌ (small-lower b h.0) (smalls-lower t h.1)

digits : (t : Tag) → every digit (lower t) ≡ true → every digit t ≡ true
unfolding lower every
digits [] e = refl
digits (b ∷ t) e = let h = every-both digit (lower_byte b) (map lower_byte t) e in every-cons digit b t (lower-digit b h.0) (digits t h.1)

digits-lower : (t : Tag) → every digit t ≡ true → lower t ≡ t
unfolding lower every
digits-lower [] e = refl
digits-lower (b ∷ t) e = let h = every-both digit b t e in ap₂ ◌∷◌ (digit-lower b h.0) (digits-lower t h.1)

digits-upper : (t : Tag) → every digit t ≡ true → upper t ≡ t
unfolding upper every
digits-upper [] e = refl
digits-upper (b ∷ t) e = let h = every-both digit b t e in ap₂ ◌∷◌ (digit-upper b h.0) (digits-upper t h.1)

digit-not-small : (b : ℕ) → digit b ≡ true → small b ≡ false
digit-not-small b e = bool_cases (small b) (λ f. let h = small-in b f in let k = digit-in b e in absurd (omega (arith, h.low, k.high))) (λ f. f)

-- Languages.
module _ (t : Tag) where
  pub language-short : length t < 2 → false ≡ is_language t
  unfolding subtag_of
  language-short h = shapes.language-short (subtag_of t) h ∙ language-from t

  pub language-four : length t ≡ 4 → false ≡ is_language t
  unfolding subtag_of
  language-four e = shapes.language-four (subtag_of t) e ∙ language-from t

  pub language-long : 8 < length t → false ≡ is_language t
  unfolding subtag_of
  language-long h = shapes.language-long (subtag_of t) h ∙ language-from t

  pub language-letters : 2 ≤ length t → (length t ≡ 4 → ⊥) → length t ≤ 8 → every small t ≡ is_language t
  unfolding subtag_of
  language-letters h f k = every-count small t ∙ shapes.language-letters (subtag_of t) h f k ∙ language-from t

  pub language-other : (2 ≤ length t → (length t ≡ 4 → ⊥) → length t ≤ 8 → ⊥) → false ≡ is_language t
  language-other f =
      bool_cases (ltb (length t) 2) (λ a. language-short (ltb-true _ _ a))
      (λ a. bool_cases (eqb (length t) 4) (λ b. language-four (eqb-true _ _ b))
      (λ b. bool_cases (ltb 8 (length t)) (λ d. language-long (ltb-true _ _ d)) (λ d. absurd (f (ltb-false _ _ a) (λ q. clash (eq-eqb _ _ q) b) (ltb-false _ _ d)))))

-- Scripts and regions: what a kind says of the size.
abbrev code : Size → ℕ
code size0 = 0
code size1 = 1
code size2 = 2
code size3 = 3
code size4 = 4
code size5to8 = 5
code size_over8 = 9

size-code : (n : ℕ) → (n ≡ code (size_from n)) ⊎ ((5 ≤ n) × (5 ≤ code (size_from n)))
size-code zero = inl (sym (ap code (size-empty 0 refl)))
size-code (suc zero) = inl (sym (ap code (size-one 1 refl)))
size-code (suc (suc zero)) = inl (sym (ap code (size-two 2 refl)))
size-code (suc (suc (suc zero))) = inl (sym (ap code (size-three 3 refl)))
size-code (suc (suc (suc (suc zero)))) = inl (sym (ap code (size-four 4 refl)))
size-code (suc (suc (suc (suc (suc n))))) =
    inr (omega arith, ⊎_elim (λ h. rw (size-several (suc (suc (suc (suc (suc n))))) (omega arith) h) (omega arith)) (λ h. rw (size-long (suc (suc (suc (suc (suc n))))) h) (omega arith)) (le-or-lt (suc (suc (suc (suc (suc n))))) 8))

lower-length : (t : Tag) → length (lower t) ≡ length t
unfolding lower
lower-length t = length-map t lower_byte

-- a size below 5 gives the length
size-length : (t : Tag) (s : Size) → size_of (lower t) ≡ s → code s < 5 → length t ≡ code s
size-length t s e h =
    let f : code (size_from (length t)) ≡ code s = ap (λ (n : ℕ). code (size_from n)) (sym (lower-length t)) ∙ ap code (sym (size-from (lower t)) ∙ e) in
    ⊎_elim (λ g. g ∙ f) (λ g. absurd (omega (arith, g.1))) (size-code (length t))

-- the same of the tests of a kind
module _ (s : Size) (l d n : Bool) where
  of-script : of_kind a_script (kind s l d n) ≡ true → (s ≡ size4) × (l ≡ true)
  of-script e = kind-script s l d n (of_kind-eq a_script (kind s l d n) e)

  of-region : of_kind a_region (kind s l d n) ≡ true → ((s ≡ size2) × (l ≡ true)) ⊎ ((s ≡ size3) × (d ≡ true))
  of-region e = kind-region s l d n (of_kind-eq a_region (kind s l d n) e)

-- a script is not a region
pub script-not-region : (t : Tag) → is_script t ≡ true → is_region t ≡ false
unfolding is_script is_region in_canonical_case of_kind
script-not-region t e = go (kind_of (lower t)) (and-true (of_kind a_script (kind_of (lower t))) (same (title (lower t)) t) e).0
  where
    go : (k : Kind) → of_kind a_script k ≡ true → (of_kind a_region k && same (upper (lower t)) t) ≡ false
    go a_script f = refl
    go a_region f = no f
    go a_variant f = refl
    go a_none f = refl

module _ (t : Tag) where
  script-four : is_script t ≡ true → length t ≡ 4
  unfolding is_script in_canonical_case kind_of
  script-four e =
      let k = of-script (size_of (lower t)) (every small (lower t)) (every digit (lower t)) (starts_with_digit (lower t)) (and-true (of_kind a_script (kind_of (lower t))) (same (title (lower t)) t) e).0 in
      size-length t size4 k.0 (omega arith)

  pub script-size : (length t ≡ 4 → ⊥) → false ≡ is_script t
  script-size f = bool_cases (is_script t) (λ e. absurd (f (script-four e))) sym

  region-length : is_region t ≡ true → (length t ≡ 2) ⊎ (length t ≡ 3)
  unfolding is_region in_canonical_case kind_of
  region-length e =
      let k = of-region (size_of (lower t)) (every small (lower t)) (every digit (lower t)) (starts_with_digit (lower t)) (and-true (of_kind a_region (kind_of (lower t))) (same (upper (lower t)) t) e).0 in
      ⊎_elim (λ h. inl (size-length t size2 h.0 (omega arith))) (λ h. inr (size-length t size3 h.0 (omega arith))) k

  pub region-size : (length t ≡ 2 → ⊥) → (length t ≡ 3 → ⊥) → false ≡ is_region t
  region-size f g = bool_cases (is_region t) (λ e. absurd (⊎_elim f g (region-length e))) sym

-- the bytes of a script
four-letters : (d n : Bool) → (of_kind a_script (kind size4 true d n) && true) ≡ true
unfolding kind of_kind
four-letters d n = refl

script-bytes : (a b c d : ℕ) → is_script (a ∷ b ∷ c ∷ d ∷ []) ≡ (capital a && every small (b ∷ c ∷ d ∷ []))
unfolding is_script in_canonical_case kind_of size_of lower title
script-bytes a b c d = both_ways _ _ there back
  where
    there : (of_kind a_script (kind size4 (every small (lower (a ∷ b ∷ c ∷ d ∷ []))) (every digit (lower (a ∷ b ∷ c ∷ d ∷ []))) (starts_with_digit (lower (a ∷ b ∷ c ∷ d ∷ [])))) && same (title (lower (a ∷ b ∷ c ∷ d ∷ []))) (a ∷ b ∷ c ∷ d ∷ [])) ≡ true
        → (capital a && every small (b ∷ c ∷ d ∷ [])) ≡ true
    there e =
        let h = and-true _ _ e in
        let k = (of-script size4 (every small (lower (a ∷ b ∷ c ∷ d ∷ []))) (every digit (lower (a ∷ b ∷ c ∷ d ∷ []))) (starts_with_digit (lower (a ∷ b ∷ c ∷ d ∷ []))) h.0).1 in
        let q = same-eq (title (lower (a ∷ b ∷ c ∷ d ∷ []))) (a ∷ b ∷ c ∷ d ∷ []) h.1 in
        let m = every-both small (lower_byte a) (lower (b ∷ c ∷ d ∷ [])) k in
        let r : lower (b ∷ c ∷ d ∷ []) ≡ b ∷ c ∷ d ∷ [] = tail-eq_of_cons-eq q in
        let u : every small (b ∷ c ∷ d ∷ []) ≡ true = sym (ap (every small) r) ∙ m.1 in
        rw (back-capital a m.0 (head-eq_of_cons-eq q), u)

    passes : every small (lower (a ∷ b ∷ c ∷ d ∷ [])) ≡ true → same (title (lower (a ∷ b ∷ c ∷ d ∷ []))) (a ∷ b ∷ c ∷ d ∷ []) ≡ true
        → (of_kind a_script (kind size4 (every small (lower (a ∷ b ∷ c ∷ d ∷ []))) (every digit (lower (a ∷ b ∷ c ∷ d ∷ []))) (starts_with_digit (lower (a ∷ b ∷ c ∷ d ∷ [])))) && same (title (lower (a ∷ b ∷ c ∷ d ∷ []))) (a ∷ b ∷ c ∷ d ∷ [])) ≡ true
    passes l q = rw (q, l) (four-letters (every digit (lower (a ∷ b ∷ c ∷ d ∷ []))) (starts_with_digit (lower (a ∷ b ∷ c ∷ d ∷ []))))

    back : (capital a && every small (b ∷ c ∷ d ∷ [])) ≡ true
        → (of_kind a_script (kind size4 (every small (lower (a ∷ b ∷ c ∷ d ∷ []))) (every digit (lower (a ∷ b ∷ c ∷ d ∷ []))) (starts_with_digit (lower (a ∷ b ∷ c ∷ d ∷ [])))) && same (title (lower (a ∷ b ∷ c ∷ d ∷ []))) (a ∷ b ∷ c ∷ d ∷ [])) ≡ true
    back e =
        let h = and-true (capital a) (every small (b ∷ c ∷ d ∷ [])) e in
        let r = smalls-lower (b ∷ c ∷ d ∷ []) h.1 in
        let l : every small (lower (a ∷ b ∷ c ∷ d ∷ [])) ≡ true = every-cons small (lower_byte a) (lower (b ∷ c ∷ d ∷ [])) (capital-small a h.0) (ap (every small) r ∙ h.1) in
        let q : title (lower (a ∷ b ∷ c ∷ d ∷ [])) ≡ a ∷ b ∷ c ∷ d ∷ [] = ap₂ ◌∷◌ (capital-back a h.0) r in
        passes l (ap (λ (x : Tag). same x (a ∷ b ∷ c ∷ d ∷ [])) q ∙ same_refl (a ∷ b ∷ c ∷ d ∷ []))

pub script-is : (t : Tag) → length t ≡ 4 → (capital (get_or t 0 0) && every small (drop 1 t)) ≡ is_script t
script-is [] e = absurd (omega arith)
script-is (a ∷ []) e = absurd (omega arith)
script-is (a ∷ b ∷ []) e = absurd (omega arith)
script-is (a ∷ b ∷ c ∷ []) e = absurd (omega arith)
script-is (a ∷ b ∷ c ∷ d ∷ []) e = sym (script-bytes a b c d)
script-is (a ∷ b ∷ c ∷ d ∷ f ∷ t) e = absurd (omega arith)

-- the bytes of a region
module _ (t : Tag) where
  lower-size : (s : Size) → size_from (length t) ≡ s → size_of (lower t) ≡ s
  lower-size s e = size-from (lower t) ∙ ap size_from (lower-length t) ∙ e

  region-on : (k : Kind) → kind_of (lower t) ≡ k → of_kind a_region k ≡ true → upper (lower t) ≡ t → is_region t ≡ true
  unfolding is_region in_canonical_case
  region-on k e f q = rw (e, f, q, same_refl t)

  region-off : is_region t ≡ true → (((size_of (lower t) ≡ size2) × (every small (lower t) ≡ true)) ⊎ ((size_of (lower t) ≡ size3) × (every digit (lower t) ≡ true))) × (upper (lower t) ≡ t)
  unfolding is_region in_canonical_case kind_of
  region-off e =
      let h = and-true (of_kind a_region (kind_of (lower t))) (same (upper (lower t)) t) e in
      (of-region (size_of (lower t)) (every small (lower t)) (every digit (lower t)) (starts_with_digit (lower t)) h.0, same-eq (upper (lower t)) t h.1)

  kind-two : length t ≡ 2 → every small (lower t) ≡ true → kind_of (lower t) ≡ a_region
  unfolding kind_of kind
  kind-two e f = rw (lower-size size2 (size-two (length t) e), f)

  kind-three : length t ≡ 3 → every digit (lower t) ≡ true → kind_of (lower t) ≡ a_region
  unfolding kind_of kind
  kind-three e f = rw (lower-size size3 (size-three (length t) e), f)

  pub region-two : length t ≡ 2 → every capital t ≡ is_region t
  unfolding of_kind
  region-two e = both_ways (every capital t) (is_region t)
      (λ f. let h = capitals-back t f in region-on a_region (kind-two e h.0) refl h.1)
      (λ f. let h = region-off f in ⊎_elim (λ g. capitals t g.1 h.1) (λ g. let z = size-length t size3 g.0 (omega arith) in absurd (omega arith)) h.0)

  pub region-three : length t ≡ 3 → every digit t ≡ is_region t
  unfolding of_kind
  region-three e = both_ways (every digit t) (is_region t)
      (λ f. let l = digits-lower t f in region-on a_region (kind-three e (ap (every digit) l ∙ f)) refl (ap upper l ∙ digits-upper t f))
      (λ f. let h = region-off f in ⊎_elim (λ g. let z = size-length t size2 g.0 (omega arith) in absurd (omega arith)) (λ g. digits t g.1) h.0)

  -- Variants.
  variant-by : (k : Kind) → kind_of t ≡ k → of_kind a_variant k ≡ false → false ≡ is_variant_tag t
  unfolding is_variant_tag
  variant-by k e f = rw (e, f)

  variant-on : kind_of t ≡ a_variant → every (λ (b : ℕ). small b || digit b) t ≡ is_variant_tag t
  unfolding is_variant_tag of_kind is_word
  variant-on e = rw e

  pub variant-several : 5 ≤ length t → length t ≤ 8 → every (λ (b : ℕ). small b || digit b) t ≡ is_variant_tag t
  unfolding subtag_of
  variant-several h k = variant-on (sym (kind-from t) ∙ sym (shapes.kind-several (subtag_of t) h k))

  pub variant-long : 8 < length t → false ≡ is_variant_tag t
  unfolding subtag_of of_kind
  variant-long h = variant-by a_none (sym (kind-from t) ∙ sym (shapes.kind-long (subtag_of t) h)) refl

  kind-short : length t < 4 → of_kind a_variant (kind_of t) ≡ false
  unfolding kind_of of_kind kind
  kind-short h = ⊎_elim (λ g. go (size_of t) (every small t) (every digit t) (starts_with_digit t) (omega (arith, g ∙ ap code (sym (size-from t))))) (λ g. absurd (omega (arith, g.0))) (size-code (length t))
    where
      go : (s : Size) (l d n : Bool) → code s < 4 → of_kind a_variant (kind s l d n) ≡ false
      go size0 l d n h = refl
      go size1 l d n h = refl
      go size2 true d n h = refl
      go size2 false d n h = refl
      go size3 l true n h = refl
      go size3 l false n h = refl
      go size4 l d n h = absurd (omega arith)
      go size5to8 l d n h = absurd (omega arith)
      go size_over8 l d n h = absurd (omega arith)

  pub variant-short : length t < 4 → false ≡ is_variant_tag t
  variant-short h = variant-by (kind_of t) refl (kind-short h)

  pub variant-other : (4 ≤ length t → length t ≤ 8 → ⊥) → false ≡ is_variant_tag t
  variant-other f =
      bool_cases (ltb (length t) 4) (λ a. variant-short (ltb-true _ _ a))
      (λ a. bool_cases (ltb 8 (length t)) (λ d. variant-long (ltb-true _ _ d)) (λ d. absurd (f (ltb-false _ _ a) (ltb-false _ _ d))))

  first_byte_lem : 0 < length t → first_byte t ≡ get_or t 0 0
  unfolding first_byte
  first_byte_lem h = go t h
    where
      go : (u : Tag) → 0 < length u → first_byte u ≡ get_or u 0 0
      go [] h = absurd (omega arith)
      go (b ∷ bs) h = refl

  first-letter : small (get_or t 0 0) ≡ false → 0 < length t → every small t ≡ false
  unfolding every
  first-letter e h = go t e h
    where
      go : (u : Tag) → small (get_or u 0 0) ≡ false → 0 < length u → every small u ≡ false
      go [] e h = absurd (omega arith)
      go (b ∷ bs) e h = rw e

  pub variant-letter : length t ≡ 4 → digit (get_or t 0 0) ≡ false → false ≡ is_variant_tag t
  unfolding kind_of kind of_kind starts_with_digit first_byte
  variant-letter e f = variant-by (kind_of t) refl (go (every small t) (every digit t))
    where
      start : starts_with_digit t ≡ false
      start = digit-first t ∙ ap digit (first_byte_lem (omega arith)) ∙ f

      fours : (l d : Bool) → of_kind a_variant (kind size4 l d false) ≡ false
      fours true d = refl
      fours false d = refl

      go : (l d : Bool) → of_kind a_variant (kind_of t) ≡ false
      go l d = rw (size-from t, size-four (length t) e, start) (fours (every small t) (every digit t))

  pub variant-digit : length t ≡ 4 → digit (get_or t 0 0) ≡ true → every (λ (b : ℕ). small b || digit b) t ≡ is_variant_tag t
  unfolding kind_of kind
  variant-digit e f =
      let s : starts_with_digit t ≡ true = digit-first t ∙ ap digit (first_byte_lem (omega arith)) ∙ f in
      let l : every small t ≡ false = first-letter (digit-not-small (get_or t 0 0) f) (omega arith) in
      variant-on (rw (size-from t, size-four (length t) e, s, l))

-- What holds of letters and digits holds of the bytes of a subtag.
every-weaker : (p q : ℕ → Bool) → ((b : ℕ) → p b ≡ true → q b ≡ true) → (t : Tag) → every p t ≡ true → every q t ≡ true
unfolding every
every-weaker p q f [] e = refl
every-weaker p q f (b ∷ t) e = let h = and-true (p b) (every p t) e in rw (f b h.0, every-weaker p q f t h.1)

pub script-length : (t : Tag) → is_script t ≡ true → length t ≡ 4
script-length t e = script-four t e

pub region-sizes : (t : Tag) → is_region t ≡ true → (length t ≡ 2) ⊎ (length t ≡ 3)
region-sizes t e = region-length t e

module _ (q : ℕ → Bool) (s : (b : ℕ) → small b ≡ true → q b ≡ true) (c : (b : ℕ) → capital b ≡ true → q b ≡ true) (d : (b : ℕ) → digit b ≡ true → q b ≡ true) where
  pub language-every : (t : Tag) → is_language t ≡ true → every q t ≡ true
  unfolding is_language
  language-every t e = every-weaker small q s t (and-true (language_size (size_of t)) (every small t) e).1

  pub script-every : (t : Tag) → is_script t ≡ true → every q t ≡ true
  unfolding every
  script-every [] e = refl
  script-every (b ∷ t) e =
      let h = and-true (capital b) (every small t) (script-is (b ∷ t) (script-four (b ∷ t) e) ∙ e) in
      rw (c b h.0, every-weaker small q s t h.1)

  pub region-every : (t : Tag) → is_region t ≡ true → every q t ≡ true
  region-every t e =
      ⊎_elim (λ n. every-weaker capital q c t (region-two t n ∙ e)) (λ n. every-weaker digit q d t (region-three t n ∙ e)) (region-length t e)

  word_byte : (b : ℕ) → (small b || digit b) ≡ true → q b ≡ true
  word_byte b e = bool_cases (small b) (s b) (λ f. d b (rw f at e))

  pub variant-every : (t : Tag) → is_variant_tag t ≡ true → every q t ≡ true
  unfolding is_variant_tag is_word
  variant-every t e = every-weaker (λ (b : ℕ). small b || digit b) q word_byte t (and-true (of_kind a_variant (kind_of t)) (is_word t) e).1
