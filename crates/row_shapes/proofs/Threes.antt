-- Language, perhaps script, perhaps region: by the pieces.
-- Assumes nothing.
use mathlib.Core.Path.{◌≡◌, refl, sym, ap, ap₂, ◌∙◌}
use mathlib.Core.Bool.{Bool, true, false, cond, not, ◌&&◌}
use mathlib.Core.Logic.{◌⊎◌, inl, inr, ⊎_elim}
use mathlib.Core.List.{List, [], ◌∷◌, ◌++◌, tail-eq_of_cons-eq}
use Prim.Native.Nat.{ℕ}
use native.Mathlib.Omega.{arith}
use lib.Dec.{eqb}
use borrow.Author.Tests.{ne_eqb, not-true}
use Rattle.standard.specs.Tag.{Tag, same, All}
use Rattle.standard.specs.Grammar.{small, capital, digit, every, is_language, title, upper, Kind, a_script, a_region}
use Rattle.standard.specs.Identifier.{Three as Subtags, three}
use Rattle.standard.specs.Reading.{optional, joined}
use Rattle.standard.specs.Table.{pieces, in_canonical_case, find_in_case, three_of, parse, print_three, is_three}
use Rattle.standard.proofs.Tags.{same-eq, same_refl}
use Rattle.standard.proofs.General.{bool_cases, clash, and-true, both_ways, no}
use Rattle.standard.proofs.Table.{pieces-some}
use Rattle.row_shapes.specs.Shapes.{is_script, is_region, no_more, region_tail}
use Rattle.subtag.proofs.Bytes.{small-in, capital-in, digit-in}
use Rattle.row_shapes.proofs.Tags.{script-not-region, script-size, region-size, language-every, script-every, region-every}
use Rattle.row_shapes.proofs.Pieces.{Free, pieces-free, joined-pieces, pieces-joined}

-- the first script, and the first region
abbrev script_of : List Tag → Tag
script_of ts = find_in_case a_script title ts

abbrev region_of : List Tag → Tag
region_of ts = find_in_case a_region upper ts

-- what may follow the language
unfoldable pub tail : List Tag → Bool
tail [] = true
tail (a ∷ ts) = cond (is_script a) (region_tail ts) (region_tail (a ∷ ts))

-- an element that was found is one of the list
module _ (k : Kind) (f : Tag → Tag) where
  find-free : (b : ℕ) (ts : List Tag) → All (Free b) ts → All (Free b) (optional (find_in_case k f ts))
  unfolding find_in_case optional All
  find-free b [] h = tt
  find-free b (t ∷ ts) h = go (in_canonical_case k f t) refl t h.0 (find-free b ts h.1)
    where
      one : (u : Tag) → Free b u → All (Free b) (optional u)
      one [] h = tt
      one (x ∷ u) h = (h, tt)

      go : (c : Bool) → in_canonical_case k f t ≡ c → (u : Tag) → Free b u → All (Free b) (optional (find_in_case k f ts)) → All (Free b) (optional (elim c [ true ↦ u | false ↦ find_in_case k f ts ]))
      go true e u h n = one u h
      go false e u h n = n

  find-here : (t : Tag) (ts : List Tag) → in_canonical_case k f t ≡ true → find_in_case k f (t ∷ ts) ≡ t
  unfolding find_in_case
  find-here t ts e = rw (e, find_in_case)

  find-next : (t : Tag) (ts : List Tag) → in_canonical_case k f t ≡ false → find_in_case k f (t ∷ ts) ≡ find_in_case k f ts
  unfolding find_in_case
  find-next t ts e = rw (e, find_in_case)

  find-is : (ts : List Tag) → (find_in_case k f ts ≡ []) ⊎ (in_canonical_case k f (find_in_case k f ts) ≡ true)
  unfolding find_in_case
  find-is [] = inl refl
  find-is (t ∷ ts) =
      bool_cases (in_canonical_case k f t) (λ e. inr (ap (in_canonical_case k f) (find-here t ts e) ∙ e))
      (λ e. ⊎_elim (λ n. inl (find-next t ts e ∙ n)) (λ n. inr (ap (in_canonical_case k f) (find-next t ts e) ∙ n)) (find-is ts))

-- a script, and a region, is not empty
script-some : (t : Tag) → is_script t ≡ true → optional t ≡ t ∷ []
unfolding optional
script-some [] e = clash e (sym (script-size [] (λ q. omega arith)))
script-some (b ∷ bs) e = refl

region-some : (t : Tag) → is_region t ≡ true → optional t ≡ t ∷ []
unfolding optional
region-some [] e = clash e (sym (region-size [] (λ q. omega arith) (λ q. omega arith)))
region-some (b ∷ bs) e = refl

-- The tail of a text that is such: the two that are found are all there is.
abbrev Found : List Tag → Type 0
Found ts = ts ≡ optional (script_of ts) ++ optional (region_of ts)

all_append : (P : Tag → Type 0) (xs ys : List Tag) → All P xs → All P ys → All P (xs ++ ys)
unfolding All
all_append P [] ys h k = k
all_append P (x ∷ xs) ys h k = (h.0, all_append P xs ys h.1 k)

none_more : (ts : List Tag) → no_more ts ≡ true → ts ≡ []
unfolding no_more
none_more [] e = refl
none_more (t ∷ ts) e = no e

pub region-tail : (r : Tag) (ts : List Tag) → region_tail (r ∷ ts) ≡ true → (is_region r ≡ true) × (ts ≡ [])
unfolding region_tail
region-tail r ts e = let h = and-true (is_region r) (no_more ts) e in (h.0, none_more ts h.1)

script-alone : (a : Tag) (ts : List Tag) → is_script a ≡ true → script_of (a ∷ ts) ≡ a
unfolding is_script
script-alone a ts e = find-here a_script title a ts e

script-off : (a : Tag) (ts : List Tag) → is_script a ≡ false → script_of (a ∷ ts) ≡ script_of ts
unfolding is_script
script-off a ts e = find-next a_script title a ts e

region-alone : (a : Tag) (ts : List Tag) → is_region a ≡ true → region_of (a ∷ ts) ≡ a
unfolding is_region
region-alone a ts e = find-here a_region upper a ts e

region-off : (a : Tag) (ts : List Tag) → is_region a ≡ false → region_of (a ∷ ts) ≡ region_of ts
unfolding is_region
region-off a ts e = find-next a_region upper a ts e

script-found : (ts : List Tag) → (script_of ts ≡ []) ⊎ (is_script (script_of ts) ≡ true)
unfolding is_script
script-found ts = find-is a_script title ts

region-found : (ts : List Tag) → (region_of ts ≡ []) ⊎ (is_region (region_of ts) ≡ true)
unfolding is_region
region-found ts = find-is a_region upper ts

tail-found : (ts : List Tag) → tail ts ≡ true → Found ts
unfolding tail find_in_case optional region_tail
tail-found [] e = refl
tail-found (a ∷ ts) e = bool_cases (is_script a) (λ c. with-script ts c (rw c at e)) (λ c. without c (rw c at e))
  where
    with-script : (us : List Tag) → is_script a ≡ true → region_tail us ≡ true → Found (a ∷ us)
    with-script [] c q = rw (script-alone a [] c, region-off a [] (script-not-region a c), script-some a c)
    with-script (r ∷ us) c q =
        let h = region-tail r us q in
        rw (h.1, script-alone a (r ∷ []) c, region-off a (r ∷ []) (script-not-region a c), region-alone r [] h.0, script-some a c, region-some r h.0)

    without : is_script a ≡ false → region_tail (a ∷ ts) ≡ true → Found (a ∷ ts)
    without c q =
        let h = region-tail a ts q in
        rw (h.1, script-off a [] c, region-alone a [] h.0, region-some a h.0)

found-tail : (ts : List Tag) (s r : Tag) → (s ≡ []) ⊎ (is_script s ≡ true) → (r ≡ []) ⊎ (is_region r ≡ true) → ts ≡ optional s ++ optional r → tail ts ≡ true
unfolding tail optional region_tail no_more
found-tail ts s r (inl a) (inl b) e = rw (e, a, b)
found-tail ts s r (inl a) (inr b) e = rw (e, a, region-some r b) (bool_cases (is_script r) (λ c. rw c) (λ c. rw (c, b)))
found-tail ts s r (inr a) (inl b) e = rw (e, script-some s a, b, a)
found-tail ts s r (inr a) (inr b) e = rw (e, script-some s a, region-some r b, a, b)

-- The standard's test, by the pieces.
module _ (s : List ℕ) (L : Tag) (ts : List Tag) (q : pieces 45 s ≡ L ∷ ts) where
  pub parse-pieces : parse s ≡ three L (script_of ts) (region_of ts)
  unfolding parse three_of
  parse-pieces = rw q

  all-free : All (Free 45) (L ∷ ts)
  all-free = rw q at (pieces-free 45 s)

  joined_is : joined (L ∷ ts) ≡ s
  joined_is = sym (ap joined q) ∙ joined-pieces s

  print-is : print_three (parse s) ≡ joined (L ∷ (optional (script_of ts) ++ optional (region_of ts)))
  unfolding print_three
  print-is = rw parse-pieces

  same-tail : same (print_three (parse s)) s ≡ tail ts
  unfolding All
  same-tail = both_ways (same (print_three (parse s)) s) (tail ts)
      (λ e.
      let f : joined (L ∷ (optional (script_of ts) ++ optional (region_of ts))) ≡ s = sym print-is ∙ same-eq (print_three (parse s)) s e in
      let g = all_append (Free 45) (optional (script_of ts)) (optional (region_of ts)) (find-free a_script title 45 ts all-free.1) (find-free a_region upper 45 ts all-free.1) in
      let h : L ∷ (optional (script_of ts) ++ optional (region_of ts)) ≡ L ∷ ts = sym (pieces-joined L (optional (script_of ts) ++ optional (region_of ts)) all-free.0 g) ∙ ap (pieces 45) f ∙ q in
      found-tail ts (script_of ts) (region_of ts) (script-found ts) (region-found ts) (sym (tail-eq_of_cons-eq h)))
      (λ e. ap (λ (x : List ℕ). same x s) (print-is ∙ ap (λ (us : List Tag). joined (L ∷ us)) (sym (tail-found ts e)) ∙ joined_is) ∙ same_refl s)

  pub three-pieces : is_three s ≡ (is_language L && tail ts)
  unfolding is_three
  three-pieces = ap₂ ◌&&◌ (ap (λ (t : Subtags). is_language t.language) parse-pieces) same-tail

-- The three subtags of a text that is such.
pub record ThreeOk (t : Subtags) : Type 0 where
  pub language : is_language t.language ≡ true
  pub script : (t.script ≡ []) ⊎ (is_script t.script ≡ true)
  pub region : (t.region ≡ []) ⊎ (is_region t.region ≡ true)

pub three-ok : (s : List ℕ) → is_three s ≡ true → ThreeOk (parse s)
three-ok s e =
    let p = pieces-some 45 s in
    let q = parse-pieces s p.first p.more p.are in
    let h = and-true (is_language p.first) (tail p.more) (sym (three-pieces s p.first p.more p.are) ∙ e) in
    rw q (record { language = h.0; script = script-found p.more; region = region-found p.more })

-- a letter or digit is no separator
apart : ℕ → Bool
apart b = not (eqb b 45)

free-every : (t : Tag) → every apart t ≡ true → Free 45 t
unfolding every All apart
free-every [] e = tt
free-every (b ∷ t) e = let h = and-true (not (eqb b 45)) (every apart t) e in (not-true (eqb b 45) h.0, free-every t h.1)

small-apart : (b : ℕ) → small b ≡ true → apart b ≡ true
unfolding apart
small-apart b e = let h = small-in b e in rw (ne_eqb b 45 (λ q. omega (arith, h.low)))

capital-apart : (b : ℕ) → capital b ≡ true → apart b ≡ true
unfolding apart
capital-apart b e = let h = capital-in b e in rw (ne_eqb b 45 (λ q. omega (arith, h.low)))

digit-apart : (b : ℕ) → digit b ≡ true → apart b ≡ true
unfolding apart
digit-apart b e = let h = digit-in b e in rw (ne_eqb b 45 (λ q. omega (arith, h.low)))

optional-free : (t : Tag) → Free 45 t → All (Free 45) (optional t)
unfolding optional All
optional-free [] h = tt
optional-free (b ∷ t) h = (h, tt)

script-free : (t : Tag) → (t ≡ []) ⊎ (is_script t ≡ true) → Free 45 t
unfolding All
script-free t (inl e) = rw e tt
script-free t (inr e) = free-every t (script-every apart small-apart capital-apart digit-apart t e)

region-free : (t : Tag) → (t ≡ []) ⊎ (is_region t ≡ true) → Free 45 t
unfolding All
region-free t (inl e) = rw e tt
region-free t (inr e) = free-every t (region-every apart small-apart capital-apart digit-apart t e)

pub language-free : (t : Tag) → is_language t ≡ true → Free 45 t
language-free t e = free-every t (language-every apart small-apart capital-apart digit-apart t e)

-- the two are found again
module _ (S R : Tag) where
  found-script : (S ≡ []) ⊎ (is_script S ≡ true) → (R ≡ []) ⊎ (is_region R ≡ true) → script_of (optional S ++ optional R) ≡ S
  unfolding optional find_in_case
  found-script (inl a) (inl b) = rw (a, b)
  found-script (inl a) (inr b) =
      rw (a, region-some R b) (script-off R [] (bool_cases (is_script R) (λ c. clash b (script-not-region R c)) (λ c. c)))
  found-script (inr a) b = ap (λ (ts : List Tag). script_of (ts ++ optional R)) (script-some S a) ∙ script-alone S (optional R) a

  found-region : (S ≡ []) ⊎ (is_script S ≡ true) → (R ≡ []) ⊎ (is_region R ≡ true) → region_of (optional S ++ optional R) ≡ R
  unfolding optional find_in_case
  found-region (inl a) (inl b) = rw (a, b)
  found-region (inl a) (inr b) = rw a (ap region_of (region-some R b) ∙ region-alone R [] b)
  found-region (inr a) (inl b) = rw b (ap (λ (ts : List Tag). region_of (ts ++ [])) (script-some S a) ∙ region-off S [] (script-not-region S a))
  found-region (inr a) (inr b) =
      ap₂ (λ (ts us : List Tag). region_of (ts ++ us)) (script-some S a) (region-some R b) ∙ region-off S (R ∷ []) (script-not-region S a) ∙ region-alone R [] b

-- such subtags, printed and parsed again
module _ (t : Subtags) (o : ThreeOk t) where
  abbrev tags : List Tag
  tags = optional t.script ++ optional t.region

  printed : pieces 45 (print_three t) ≡ t.language ∷ tags
  unfolding print_three
  printed =
      pieces-joined t.language tags (language-free t.language o.language)
      (all_append (Free 45) (optional t.script) (optional t.region) (optional-free t.script (script-free t.script o.script)) (optional-free t.region (region-free t.region o.region)))

  pub print-is-three : is_three (print_three t) ≡ true
  print-is-three = three-pieces (print_three t) t.language tags printed ∙ rw (o.language, found-tail tags t.script t.region o.script o.region refl)

  pub parse-print : parse (print_three t) ≡ t
  parse-print =
      parse-pieces (print_three t) t.language tags printed
      ∙ ap₂ (three t.language) (found-script t.script t.region o.script o.region) (found-region t.script t.region o.script o.region)
