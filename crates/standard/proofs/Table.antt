-- Tables that pass the check have the laws that the theorems ask for.
-- Assumes nothing.
use mathlib.Core.Path.{◌≡◌, refl, sym, ap, ◌∙◌, subst}
use mathlib.Core.Bool.{Bool, true, false, not, ◌&&◌, ◌||◌, or-false}
use mathlib.Core.Logic.{inr}
use mathlib.Core.List.{List, [], ◌∷◌, ◌++◌, cons≢nil, append_assoc, head-eq_of_cons-eq, tail-eq_of_cons-eq}
use mathlib.Core.Option.{Option, none, some, none-ne-some, some-ne-none}
use Prim.Native.Nat.{ℕ, suc, ◌+◌}
use lib.Dec.{eqb, eqb→eq, eqb_refl}
use lib.ListN.{length}
use Rattle.standard.specs.Tag.{Tag, order, same, present, replace, onto, All, text}
use Rattle.standard.specs.Grammar.{title, upper, Kind, a_script, a_region, a_variant, kind_of, is_language, language_size, size_of}
use Rattle.standard.specs.Identifier.{Three, und, Tables, without_unknown, complete, same_three, Kept, Lawful}
use Rattle.standard.specs.Reading.{optional, joined, of_kind}
use Rattle.standard.specs.Chain.{line, parent_of, parent, is_und_alone, reaches, LawfulParents}
use Rattle.standard.specs.Table.{pieces, after, lookup, rows, lower, in_canonical_case, find_in_case, three_of, parse, print_three, is_three, language_key, script_key, region_key, variant_key, parsed, tables_of, is_word, language_is_und, is_variant_tag, alias_shape, likely_shape, parent_shape, is_none, unaliased, alias_free, likely_free, parent_free, row_key, above, rows_fault, clash_fault, shape_of, free_of, in_use, shape_fault, free_fault, check, to_check, Pass}
use Rattle.standard.proofs.Tags.{same-eq}
use Rattle.standard.proofs.Checks.{in_table-none, Clear, AllClear, tested-none}
use Rattle.standard.proofs.Core.{same_three-eq}
use Rattle.standard.proofs.General.{bool_cases, and-true, true→T, T→true, no}
use Rattle.standard.proofs.Bytes.{word}
use Rattle.standard.proofs.Faults.{Maybe}
use Rattle.standard.proofs.Round.{Shown, Shaped}
use Rattle.standard.proofs.Sound.{of_kind-eq, shown-none}
use Rattle.standard.proofs.Closed.{ShapedTables}

-- Pieces.
pub record Some (s : ℕ) (x : List ℕ) : Type 0 where
  pub first : Tag
  pub more : List Tag
  pub are : pieces s x ≡ first ∷ more

pub pieces-some : (s : ℕ) (x : List ℕ) → Some s x
unfolding pieces onto
pieces-some s [] = record { first = []; more = []; are = refl }
pieces-some s (b ∷ bs) = go (eqb b s) refl (pieces-some s bs)
  where
    go : (t : Bool) → eqb b s ≡ t → Some s bs → Some s (b ∷ bs)
    go true e p = record { first = []; more = pieces s bs; are = rw (e, pieces) }
    go false e p = record { first = b ∷ p.first; more = p.more; are = rw (e, pieces) (rw p.are) }

pub pieces-append : (s : ℕ) (k v : List ℕ) → pieces s (k ++ (s ∷ v)) ≡ pieces s k ++ pieces s v
unfolding pieces onto
pieces-append s [] v = rw (T→true (eqb s s) (eqb_refl s), pieces)
pieces-append s (b ∷ bs) v = go (eqb b s) refl (pieces-some s bs) (pieces-append s bs v)
  where
    go : (t : Bool) → eqb b s ≡ t → Some s bs → pieces s (bs ++ (s ∷ v)) ≡ pieces s bs ++ pieces s v → pieces s ((b ∷ bs) ++ (s ∷ v)) ≡ pieces s (b ∷ bs) ++ pieces s v
    go true e p q = rw (e, pieces) (ap (◌∷◌ []) q)
    go false e p q = rw (e, pieces) (rw q (rw p.are))

-- a single piece is all there is
pieces-single : (s : ℕ) (x : List ℕ) (t : Tag) → pieces s x ≡ t ∷ [] → x ≡ t
unfolding pieces onto
pieces-single s [] t e = head-eq_of_cons-eq e
pieces-single s (b ∷ bs) t e = go (eqb b s) refl (pieces-some s bs) (pieces-single s bs)
  where
    go : (c : Bool) → eqb b s ≡ c → Some s bs → ((u : Tag) → pieces s bs ≡ u ∷ [] → bs ≡ u) → b ∷ bs ≡ t
    go true f p next = absurd (cons≢nil (sym p.are ∙ tail-eq_of_cons-eq (rw (f, pieces) at e)))
    go false f p next =
        let q : (b ∷ p.first) ∷ p.more ≡ t ∷ [] = ap (onto b) (sym p.are) ∙ (rw (f, pieces) at e) in
        ap (◌∷◌ b) (next p.first (p.are ∙ ap (◌∷◌ p.first) (tail-eq_of_cons-eq q))) ∙ head-eq_of_cons-eq q

append-nonempty : (xs : List Tag) (y : Tag) (ys : List Tag) → xs ++ (y ∷ ys) ≡ [] → ⊥
append-nonempty [] y ys e = cons≢nil e
append-nonempty (x ∷ xs) y ys e = cons≢nil e

-- two fields
two_fields : (s : ℕ) (k v : List ℕ) (b c : Tag) → pieces s k ++ pieces s v ≡ b ∷ c ∷ [] → (k ≡ b) × (v ≡ c)
two_fields s k v b c e = go (pieces-some s k) (pieces-some s v)
  where
    fit : (p : Some s k) (q : Some s v) → (m : List Tag) → p.more ≡ m → (p.first ≡ b) × (m ++ (q.first ∷ q.more) ≡ c ∷ []) → (k ≡ b) × (v ≡ c)
    fit p q [] f h = (
      pieces-single s k b (p.are ∙ (ap (λ (x : Tag). x ∷ p.more) h.0 ∙ ap (◌∷◌ b) f)),
      pieces-single s v c (q.are ∙ h.1),
    )
    fit p q (m ∷ ms) f h = absurd (append-nonempty ms q.first q.more (tail-eq_of_cons-eq h.1))

    go : Some s k → Some s v → (k ≡ b) × (v ≡ c)
    go p q =
        let r : p.first ∷ (p.more ++ (q.first ∷ q.more)) ≡ b ∷ c ∷ [] = sym (ap (λ (x : List Tag). x ++ (q.first ∷ q.more)) p.are) ∙ (sym (ap (λ (x : List Tag). pieces s k ++ x) q.are) ∙ e) in
        fit p q p.more refl (head-eq_of_cons-eq r, tail-eq_of_cons-eq r)

-- Lookup.
pub after-eq : (p x v : List ℕ) → after p x ≡ some v → x ≡ p ++ v
unfolding after
after-eq [] x v e = cc
after-eq (p ∷ ps) [] v e = absurd (none-ne-some v e)
after-eq (p ∷ ps) (x ∷ xs) v e = go (eqb p x) refl (after-eq ps xs v)
  where
    go : (b : Bool) → eqb p x ≡ b → (after ps xs ≡ some v → xs ≡ ps ++ v) → x ∷ xs ≡ (p ∷ ps) ++ v
    go true f next = let q : p ≡ x = eqb→eq p x (true→T (eqb p x) f) in rw (q, next (rw (f, after) at e))
    go false f next = absurd (none-ne-some v (rw (f, after) at e))

pub no-empty-row : (k : List ℕ) → lookup ([] ∷ []) k ≡ none
unfolding lookup after
no-empty-row [] = refl
no-empty-row (b ∷ bs) = refl

-- what a test says of a row that was found
pub row-test : (test : List Tag → Bool) (ls : List Tag) (k v : List ℕ) → Pass test ls → lookup ls k ≡ some v → test (pieces 9 (k ++ (9 ∷ v))) ≡ true
unfolding Pass lookup
row-test test [] k v e f = absurd (none-ne-some v f)
row-test test (l ∷ []) k v e f = absurd (none-ne-some v (sym (no-empty-row k) ∙ (rw e at f)))
row-test test (l ∷ m ∷ ls) k v e f = go (after (k ++ (9 ∷ [])) l) refl (row-test test (m ∷ ls) k v e.1)
  where
    go : (o : Option (List ℕ)) → after (k ++ (9 ∷ [])) l ≡ o
        → (lookup (m ∷ ls) k ≡ some v → test (pieces 9 (k ++ (9 ∷ v))) ≡ true) → test (pieces 9 (k ++ (9 ∷ v))) ≡ true
    go none g next = next (rw (g, lookup) at f)
    go (some w) g next =
        let a : l ≡ (k ++ (9 ∷ [])) ++ w = after-eq (k ++ (9 ∷ [])) l w g in
        let c : ◌≡◌ {A = Option (List ℕ)} (some w) (some v) = rw (g, lookup) at f in
        let d : w ≡ v = cc in
        subst (λ (x : List ℕ). test (pieces 9 x) ≡ true) (a ∙ (append_assoc k (9 ∷ []) w ∙ ap (λ (x : List ℕ). k ++ (9 ∷ x)) d)) e.0

pub rows_pass : (shape : List Tag → Bool) (last : Option (List ℕ)) (at : ℕ) (ls : List Tag) → rows_fault shape last at ls ≡ none → Pass shape ls
unfolding rows_fault Pass
rows_pass shape last at [] e = tt
rows_pass shape last at ([] ∷ []) e = refl
rows_pass shape last at ((b ∷ bs) ∷ []) e = absurd (some-ne-none _ e)
rows_pass shape last at (l ∷ m ∷ ls) e = go (shape (pieces 9 l)) refl (above last (row_key (pieces 9 l))) refl (rows_pass shape (some (row_key (pieces 9 l))) (at + suc (length l)) (m ∷ ls))
  where
    go : (b : Bool) → shape (pieces 9 l) ≡ b → (c : Bool) → above last (row_key (pieces 9 l)) ≡ c
        → (rows_fault shape (some (row_key (pieces 9 l))) (at + suc (length l)) (m ∷ ls) ≡ none → Pass shape (m ∷ ls)) → (shape (pieces 9 l) ≡ true) × Pass shape (m ∷ ls)
    go false f c g next = absurd (some-ne-none _ (rw (f, rows_fault) at e))
    go true f false g next = absurd (some-ne-none _ (rw (f, g, rows_fault) at e))
    go true f true g next = (f, next (rw (f, g, rows_fault) at e))

clash-pass : (shape free : List Tag → Bool) (at : ℕ) (ls : List Tag) → Pass shape ls → clash_fault free at ls ≡ none → Pass free ls
unfolding clash_fault Pass
clash-pass shape free at [] h e = tt
clash-pass shape free at (l ∷ []) h e = h
clash-pass shape free at (l ∷ m ∷ ls) h e = go (free (pieces 9 l)) refl (clash-pass shape free (at + suc (length l)) (m ∷ ls) h.1)
  where
    go : (b : Bool) → free (pieces 9 l) ≡ b → (clash_fault free (at + suc (length l)) (m ∷ ls) ≡ none → Pass free (m ∷ ls)) → (free (pieces 9 l) ≡ true) × Pass free (m ∷ ls)
    go false f next = absurd (some-ne-none _ (rw (f, clash_fault) at e))
    go true f next = (f, next (rw (f, clash_fault) at e))

-- what the whole check gives
pub record Passed (A L P : List ℕ) : Type 0 where
  pub alias-shapes : Pass alias_shape (rows A)
  pub likely-shapes : Pass likely_shape (rows L)
  pub parent-shapes : Pass parent_shape (rows P)
  pub alias-free : Pass (alias_free (tables_of A L P)) (rows A)
  pub likely-free : Pass (likely_free (tables_of A L P)) (rows L)
  pub parent-free : Pass (parent_free (tables_of A L P)) (rows P)

pub passed : (A L P : List ℕ) → check to_check A L P ≡ none → Passed A L P
unfolding check in_use All AllClear Clear shape_fault free_fault shape_of free_of
passed A L P e =
    let h = tested-none _ (in_use to_check A L P) e in
    let a = rows_pass alias_shape none 0 (rows A) (in_table-none _ _ h.1.0.0) in
    let l = rows_pass likely_shape none 0 (rows L) (in_table-none _ _ h.1.0.1.0) in
    let p = rows_pass parent_shape none 0 (rows P) (in_table-none _ _ h.1.0.1.1.0) in
    record {
      alias-shapes = a;
      likely-shapes = l;
      parent-shapes = p;
      alias-free = clash-pass alias_shape (alias_free (tables_of A L P)) 0 (rows A) a (in_table-none _ _ h.1.1.0.0);
      likely-free = clash-pass likely_shape (likely_free (tables_of A L P)) 0 (rows L) l (in_table-none _ _ h.1.1.0.1.0);
      parent-free = clash-pass parent_shape (parent_free (tables_of A L P)) 0 (rows P) p (in_table-none _ _ h.1.1.0.1.1.0);
    }

-- a test that asks for two fields, or two more
record Two (ts : List Tag) : Type 0 where
  key : Tag
  value : Tag
  are : ts ≡ key ∷ value ∷ []

fields-are : (test : List Tag → Bool) (k v : List ℕ) (b c : Tag) → pieces 9 k ++ pieces 9 v ≡ b ∷ c ∷ [] → test (pieces 9 k ++ pieces 9 v) ≡ true → test (k ∷ v ∷ []) ≡ true
fields-are test k v b c t e = let h = two_fields 9 k v b c t in rw (h.0, h.1) (rw t at e)

row-two : (test : List Tag → Bool) → ((ts : List Tag) → test ts ≡ true → Two ts) → (k v : List ℕ) → test (pieces 9 (k ++ (9 ∷ v))) ≡ true → test (k ∷ v ∷ []) ≡ true
row-two test strict k v e =
    let e' : test (pieces 9 k ++ pieces 9 v) ≡ true = rw pieces-append at e in
    let t = strict (pieces 9 k ++ pieces 9 v) e' in
    fields-are test k v t.key t.value t.are e'

-- behind a kind's name
row-kind : (test : List Tag → Bool) → ((a : Tag) (ts : List Tag) → test (a ∷ ts) ≡ true → Two ts) → (name : Tag) (K k v : List ℕ) → pieces 9 (K ++ k) ≡ name ∷ pieces 9 k
    → test (pieces 9 ((K ++ k) ++ (9 ∷ v))) ≡ true → test (name ∷ k ∷ v ∷ []) ≡ true
row-kind test strict name K k v q e =
    let e' : test (name ∷ (pieces 9 k ++ pieces 9 v)) ≡ true = subst (λ (x : List Tag). test x ≡ true) (pieces-append 9 (K ++ k) v ∙ ap (λ (x : List Tag). x ++ pieces 9 v) q) e in
    let t = strict name (pieces 9 k ++ pieces 9 v) e' in
    fields-are (λ (ts : List Tag). test (name ∷ ts)) k v t.key t.value t.are e'

alias-strict : (a : Tag) (ts : List Tag) → alias_shape (a ∷ ts) ≡ true → Two ts
unfolding alias_shape
alias-strict a [] e = no e
alias-strict a (b ∷ []) e = no e
alias-strict a (b ∷ c ∷ []) e = record { key = b; value = c; are = refl }
alias-strict a (b ∷ c ∷ d ∷ f) e = no e

free-strict : (t : Tables) (a : Tag) (ts : List Tag) → alias_free t (a ∷ ts) ≡ true → Two ts
unfolding alias_free
free-strict t a [] e = no e
free-strict t a (b ∷ []) e = no e
free-strict t a (b ∷ c ∷ []) e = record { key = b; value = c; are = refl }
free-strict t a (b ∷ c ∷ d ∷ f) e = no e

likely-strict : (ts : List Tag) → likely_shape ts ≡ true → Two ts
unfolding likely_shape
likely-strict [] e = no e
likely-strict (b ∷ []) e = no e
likely-strict (b ∷ c ∷ []) e = record { key = b; value = c; are = refl }
likely-strict (b ∷ c ∷ d ∷ f) e = no e

likely-free-strict : (t : Tables) (ts : List Tag) → likely_free t ts ≡ true → Two ts
unfolding likely_free
likely-free-strict t [] e = no e
likely-free-strict t (b ∷ []) e = no e
likely-free-strict t (b ∷ c ∷ []) e = record { key = b; value = c; are = refl }
likely-free-strict t (b ∷ c ∷ d ∷ f) e = no e

abbrev language_name : Tag
language_name = text "language"

abbrev script_name : Tag
script_name = text "script"

abbrev region_name : Tag
region_name = text "region"

abbrev variant_name : Tag
variant_name = text "variant"

is_none-eq : {A : Type 0} (o : Option A) → is_none o ≡ true → o ≡ none
unfolding is_none
is_none-eq none e = refl
is_none-eq (some a) e = no e

-- a value's shape
stored-shown : (k : Kind) (f : Tag → Tag) (t : Tag) → in_canonical_case k f t ≡ true → Shown k f t
unfolding in_canonical_case Maybe
stored-shown k f t e =
    let h = and-true (of_kind k (kind_of (lower t))) (same (f (lower t)) t) e in
    record { token = lower t; stored = sym (same-eq (f (lower t)) t h.1); kind = inr (of_kind-eq k (kind_of (lower t)) h.0) }

find-shown : (k : Kind) (f : Tag → Tag) → f [] ≡ [] → (ts : List Tag) → Shown k f (find_in_case k f ts)
unfolding find_in_case
find-shown k f e [] = shown-none k f e
find-shown k f e (t ∷ ts) = go (in_canonical_case k f t) refl (find-shown k f e ts)
  where
    go : (b : Bool) → in_canonical_case k f t ≡ b → Shown k f (find_in_case k f ts) → Shown k f (elim b [ true ↦ t | false ↦ find_in_case k f ts ])
    go true q r = stored-shown k f t q
    go false q r = r

pub three-shaped : (x : List ℕ) → is_three x ≡ true → Shaped (parse x)
unfolding is_three parse three_of title upper is_language language_size size_of
three-shaped x e = go (pieces 45 x) (and-true (is_language (three_of (pieces 45 x)).language) (same (print_three (three_of (pieces 45 x))) x) e).0
  where
    go : (ts : List Tag) → is_language (three_of ts).language ≡ true → Shaped (three_of ts)
    go [] f = no f
    go (l ∷ ts) f = record { language = f; script = find-shown a_script title refl ts; region = find-shown a_region upper refl ts }

-- what has the shape of a three is that three, printed
pub three-printed : (x : List ℕ) → is_three x ≡ true → print_three (parse x) ≡ x
unfolding is_three
three-printed x e = same-eq (print_three (parse x)) x (and-true (is_language (parse x).language) (same (print_three (parse x)) x) e).1

parsed-some : (o : Option (List ℕ)) (w : Three) → parsed o ≡ some w → (v : List ℕ) × (o ≡ some v) × (parse v ≡ w)
unfolding parsed
parsed-some none w e = absurd (none-ne-some w e)
parsed-some (some v) w e = (v, refl, cc)

none_kept : (f : Tag → Option Tag) (v : Tag) → f v ≡ none → replace f v ≡ v
unfolding replace
none_kept f [] e = refl
none_kept f (b ∷ bs) e = rw (e, replace)

left-of : (a : Bool) → (a || false) ≡ true → a ≡ true
left-of a e = sym (or-false a) ∙ e

-- each kind's part of the tests
shape-language : (k v : Tag) → alias_shape (language_name ∷ k ∷ v ∷ []) ≡ true → is_three v ≡ true
unfolding alias_shape same order
shape-language k v e =
    let h = and-true (is_language k && not (same k und)) (is_three v && not (language_is_und (parse v))) (left-of _ e) in
    (and-true (is_three v) (not (language_is_und (parse v))) h.1).0

shape-script : (k v : Tag) → alias_shape (script_name ∷ k ∷ v ∷ []) ≡ true → in_canonical_case a_script title v ≡ true
unfolding alias_shape same order
shape-script k v e = (and-true (in_canonical_case a_script title k) (in_canonical_case a_script title v) (left-of _ e)).1

shape-region : (k v : Tag) → alias_shape (region_name ∷ k ∷ v ∷ []) ≡ true → in_canonical_case a_region upper v ≡ true
unfolding alias_shape same order
shape-region k v e = (and-true (in_canonical_case a_region upper k) (in_canonical_case a_region upper v) (left-of _ e)).1

shape-variant : (k v : Tag) → alias_shape (variant_name ∷ k ∷ v ∷ []) ≡ true → is_variant_tag v ≡ true
unfolding alias_shape same order
shape-variant k v e = (and-true (is_variant_tag k) (is_variant_tag v) e).1

module _ (t : Tables) where
  free-language : (k v : Tag) → alias_free t (language_name ∷ k ∷ v ∷ []) ≡ true → t.languages (parse v).language ≡ none
  unfolding alias_free same order
  free-language k v e = is_none-eq (t.languages (parse v).language) (and-true (is_none (t.languages (parse v).language)) true e).0

  free-script : (k v : Tag) → alias_free t (script_name ∷ k ∷ v ∷ []) ≡ true → t.scripts v ≡ none
  unfolding alias_free same order
  free-script k v e = is_none-eq (t.scripts v) (and-true (is_none (t.scripts v)) true e).0

  free-region : (k v : Tag) → alias_free t (region_name ∷ k ∷ v ∷ []) ≡ true → t.regions v ≡ none
  unfolding alias_free same order
  free-region k v e = is_none-eq (t.regions v) (and-true (is_none (t.regions v)) true e).0

  free-variant : (k v : Tag) → alias_free t (variant_name ∷ k ∷ v ∷ []) ≡ true → t.variants v ≡ none
  unfolding alias_free same order
  free-variant k v e = is_none-eq (t.variants v) e

  free-kept : (v : Three) → unaliased t v ≡ true → Kept t v
  unfolding unaliased
  free-kept v e =
      let h = and-true (is_none (t.languages v.language)) (is_none (t.scripts v.script) && is_none (t.regions v.region)) e in
      let k = and-true (is_none (t.scripts v.script)) (is_none (t.regions v.region)) h.1 in
      record {
        language = is_none-eq (t.languages v.language) h.0;
        script = none_kept t.scripts v.script (is_none-eq (t.scripts v.script) k.0);
        region = none_kept t.regions v.region (is_none-eq (t.regions v.region) k.1);
      }

module _ (A L P : List ℕ) (p : Passed A L P) where
  abbrev U : Tables
  U = tables_of A L P

  -- a row found behind a kind's name passes both tests
  alias-row : (name : Tag) (K k v : List ℕ) → pieces 9 (K ++ k) ≡ name ∷ pieces 9 k → lookup (rows A) (K ++ k) ≡ some v
      → (alias_shape (name ∷ k ∷ v ∷ []) ≡ true) × (alias_free U (name ∷ k ∷ v ∷ []) ≡ true)
  alias-row name K k v q e = (
    row-kind alias_shape alias-strict name K k v q (row-test alias_shape (rows A) (K ++ k) v p.alias-shapes e),
    row-kind (alias_free U) (free-strict U) name K k v q (row-test (alias_free U) (rows A) (K ++ k) v p.alias-free e),
  )

  language-row : (k v : List ℕ) → lookup (rows A) (language_key ++ k) ≡ some v → (alias_shape (language_name ∷ k ∷ v ∷ []) ≡ true) × (alias_free U (language_name ∷ k ∷ v ∷ []) ≡ true)
  unfolding pieces onto
  language-row k v e = alias-row language_name language_key k v refl e

  script-row : (k v : List ℕ) → lookup (rows A) (script_key ++ k) ≡ some v → (alias_shape (script_name ∷ k ∷ v ∷ []) ≡ true) × (alias_free U (script_name ∷ k ∷ v ∷ []) ≡ true)
  unfolding pieces onto
  script-row k v e = alias-row script_name script_key k v refl e

  region-row : (k v : List ℕ) → lookup (rows A) (region_key ++ k) ≡ some v → (alias_shape (region_name ∷ k ∷ v ∷ []) ≡ true) × (alias_free U (region_name ∷ k ∷ v ∷ []) ≡ true)
  unfolding pieces onto
  region-row k v e = alias-row region_name region_key k v refl e

  variant-row : (k v : List ℕ) → lookup (rows A) (variant_key ++ k) ≡ some v → (alias_shape (variant_name ∷ k ∷ v ∷ []) ≡ true) × (alias_free U (variant_name ∷ k ∷ v ∷ []) ≡ true)
  unfolding pieces onto
  variant-row k v e = alias-row variant_name variant_key k v refl e

  -- a likely row
  record Likely (v : Three) : Type 0 where
    kept : Kept U v
    plain : without_unknown v ≡ v
    all : complete v ≡ true
    shaped : Shaped v

  likely-row : (k : Three) (w : Three) → U.likely k ≡ some w → Likely w
  unfolding tables_of likely_shape likely_free
  likely-row k w e = go (parsed-some (lookup (rows L) (print_three k)) w e).0 (parsed-some (lookup (rows L) (print_three k)) w e).1 (parsed-some (lookup (rows L) (print_three k)) w e).2
    where
      go : (v : List ℕ) → lookup (rows L) (print_three k) ≡ some v → parse v ≡ w → Likely w
      go v f q =
          let shape = row-two likely_shape likely-strict (print_three k) v (row-test likely_shape (rows L) (print_three k) v p.likely-shapes f) in
          let free = row-two (likely_free U) (likely-free-strict U) (print_three k) v (row-test (likely_free U) (rows L) (print_three k) v p.likely-free f) in
          let h = and-true (is_three (print_three k)) (is_three v && (complete (parse v) && same_three (without_unknown (parse v)) (parse v))) shape in
          let i = and-true (is_three v) (complete (parse v) && same_three (without_unknown (parse v)) (parse v)) h.1 in
          let j = and-true (complete (parse v)) (same_three (without_unknown (parse v)) (parse v)) i.1 in
          let r : Likely (parse v) = record { kept = free-kept U (parse v) free; plain = same_three-eq U (without_unknown (parse v)) (parse v) j.1; all = j.0; shaped = three-shaped v i.0 } in
          subst Likely q r

  -- what a value that was found has, as bytes
  pub language-value : (k v : List ℕ) → lookup (rows A) (language_key ++ k) ≡ some v → is_three v ≡ true
  language-value k v f = shape-language k v (language-row k v f).0

  pub likely-value : (k v : List ℕ) → lookup (rows L) k ≡ some v → (is_three v ≡ true) × (complete (parse v) ≡ true)
  unfolding likely_shape
  likely-value k v f =
      let shape = row-two likely_shape likely-strict k v (row-test likely_shape (rows L) k v p.likely-shapes f) in
      let h = and-true (is_three k) (is_three v && (complete (parse v) && same_three (without_unknown (parse v)) (parse v))) shape in
      let i = and-true (is_three v) (complete (parse v) && same_three (without_unknown (parse v)) (parse v)) h.1 in
      (i.0, (and-true (complete (parse v)) (same_three (without_unknown (parse v)) (parse v)) i.1).0)

  pub good-tables : Lawful U
  unfolding tables_of
  good-tables = record {
    languages = λ k w e. let s = parsed-some (lookup (rows A) (language_key ++ k)) w e in subst (λ (x : Three). U.languages x.language ≡ none) s.2 (free-language U k s.0 (language-row k s.0 s.1).1);
    scripts = λ k v e. none_kept U.scripts v (free-script U k v (script-row k v e).1);
    regions = λ k v e. none_kept U.regions v (free-region U k v (region-row k v e).1);
    variants = λ k v e. none_kept U.variants v (free-variant U k v (variant-row k v e).1);
    likely-kept = λ k v e. (likely-row k v e).kept;
    likely-plain = λ k v e. (likely-row k v e).plain;
    likely-whole = λ k v e. (likely-row k v e).all;
  }

  pub shaped-tables : ShapedTables U
  unfolding tables_of is_variant_tag is_word word
  shaped-tables = record {
    languages = λ k w e. let s = parsed-some (lookup (rows A) (language_key ++ k)) w e in subst Shaped s.2 (three-shaped s.0 (shape-language k s.0 (language-row k s.0 s.1).0));
    scripts = λ k v e. stored-shown a_script title v (shape-script k v (script-row k v e).0);
    regions = λ k v e. stored-shown a_region upper v (shape-region k v (region-row k v e).0);
    variants = λ k v e. let h = and-true (of_kind a_variant (kind_of v)) (is_word v) (shape-variant k v (variant-row k v e).0) in (of_kind-eq a_variant (kind_of v) h.0, h.1);
    likely = λ k v e. (likely-row k v e).shaped;
  }

  parent-strict : (ts : List Tag) → parent_shape ts ≡ true → Two ts
  unfolding parent_shape
  parent-strict [] e = no e
  parent-strict (b ∷ []) e = no e
  parent-strict (b ∷ c ∷ []) e = record { key = b; value = c; are = refl }
  parent-strict (b ∷ c ∷ d ∷ f) e = no e

  parent-free-strict : (ts : List Tag) → parent_free U ts ≡ true → Two ts
  unfolding parent_free
  parent-free-strict [] e = no e
  parent-free-strict (b ∷ []) e = no e
  parent-free-strict (b ∷ c ∷ []) e = record { key = b; value = c; are = refl }
  parent-free-strict (b ∷ c ∷ d ∷ f) e = no e

  not-present : (t : Tag) → not (present t) ≡ true → t ≡ []
  unfolding present
  not-present [] e = refl
  not-present (b ∷ bs) e = no e

  root-printed : (t : Three) → is_und_alone (line t []) ≡ true → print_three t ≡ und
  unfolding is_und_alone print_three optional joined
  root-printed t e =
      let h = and-true (same t.language und && not (present t.script) && not (present t.region)) true e in
      let i = and-true (same t.language und && not (present t.script)) (not (present t.region)) h.0 in
      let j = and-true (same t.language und) (not (present t.script)) i.0 in
      rw (same-eq t.language und j.0, not-present t.script j.1, not-present t.region i.1)

  record Parents (k w : Three) : Type 0 where
    within : reaches U 8 (line k []) ≡ true
    shaped : Shaped w

  reaches-off : (n : ℕ) (t : Three) → is_und_alone (line t []) ≡ false → reaches U (suc n) (line t []) ≡ true → reaches U n (parent U (line t [])) ≡ true
  unfolding reaches
  reaches-off n t f e = rw (f, reaches) at e

  reaches-on : (n : ℕ) (t : Three) → reaches U n (parent U (line t [])) ≡ true → reaches U (suc n) (line t []) ≡ true
  unfolding reaches
  reaches-on n t e = bool_cases (is_und_alone (line t [])) (λ f. rw (f, reaches)) (λ f. rw (f, reaches) e)

  not_same : (x : Tag) → not (same x und) ≡ true → x ≡ und → ⊥
  unfolding same order
  not_same x e f = no (rw f at e)

  parents-row : (k w : Three) → U.parents k ≡ some w → Parents k w
  unfolding tables_of parent_shape parent_free is_three parent parent_of
  parents-row k w e = go (parsed-some (lookup (rows P) (print_three k)) w e).0 (parsed-some (lookup (rows P) (print_three k)) w e).1 (parsed-some (lookup (rows P) (print_three k)) w e).2
    where
      go : (v : List ℕ) → lookup (rows P) (print_three k) ≡ some v → parse v ≡ w → Parents k w
      go v f q =
          let key = print_three k in
          let shape = row-two parent_shape parent-strict key v (row-test parent_shape (rows P) key v p.parent-shapes f) in
          let free = row-two (parent_free U) parent-free-strict key v (row-test (parent_free U) (rows P) key v p.parent-free f) in
          let h = and-true (is_three key) (not (same key und) && is_three v) shape in
          let i = and-true (not (same key und)) (is_three v) h.1 in
          let walk = and-true (unaliased U (parse v)) (reaches U 8 (line (parse key) [])) free in
          let again : print_three (parse key) ≡ key = same-eq (print_three (parse key)) key (and-true (is_language (parse key).language) (same (print_three (parse key)) key) h.0).1 in
          let off : is_und_alone (line (parse key) []) ≡ false = bool_cases (is_und_alone (line (parse key) [])) (λ r. absurd (not_same key i.0 (sym again ∙ root-printed (parse key) r))) (λ r. r) in
          let w' : U.parents (parse key) ≡ some w = ap (λ (x : List ℕ). parsed (lookup (rows P) x)) again ∙ e in
          let next : reaches U 7 (line w []) ≡ true = subst (λ (o : Option Three). reaches U 7 (line (parent_of o (parse key)) []) ≡ true) w' (reaches-off 7 (parse key) off walk.1) in
          record {
            within = reaches-on 7 k (subst (λ (o : Option Three). reaches U 7 (line (parent_of o k) []) ≡ true) (sym e) next);
            shaped = subst Shaped q (three-shaped v i.1);
          }

  pub parent-value : (k v : List ℕ) → lookup (rows P) k ≡ some v → is_three v ≡ true
  unfolding parent_shape
  parent-value k v f =
      let shape = row-two parent_shape parent-strict k v (row-test parent_shape (rows P) k v p.parent-shapes f) in
      (and-true (not (same k und)) (is_three v) (and-true (is_three k) (not (same k und) && is_three v) shape).1).1

  pub good-parents : LawfulParents U
  good-parents = record { within = λ k v e. (parents-row k v e).within }

  pub parents-shaped : (k v : Three) → U.parents k ≡ some v → Shaped v
  parents-shaped k v e = (parents-row k v e).shaped
