-- A table that passes 12 and 13 is sorted, whichever of the three it is, so that a search by halves finds what a lookup finds.
-- Assumes nothing.
use mathlib.Core.Path.{◌≡◌, refl, sym, ap, ap₂, ◌∙◌}
use mathlib.Core.Bool.{Bool, true, false, cond, not, ◌&&◌}
use mathlib.Core.List.{List, [], ◌∷◌, ◌++◌}
use mathlib.Core.Option.{Option, none, some, some-ne-none}
use Prim.Native.Nat.{ℕ, suc, ◌+◌, Ordering}
use native.Mathlib.Omega.{arith}
use lib.Dec.{eqb, leb}
use lib.ListN.{length, drop}
use borrow.Author.Tests.{le-leb, leb-true, eqb-true, eqb-false}
use Rattle.standard.specs.Tag.{Tag, order, same, onto, All}
use Rattle.standard.specs.Grammar.{small, capital, digit, every, is_language}
use Rattle.standard.specs.Identifier.{und}
use Rattle.standard.specs.Reading.{joined}
use Rattle.standard.specs.Table.{pieces, rows, row_key, above, rows_fault, is_three, parse, language_is_und, is_variant_tag, alias_shape, likely_shape, parent_shape, shape_of}
use Rattle.standard.proofs.Tags.{same-eq}
use Rattle.standard.proofs.General.{bool_cases, clash, and-true, no}
use Rattle.subtag.proofs.Bytes.{small-in, capital-in, digit-in}
use Rattle.byte_string.specs.Strings.{end_of}
use Rattle.table.specs.Search.{below, ascend_from, ascend, Opens, Sorted}
use Rattle.table.proofs.Lines.{trimmed, lines-trimmed}
use Rattle.standard.proofs.Table.{pieces-some}
use Rattle.table.proofs.Searches.{Cmp, lt, eq, gt, cmp, below-lt, below-gt, below_eq, below-nil}
use Rattle.row_shapes.specs.declared.Table.{Table}
use Rattle.row_shapes.specs.declared.Table.TheVariants.{Aliases, Likely, Parents}
use Rattle.row_shapes.specs.Shapes.{is_script, is_region, region_tail}
use Rattle.row_shapes.specs.Rows.{language_name, script_name, region_name, variant_name, kind_named, language_alias, shape_by, kind_is, second_tab, key_end}
use Rattle.row_shapes.proofs.Tags.{language-every, script-every, region-every, variant-every}
use Rattle.row_shapes.proofs.Pieces.{Free, pieces-here, pieces-next, pieces-free, joined-pieces}
use Rattle.row_shapes.proofs.Threes.{tail, region-tail, three-pieces}
use Rattle.row_shapes.proofs.Tests.{alias-by}
use Rattle.row_shapes.proofs.Passes.{is_less, below-order, KeyAt, shape-key, row-split}

-- not below a tab
abbrev high : ℕ → Bool
high b = leb 9 b

small-high : (b : ℕ) → small b ≡ true → high b ≡ true
small-high b e = le-leb 9 b (omega (arith, (small-in b e).low))

capital-high : (b : ℕ) → capital b ≡ true → high b ≡ true
capital-high b e = le-leb 9 b (omega (arith, (capital-in b e).low))

digit-high : (b : ℕ) → digit b ≡ true → high b ≡ true
digit-high b e = le-leb 9 b (omega (arith, (digit-in b e).low))

pub every_append : (p : ℕ → Bool) (x y : Tag) → every p x ≡ true → every p y ≡ true → every p (x ++ y) ≡ true
unfolding every
every_append p [] y e f = f
every_append p (b ∷ x) y e f = let h = and-true (p b) (every p x) e in rw (h.0, every_append p x y h.1 f)

-- the subtags of a key
language-high : (t : Tag) → is_language t ≡ true → every high t ≡ true
language-high = language-every high small-high capital-high digit-high

script-high : (t : Tag) → is_script t ≡ true → every high t ≡ true
script-high = script-every high small-high capital-high digit-high

region-high : (t : Tag) → is_region t ≡ true → every high t ≡ true
region-high = region-every high small-high capital-high digit-high

variant-high : (t : Tag) → is_variant_tag t ≡ true → every high t ≡ true
variant-high = variant-every high small-high capital-high digit-high

-- a text of such subtags
all-high : List Tag → Bool
all-high [] = true
all-high (t ∷ ts) = every high t && all-high ts

joined-high : (ts : List Tag) → all-high ts ≡ true → every high (joined ts) ≡ true
unfolding all-high joined every
joined-high [] e = refl
joined-high (t ∷ []) e = (and-true (every high t) true e).0
joined-high (t ∷ u ∷ ts) e =
    let h = and-true (every high t) (all-high (u ∷ ts)) e in
    every_append high t (45 ∷ joined (u ∷ ts)) h.0 (joined-high (u ∷ ts) h.1)

tail-high : (ts : List Tag) → tail ts ≡ true → all-high ts ≡ true
unfolding tail all-high region_tail
tail-high [] e = refl
tail-high (a ∷ ts) e = bool_cases (is_script a) (λ c. rw (script-high a c) (last ts (rw c at e))) (λ c. let h = region-tail a ts (rw c at e) in rw (region-high a h.0, h.1))
  where
    last : (us : List Tag) → region_tail us ≡ true → all-high us ≡ true
    last [] f = refl
    last (r ∷ us) f = let h = region-tail r us f in rw (region-high r h.0, h.1)

three-high : (x : List ℕ) → is_three x ≡ true → every high x ≡ true
unfolding all-high
three-high x e =
    let p = pieces-some 45 x in
    let h = and-true (is_language p.first) (tail p.more) (sym (three-pieces x p.first p.more p.are) ∙ e) in
    let g : all-high (pieces 45 x) ≡ true = rw (p.are, language-high p.first h.0, tail-high p.more h.1) in
    ap (every high) (sym (joined-pieces x)) ∙ joined-high (pieces 45 x) g

-- How many tabs a key has.
tabs : List ℕ → ℕ
tabs [] = 0
tabs (x ∷ s) = cond (eqb x 9) 1 0 + tabs s

tabs-free : (t : Tag) → Free 9 t → tabs t ≡ 0
unfolding tabs All
tabs-free [] h = refl
tabs-free (x ∷ t) h = rw (h.0, tabs-free t h.1)

tabs-append : (x y : Tag) → tabs (x ++ y) ≡ tabs x + tabs y
unfolding tabs
tabs-append [] y = omega arith
tabs-append (a ∷ x) y = let i = tabs-append x y in omega arith

-- keys that ascend make rows that ascend, where both have as many tabs
rows-ascend : (a b u v : List ℕ) → tabs a ≡ tabs b → every high b ≡ true → below a b ≡ true → below (a ++ (9 ∷ u)) (b ++ (9 ∷ v)) ≡ true
unfolding tabs every
rows-ascend a [] u v n p e = clash e (below-nil a)
rows-ascend [] (y ∷ b) u v n p e =
    let h = leb-true 9 y (and-true (high y) (every high b) p).0 in
    bool_cases (eqb y 9) (λ f. let m = rw f at n in absurd (omega arith)) (λ f. below-lt 9 y u (b ++ (9 ∷ v)) (let g = eqb-false y 9 f in omega arith))
rows-ascend (x ∷ a) (y ∷ b) u v n p e = go (rows-ascend a b u v) (cmp x y)
  where
    go : (tabs a ≡ tabs b → every high b ≡ true → below a b ≡ true → below (a ++ (9 ∷ u)) (b ++ (9 ∷ v)) ≡ true) → Cmp x y → below ((x ∷ a) ++ (9 ∷ u)) ((y ∷ b) ++ (9 ∷ v)) ≡ true
    go i (lt h) = below-lt x y (a ++ (9 ∷ u)) (b ++ (9 ∷ v)) h
    go i (gt h) = clash e (below-gt x y a b h)
    go i (eq h) =
        let m : tabs (x ∷ []) ≡ tabs (y ∷ []) = ap (λ (z : ℕ). tabs (z ∷ [])) h in
        below_eq x y (a ++ (9 ∷ u)) (b ++ (9 ∷ v)) h ∙ i (omega arith) (and-true (high y) (every high b) p).1 (sym (below_eq x y a b h) ∙ e)

-- What the shape says of a row.
record Row (n : ℕ) (l : List ℕ) : Type 0 where
  value : List ℕ
  parts : l ≡ row_key (pieces 9 l) ++ (9 ∷ value)
  count : tabs (row_key (pieces 9 l)) ≡ n
  plain : every high (row_key (pieces 9 l)) ≡ true

-- the tabs in a table's keys
abbrev tabs_of : Table → ℕ
tabs_of Aliases = 1
tabs_of Likely = 0
tabs_of Parents = 0

key-end : (table : Table) (l : List ℕ) → KeyAt table l → (i : ℕ) × (key_end table l ≡ end_of 9 l i)
unfolding key_end second_tab
key-end Aliases l k = bool_cases (leb (length l) (end_of 9 l 0)) (λ e. (0, rw e)) (λ e. (end_of 9 l 0 + 1, rw e))
key-end Likely l k = (0, refl)
key-end Parents l k = (0, refl)

row-parts : (table : Table) (l : List ℕ) (k : KeyAt table l) → l ≡ row_key (pieces 9 l) ++ (9 ∷ drop (key_end table l + 1) l)
row-parts table l k = let e = key-end table l k in row-split 9 l e.0 (key_end table l) e.1 k.room ∙ ap (λ (x : List ℕ). x ++ (9 ∷ drop (key_end table l + 1) l)) (sym k.key)

two-plain : (k v : Tag) → is_three k ≡ true → All (Free 9) (k ∷ v ∷ []) → (tabs (row_key (k ∷ v ∷ [])) ≡ 0) × (every high (row_key (k ∷ v ∷ [])) ≡ true)
unfolding row_key All
two-plain k v e f = (tabs-free k f.0, three-high k e)

-- an alias row has a kind's name and a subtag of the kind
alias-high : (kind k v : Tag) → shape_by (kind_named kind) k v ≡ true → (every high kind ≡ true) × (every high k ≡ true)
unfolding kind_named shape_by language_alias every
alias-high kind k v e =
    bool_cases (same kind language_name)
    (λ a. (ap (every high) (same-eq kind language_name a), language-high k (and-true (is_language k) (not (same k und)) (and-true (is_language k && not (same k und)) (is_three v && not (language_is_und (parse v))) (rw a at e)).0).0))
    (λ a. bool_cases (same kind script_name) (λ b. (ap (every high) (same-eq kind script_name b), script-high k (and-true (is_script k) (is_script v) (rw (a, b) at e)).0))
    (λ b. bool_cases (same kind region_name) (λ c. (ap (every high) (same-eq kind region_name c), region-high k (and-true (is_region k) (is_region v) (rw (a, b, c) at e)).0))
    (λ c. bool_cases (same kind variant_name) (λ d. (ap (every high) (same-eq kind variant_name d), variant-high k (and-true (is_variant_tag k) (is_variant_tag v) (rw (a, b, c, d) at e)).0))
    (λ d. no (rw (a, b, c, d) at e)))))

three-plain : (a k v : Tag) → alias_shape (a ∷ k ∷ v ∷ []) ≡ true → All (Free 9) (a ∷ k ∷ v ∷ []) → (tabs (row_key (a ∷ k ∷ v ∷ [])) ≡ 1) × (every high (row_key (a ∷ k ∷ v ∷ [])) ≡ true)
unfolding row_key All tabs every
three-plain a k v e f =
    let h = alias-high a k v (sym (alias-by k v a) ∙ e) in
    let n = tabs-append a (9 ∷ k) in
    let m = tabs-free a f.0 in
    let o = tabs-free k f.1.0 in
    (omega arith, every_append high a (9 ∷ k) h.0 h.1)

plain-key : (table : Table) (ts : List Tag) → shape_of (kind_is table) ts ≡ true → All (Free 9) ts → (tabs (row_key ts) ≡ tabs_of table) × (every high (row_key ts) ≡ true)
unfolding kind_is shape_of alias_shape likely_shape parent_shape
plain-key Aliases [] e f = no e
plain-key Aliases (a ∷ []) e f = no e
plain-key Aliases (a ∷ b ∷ []) e f = no e
plain-key Aliases (a ∷ k ∷ v ∷ []) e f = three-plain a k v e f
plain-key Aliases (a ∷ b ∷ c ∷ d ∷ ts) e f = no e
plain-key Likely [] e f = no e
plain-key Likely (a ∷ []) e f = no e
plain-key Likely (k ∷ v ∷ []) e f = two-plain k v (and-true (is_three k) _ e).0 f
plain-key Likely (a ∷ b ∷ c ∷ ts) e f = no e
plain-key Parents [] e f = no e
plain-key Parents (a ∷ []) e f = no e
plain-key Parents (k ∷ v ∷ []) e f = two-plain k v (and-true (is_three k) _ e).0 f
plain-key Parents (a ∷ b ∷ c ∷ ts) e f = no e

row : (table : Table) (l : List ℕ) → shape_of (kind_is table) (pieces 9 l) ≡ true → Row (tabs_of table) l
row table l e =
    let k = shape-key l table e in
    let p = plain-key table (pieces 9 l) e (pieces-free 9 l) in
    record { value = drop (key_end table l + 1) l; parts = row-parts table l k; count = p.0; plain = p.1 }

row_below : (n : ℕ) (l m : List ℕ) → Row n l → Row n m → below (row_key (pieces 9 l)) (row_key (pieces 9 m)) ≡ true → below l m ≡ true
row_below n l m r s e =
    ap₂ below r.parts s.parts ∙ rows-ascend (row_key (pieces 9 l)) (row_key (pieces 9 m)) r.value s.value (r.count ∙ sym s.count) s.plain e

-- the last piece is empty
unfoldable last_empty : List Tag → Bool
last_empty [] = true
last_empty ([] ∷ []) = true
last_empty ((x ∷ l) ∷ []) = false
last_empty (l ∷ m ∷ ls) = last_empty (m ∷ ls)

opens-end : (t : List ℕ) → last_empty (pieces 10 t) ≡ true → Opens t (length t)
unfolding pieces last_empty onto
opens-end [] e = refl
opens-end (x ∷ []) e = bool_cases (eqb x 10) (eqb-true x 10) (λ f. no (rw (pieces-next 10 x [] f) at e))
opens-end (x ∷ y ∷ t) e =
    let p = pieces-some 10 (y ∷ t) in
    opens-end (y ∷ t) (bool_cases (eqb x 10) (λ f. here p.first p.more p.are (rw (pieces-here 10 x (y ∷ t) f) at e)) (λ f. onto-last p.first p.more p.are (rw (pieces-next 10 x (y ∷ t) f) at e)))
  where
    here : (q : Tag) (qs : List Tag) → pieces 10 (y ∷ t) ≡ q ∷ qs → last_empty ([] ∷ pieces 10 (y ∷ t)) ≡ true → last_empty (pieces 10 (y ∷ t)) ≡ true
    here q qs a f = rw a (rw a at f)

    onto-last : (q : Tag) (qs : List Tag) → pieces 10 (y ∷ t) ≡ q ∷ qs → last_empty (onto x (pieces 10 (y ∷ t))) ≡ true → last_empty (pieces 10 (y ∷ t)) ≡ true
    onto-last q [] a f = no (rw a at f)
    onto-last q (r ∷ qs) a f = rw a (rw a at f)

-- Rows without fault.
module _ (table : Table) where
  -- what a row without fault passed
  passed : (last : Option (List ℕ)) (at : ℕ) (l m : Tag) (ls : List Tag) → rows_fault (shape_of (kind_is table)) last at (l ∷ m ∷ ls) ≡ none
      → (shape_of (kind_is table) (pieces 9 l) ≡ true) × (above last (row_key (pieces 9 l)) ≡ true) × (rows_fault (shape_of (kind_is table)) (some (row_key (pieces 9 l))) (at + suc (length l)) (m ∷ ls) ≡ none)
  unfolding rows_fault
  passed last at l m ls e =
      bool_cases (shape_of (kind_is table) (pieces 9 l))
      (λ s. bool_cases (above last (row_key (pieces 9 l))) (λ a. (s, a, rw (s, a, rows_fault) at e)) (λ a. absurd (some-ne-none _ (rw (s, a, rows_fault) at e))))
      (λ s. absurd (some-ne-none _ (rw (s, rows_fault) at e)))

  above-below : (p k : List ℕ) → above (some p) k ≡ true → below p k ≡ true
  unfolding above
  above-below p k e = go (order p k) refl
    where
      go : (o : Ordering) → order p k ≡ o → below p k ≡ true
      go Ordering.lt f = below-order p k ∙ ap is_less f
      go Ordering.eq f = no (rw (f, above) at e)
      go Ordering.gt f = no (rw (f, above) at e)

  rows-up : (l : Tag) (at : ℕ) (ps : List Tag) → Row (tabs_of table) l → rows_fault (shape_of (kind_is table)) (some (row_key (pieces 9 l))) at ps ≡ none → ascend_from l (trimmed ps) ≡ true
  unfolding rows_fault ascend_from trimmed
  rows-up l at [] r e = refl
  rows-up l at ([] ∷ []) r e = refl
  rows-up l at ((x ∷ m) ∷ []) r e = absurd (some-ne-none _ e)
  rows-up l at (m ∷ n ∷ ls) r e =
      let p = passed (some (row_key (pieces 9 l))) at m n ls e in
      let s = row table m p.0 in
      rw (row_below (tabs_of table) l m r s (above-below (row_key (pieces 9 l)) (row_key (pieces 9 m)) p.1)) (rows-up m (at + suc (length m)) (n ∷ ls) s p.2)

  first-up : (ps : List Tag) → rows_fault (shape_of (kind_is table)) none 0 ps ≡ none → ascend (trimmed ps) ≡ true
  unfolding rows_fault ascend ascend_from trimmed
  first-up [] e = refl
  first-up ([] ∷ []) e = refl
  first-up ((x ∷ m) ∷ []) e = refl
  first-up (m ∷ n ∷ ls) e = let p = passed none 0 m n ls e in rows-up m (0 + suc (length m)) (n ∷ ls) (row table m p.0) p.2

  rows_last : (last : Option (List ℕ)) (at : ℕ) (ps : List Tag) → rows_fault (shape_of (kind_is table)) last at ps ≡ none → last_empty ps ≡ true
  unfolding rows_fault last_empty
  rows_last last at [] e = refl
  rows_last last at ([] ∷ []) e = refl
  rows_last last at ((x ∷ m) ∷ []) e = absurd (some-ne-none _ e)
  rows_last last at (l ∷ m ∷ ls) e = let p = passed last at l m ls e in rows_last (some (row_key (pieces 9 l))) (at + suc (length l)) (m ∷ ls) p.2

  pub sorted : (t : List ℕ) → rows_fault (shape_of (kind_is table)) none 0 (rows t) ≡ none → Sorted t
  unfolding rows
  sorted t e = record { ended = opens-end t (rows_last none 0 (pieces 10 t) e); up = ap ascend (lines-trimmed t) ∙ first-up (pieces 10 t) e }
