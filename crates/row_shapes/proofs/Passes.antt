-- The pass over the rows of a table: 12 and 13.
-- Assumes nothing.
use mathlib.Core.Path.{◌≡◌, refl, sym, ap, ap₂, ◌∙◌}
use mathlib.Core.Bool.{Bool, true, false, cond}
use mathlib.Core.Logic.{⊎_elim}
use mathlib.Core.List.{List, [], ◌∷◌, ◌++◌, cons≢nil, head-eq_of_cons-eq, tail-eq_of_cons-eq}
use mathlib.Core.Option.{Option, none, some}
use Prim.Native.Nat.{ℕ, zero, suc, ◌+◌, ◌-◌, ◌≤◌, ◌<◌, zero-le, compare, Ordering}
use native.Mathlib.Numerals.{add-one}
use native.Mathlib.Omega.{arith}
use native.Mathlib.Nat.{le_of_suc-le-suc, not-suc-le-zero}
use lib.Dec.{eqb}
use lib.ListN.{length, get_or, take, drop, take-append-drop, length-take, length-drop, drop_of_length-le}
use lib.Seq.{take-take, drop-cons, length-take-le}
use borrow.Author.Tests.{lt-ltb, lt-leb, eqb-true}
use Rattle.std.specs.declared.cmp.Ordering.{Ordering as Answer}
use Rattle.std.specs.declared.cmp.Ordering.TheVariants.{Less, Equal, Greater}
use Rattle.std.specs.Ordering.{is_lt}
use Rattle.standard.specs.Tag.{Tag, and_then, order}
use Rattle.standard.specs.Reading.{Fault, fault}
use Rattle.standard.specs.Grammar.{is_language, language_size, size_of}
use Rattle.standard.proofs.Checks.{shape-off, order-off, row_on}
use Rattle.standard.specs.Table.{pieces, rows, row_key, above, rows_fault, parse, three_of, is_three, alias_shape, likely_shape, parent_shape, shape_of}
use Rattle.standard.proofs.General.{and-true, le-or-lt, compare-lt, compare-gt, compare_same, no}
use Rattle.byte_string.specs.Strings.{end_of, order_of}
use Rattle.table.specs.Search.{below}
use Rattle.byte_string.proofs.Ends.{Ends, ends}
use Rattle.standard.proofs.Table.{Some, pieces-some}
use Rattle.table.proofs.Searches.{below-lt, below-gt, below_eq}
use Rattle.row_shapes.specs.declared.Table.{Table}
use Rattle.row_shapes.specs.declared.Table.TheVariants.{Aliases, Likely, Parents}
use Rattle.row_shapes.specs.Shapes.{between, others}
use Rattle.row_shapes.specs.Rows.{kind_is, second_tab, key_end}
use Rattle.row_shapes.proofs.Pieces.{pieces-at, pieces-first, others-at, others-none}

-- the order, as the search has it
abbrev pub is_less : Ordering → Bool
is_less Ordering.lt = true
is_less Ordering.eq = false
is_less Ordering.gt = false

pub below-order : (a b : List ℕ) → below a b ≡ is_less (order a b)
unfolding below order
below-order [] [] = refl
below-order [] (y ∷ b) = refl
below-order (x ∷ a) [] = refl
below-order (x ∷ a) (y ∷ b) = go (compare x y) refl (below-order a b)
  where
    go : (o : Ordering) → compare x y ≡ o → below a b ≡ is_less (order a b) → below (x ∷ a) (y ∷ b) ≡ is_less (and_then o (order a b))
    go Ordering.lt e i = below-lt x y a b (compare-lt x y e)
    go Ordering.eq e i = below_eq x y a b (compare_same x y e) ∙ i
    go Ordering.gt e i = below-gt x y a b (compare-gt x y e)

-- the key of the row before, if there is one
unfoldable pub last_of : List ℕ → Option (List ℕ)
last_of [] = none
last_of (b ∷ bs) = some (b ∷ bs)

above-last : (before key : List ℕ) → 0 < length key → above (last_of before) key ≡ below before key
unfolding above last_of below
above-last [] [] h = absurd (omega arith)
above-last [] (x ∷ key) h = refl
above-last (b ∷ bs) key h = go (order (b ∷ bs) key) refl ∙ sym (below-order (b ∷ bs) key)
  where
    go : (o : Ordering) → order (b ∷ bs) key ≡ o → above (some (b ∷ bs)) key ≡ is_less (order (b ∷ bs) key)
    go Ordering.lt e = rw (e, above)
    go Ordering.eq e = rw (e, above)
    go Ordering.gt e = rw (e, above)

-- The key of a row that has its shape.
pub record KeyAt (table : Table) (l : List ℕ) : Type 0 where
  pub key : row_key (pieces 9 l) ≡ take (key_end table l) l
  pub some : 0 < key_end table l
  pub room : key_end table l < length l

three-some : (x : List ℕ) → is_three x ≡ true → 0 < length x
unfolding is_three parse three_of pieces is_language language_size size_of
three-some [] e = no e
three-some (b ∷ bs) e = omega arith

-- the byte at which a piece ends
end-byte : (b : ℕ) (s : List ℕ) (i : ℕ) → end_of b s i < length s → get_or s (end_of b s i) 0 ≡ b
unfolding end_of
end-byte b [] i h = absurd (not-suc-le-zero h)
end-byte b (x ∷ s) zero h = go (eqb x b) refl h (end-byte b s zero)
  where
    go : (c : Bool) → eqb x b ≡ c → cond c zero (suc (end_of b s zero)) < suc (length s) → (end_of b s zero < length s → get_or s (end_of b s zero) 0 ≡ b) → get_or (x ∷ s) (cond c zero (suc (end_of b s zero))) 0 ≡ b
    go true e h i = eqb-true x b e
    go false e h i = i (le_of_suc-le-suc h)
end-byte b (x ∷ s) (suc i) h = end-byte b s i (le_of_suc-le-suc h)

take-over : (x y : List ℕ) (n : ℕ) → take (length x + n) (x ++ y) ≡ x ++ take n y
take-over [] y n = let z : 0 + n ≡ n = omega arith in rw z
take-over (a ∷ x) y n = let z : suc (length x) + n ≡ suc (length x + n) = omega arith in rw z (ap (◌∷◌ a) (take-over x y n))

-- a text is what stands before a byte, the byte, and the rest
pub row-split : (b : ℕ) (l : List ℕ) (i e : ℕ) → e ≡ end_of b l i → e < length l → l ≡ take e l ++ (b ∷ drop (e + 1) l)
row-split b l i e q h =
    let c : get_or l e 0 ≡ b = ap (λ (k : ℕ). get_or l k 0) q ∙ end-byte b l i (rw q at h) ∙ refl in
    sym (take-append-drop e l) ∙ ap (λ (x : List ℕ). take e l ++ x) (drop-cons l e 0 h ∙ ap₂ ◌∷◌ c (ap (λ (k : ℕ). drop k l) (sym (add-one e))))

-- the fields of a row, by its tabs
module _ (l : List ℕ) where
  abbrev tab : ℕ
  tab = end_of 9 l 0

  first : pieces 9 l ≡ take tab l ∷ others 9 l tab
  first = pieces-first 9 l tab refl

  tab-bounds : Ends 9 l 0 tab
  tab-bounds = ends 9 l 0 tab refl zero-le

  -- where something follows, a piece has ended
  others-some : (b e : ℕ) (t : Tag) (ts : List Tag) → others b l e ≡ t ∷ ts → e < length l
  others-some b e t ts q = ⊎_elim (λ h. absurd (cons≢nil (sym q ∙ others-none b l e h))) (λ h. h) (le-or-lt (length l) e)

  record Tabbed (k : Tag) (ts : List Tag) : Type 0 where
    front : take tab l ≡ k
    more : others 9 l tab ≡ ts

  tabbed : (k : Tag) (ts : List Tag) → pieces 9 l ≡ k ∷ ts → Tabbed k ts
  tabbed k ts e = let q = sym first ∙ e in record { front = head-eq_of_cons-eq q; more = tail-eq_of_cons-eq q }

  tab-some : (k : Tag) → take tab l ≡ k → 0 < length k → 0 < tab
  tab-some k e h = let b = tab-bounds in let n = sym (length-take-le tab l b.high) ∙ ap length e in omega arith

  two-key : (table : Table) (k v : Tag) → key_end table l ≡ tab → pieces 9 l ≡ k ∷ v ∷ [] → 0 < length k → KeyAt table l
  unfolding row_key
  two-key table k v z e h =
      let t = tabbed k (v ∷ []) e in
      record { key = rw z (ap row_key e ∙ sym t.front); some = rw z (tab-some k t.front h); room = rw z (others-some 9 tab v [] t.more) }

  three-key : (a k v : Tag) → pieces 9 l ≡ a ∷ k ∷ v ∷ [] → KeyAt Aliases l
  unfolding row_key key_end second_tab
  three-key a k v e =
      let t = tabbed a (k ∷ v ∷ []) e in
      let h = others-some 9 tab k (v ∷ []) t.more in
      let b = end_of 9 l (tab + 1) in
      let q : between l tab b ∷ others 9 l b ≡ k ∷ v ∷ [] = sym (others-at 9 l tab b h refl) ∙ t.more in
      let g = others-some 9 b v [] (tail-eq_of_cons-eq q) in
      let d = ends 9 l (tab + 1) b refl (omega arith) in
      let n : length (take tab l) ≡ tab = length-take-le tab l (omega arith) in
      let u : b ≡ length (take tab l) + suc (b - (tab + 1)) = omega (arith, d.low) in
      let w : take b l ≡ a ++ (9 ∷ k) =
      ap₂ take u (row-split 9 l 0 tab refl h) ∙ take-over (take tab l) (9 ∷ drop (tab + 1) l) (suc (b - (tab + 1))) ∙ ap₂ (λ (x y : List ℕ). x ++ (9 ∷ y)) t.front (head-eq_of_cons-eq q) in
      let x = lt-leb (length l) tab h in
      record { key = rw x (ap row_key e ∙ sym w); some = rw x (omega (arith, d.low)); room = rw x g }

  alias-row : (ts : List Tag) → pieces 9 l ≡ ts → alias_shape ts ≡ true → KeyAt Aliases l
  unfolding alias_shape
  alias-row [] q f = no f
  alias-row (a ∷ []) q f = no f
  alias-row (a ∷ b ∷ []) q f = no f
  alias-row (a ∷ k ∷ v ∷ []) q f = three-key a k v q
  alias-row (a ∷ b ∷ c ∷ d ∷ ts) q f = no f

  likely-row : (ts : List Tag) → pieces 9 l ≡ ts → likely_shape ts ≡ true → KeyAt Likely l
  unfolding likely_shape key_end
  likely-row [] q f = no f
  likely-row (a ∷ []) q f = no f
  likely-row (k ∷ v ∷ []) q f = two-key Likely k v refl q (three-some k (and-true (is_three k) _ f).0)
  likely-row (a ∷ b ∷ c ∷ ts) q f = no f

  parent_row : (ts : List Tag) → pieces 9 l ≡ ts → parent_shape ts ≡ true → KeyAt Parents l
  unfolding parent_shape key_end
  parent_row [] q f = no f
  parent_row (a ∷ []) q f = no f
  parent_row (k ∷ v ∷ []) q f = two-key Parents k v refl q (three-some k (and-true (is_three k) _ f).0)
  parent_row (a ∷ b ∷ c ∷ ts) q f = no f

  pub shape-key : (table : Table) → shape_of (kind_is table) (pieces 9 l) ≡ true → KeyAt table l
  unfolding kind_is shape_of
  shape-key Aliases e = alias-row (pieces 9 l) refl e
  shape-key Likely e = likely-row (pieces 9 l) refl e
  shape-key Parents e = parent_row (pieces 9 l) refl e

last_some : (k : List ℕ) → 0 < length k → last_of k ≡ some k
unfolding last_of
last_some [] h = absurd (omega arith)
last_some (b ∷ bs) h = refl

-- One row of the pass: the row at i, up to e, behind the key before it.
module _ (table : Table) (t before : List ℕ) (i e : ℕ) (q : e ≡ end_of 10 t i) (h : i < length t) where
  abbrev line : List ℕ
  line = take (e - i) (drop i t)

  abbrev pass_from : List ℕ → ℕ → Option Fault
  pass_from last at = rows_fault (shape_of (kind_is table)) (last_of last) at (pieces 10 (drop at t))

  size : length line ≡ e - i
  size = let b = ends 10 t i e q (omega arith) in simp (length-take, length-drop) (omega arith)

  pub pass-short : length t ≤ e → fault 12 i ≡ pass_from before i
  unfolding rows_fault
  pass-short g =
      let b = ends 10 t i e q (omega arith) in
      sym (ap (rows_fault (shape_of (kind_is table)) (last_of before) i) (pieces-at 10 t i e q (omega arith) ∙ ap (◌∷◌ line) (others-none 10 t e g)) ∙ last line (omega (arith, size)))
    where
      last : (l : List ℕ) → 0 < length l → rows_fault (shape_of (kind_is table)) (last_of before) i (l ∷ []) ≡ fault 12 i
      last [] k = absurd (omega arith)
      last (x ∷ l) k = refl

  module _ (g : e < length t) where
    -- what follows the row is not nothing
    follows : pieces 10 (drop i t) ≡ line ∷ pieces 10 (drop (e + 1) t)
    unfolding others
    follows = pieces-at 10 t i e q (omega arith) ∙ ap (◌∷◌ line) (rw (lt-ltb e (length t) g, ← add-one e))

    next_place : i + suc (length line) ≡ e + 1
    next_place = let b = ends 10 t i e q (omega arith) in omega (arith, size)

    pub pass_shape : shape_of (kind_is table) (pieces 9 line) ≡ false → fault 12 i ≡ pass_from before i
    pass_shape s = sym (ap (rows_fault (shape_of (kind_is table)) (last_of before) i) follows ∙ off (pieces-some 10 (drop (e + 1) t)))
      where
        off : Some 10 (drop (e + 1) t) → rows_fault (shape_of (kind_is table)) (last_of before) i (line ∷ pieces 10 (drop (e + 1) t)) ≡ fault 12 i
        off p = shape-off (shape_of (kind_is table)) (last_of before) i line (pieces 10 (drop (e + 1) t)) p.first p.more p.are s

    -- the key, as the code cuts it
    module _ (d : ℕ) (z : d ≡ key_end table line) (s : shape_of (kind_is table) (pieces 9 line) ≡ true) where
      pub key-bounds : (0 < d) × (i + d < e)
      key-bounds = let k = shape-key line table s in let b = ends 10 t i e q (omega arith) in (omega (arith, k.some), omega (arith, k.room, size))

      pub key-cut : take (i + d - i) (drop i t) ≡ row_key (pieces 9 line)
      key-cut =
          let k = shape-key line table s in
          let b = key-bounds in
          let u : i + d - i ≡ d = omega arith in
          let w : d ≤ e - i = omega (arith, b.1) in
          ap (λ (n : ℕ). take n (drop i t)) u ∙ sym (take-take d (e - i) (drop i t) w) ∙ sym (k.key ∙ ap (λ (n : ℕ). take n line) (sym z))

      key-some : 0 < length (row_key (pieces 9 line))
      key-some = let b = key-bounds in let n = ap length key-cut in omega (arith, simp (length-take, length-drop) at n)

      above-is : above (last_of before) (row_key (pieces 9 line)) ≡ below before (take (i + d - i) (drop i t))
      above-is = above-last before (row_key (pieces 9 line)) key-some ∙ ap (below before) (sym key-cut)

      pub pass-order : below before (take (i + d - i) (drop i t)) ≡ false → fault 13 i ≡ pass_from before i
      pass-order f =
          let p = pieces-some 10 (drop (e + 1) t) in
          sym (ap (rows_fault (shape_of (kind_is table)) (last_of before) i) follows ∙ order-off (shape_of (kind_is table)) (last_of before) i line (pieces 10 (drop (e + 1) t)) p.first p.more p.are s (above-is ∙ f))

      pub pass-next : below before (take (i + d - i) (drop i t)) ≡ true → pass_from before i ≡ pass_from (take (i + d - i) (drop i t)) (e + 1)
      pass-next f =
          let p = pieces-some 10 (drop (e + 1) t) in
          ap (rows_fault (shape_of (kind_is table)) (last_of before) i) follows
          ∙ row_on (shape_of (kind_is table)) (last_of before) i line (pieces 10 (drop (e + 1) t)) p.first p.more p.are s (above-is ∙ f)
          ∙ ap₂ (λ (o : Option (List ℕ)) (n : ℕ). rows_fault (shape_of (kind_is table)) o n (pieces 10 (drop (e + 1) t))) (sym (ap last_of key-cut ∙ last_some (row_key (pieces 9 line)) key-some)) next_place

pub pass-end : (table : Table) (t before : List ℕ) (i : ℕ) → length t ≤ i → none ≡ rows_fault (shape_of (kind_is table)) (last_of before) i (pieces 10 (drop i t))
unfolding rows_fault pieces
pass-end table t before i h = rw (drop_of_length-le t h)

pub pass-start : (table : Table) (t : List ℕ) → rows_fault (shape_of (kind_is table)) none 0 (rows t) ≡ rows_fault (shape_of (kind_is table)) (last_of (take (0 - 0) (drop 0 t))) 0 (pieces 10 (drop 0 t))
unfolding rows last_of
pass-start table t = refl

pub rises-is : (a b : List ℕ) (r : Answer) → order_of r ≡ order a b → is_lt r ≡ below a b
rises-is a b r e = go r ∙ ap is_less e ∙ sym (below-order a b)
  where
    go : (x : Answer) → is_lt x ≡ is_less (order_of x)
    go Less = refl
    go Equal = refl
    go Greater = refl
