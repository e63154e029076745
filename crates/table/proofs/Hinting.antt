-- Laws of hints: where the first row with a key is, what filling keeps true, and what a hint answers.
-- Assumes nothing.
use mathlib.Core.Path.{◌≡◌, refl, sym, ap, ap₂, ◌∙◌}
use mathlib.Core.Bool.{Bool, true, false, cond}
use mathlib.Core.List.{List, [], ◌∷◌, ◌++◌}
use mathlib.Core.Logic.{◌⊎◌, inl, inr, ⊎_elim}
use Prim.Native.Nat.{ℕ, zero, suc, ◌+◌, ◌-◌, ◌%◌, ◌≤◌, ◌<◌, zero-le}
use native.Mathlib.Nat.{le_of_suc-le-suc, not-suc-le-zero}
use native.Mathlib.Numerals.{add-one}
use native.Mathlib.Omega.{arith}
use lib.Dec.{eqb, ltb}
use lib.ListN.{length, take, drop, get_or, set, replicate, length-drop, length-set, length-replicate, drop_of_length-le}
use lib.Seq.{drop-cons, get_or-set_same, get_or-set_other, take-suc}
use borrow.Author.Tests.{eq-eqb, ne_eqb, lt-ltb, le-ltb, eqb-true}
use Rattle.standard.specs.Table.{Found as Located, located}
use Rattle.standard.proofs.General.{le-or-lt}
use Rattle.byte_string.specs.Strings.{end_of}
use Rattle.std.specs.Prelude.{Option, Some, None}
use Rattle.std.specs.Option.{is_some}
use Rattle.std.specs.declared.ops.Range.{Range}
use Rattle.table.specs.Lines.{starts, found_is, no_row, row_at, row_in}
use Rattle.table.specs.Search.{Opens, row_from}
use Rattle.table.specs.Hints.{slot_step, slot_from, slot_of, place_of, hint_at, Blank, RowAt, OpensIs, Seen, Right, Leads, Hinted, hint_of}
use Rattle.byte_string.proofs.Ends.{end_ge, end-le}
use Rattle.table.proofs.Lines.{row-start, row-past, row-miss, row-hit, row_room}
use Rattle.table.proofs.Searches.{Cmp, lt, eq, gt, cmp, clash, end-in, end-byte, end-opens}

-- The first row with the key from the line at i on, if there is one.
pub record First (t key : List ℕ) (i q : ℕ) : Type 0 where
  pub low : i ≤ q
  pub row : RowAt t key q
  pub found : row_from t key i ≡ row_at (q + length key + 1) (end_of 10 t q - (q + length key + 1))
  pub first : (p : ℕ) → i ≤ p → RowAt t key p → q ≤ p

pub record Without (t key : List ℕ) (i : ℕ) : Type 0 where
  pub found : row_from t key i ≡ no_row
  pub none : (p : ℕ) → i ≤ p → RowAt t key p → ⊥

module _ (t key : List ℕ) where
  abbrev Rows : ℕ → Type 0
  Rows i = ((q : ℕ) × First t key i q) ⊎ Without t key i

  rows-past : (i : ℕ) → length t ≤ i → Rows i
  rows-past i h = inr (record { found = row-past t key i h; none = λ p g r. let k = r.inside in omega arith })

  -- a row behind the line at i starts behind its end
  behind : (i p : ℕ) → i < p → RowAt t key p → end_of 10 t i + 1 ≤ p
  behind i p h r = let k = end-in t i p h (let g = r.inside in omega arith) r.opens in omega arith

  rows-hit : (i : ℕ) → i < length t → Opens t i → starts (key ++ (9 ∷ [])) (take (end_of 10 t i - i) (drop i t)) ≡ true → Rows i
  rows-hit i h o s = inl (i, record { low = omega arith; row = record { opens = o; inside = h; begins = s }; found = row-hit t key i (end_of 10 t i) refl h s; first = λ p g r. g })

  rows-miss : (i : ℕ) → i < length t → starts (key ++ (9 ∷ [])) (take (end_of 10 t i - i) (drop i t)) ≡ false → Rows (end_of 10 t i + 1) → Rows i
  rows-miss i h s next = ⊎_elim (λ f. inl (f.0, hit f.0 f.1)) (λ w. inr (miss w)) next
    where
      later : (p : ℕ) → i ≤ p → RowAt t key p → end_of 10 t i + 1 ≤ p
      later p g r = go (cmp i p)
        where
          go : Cmp i p → end_of 10 t i + 1 ≤ p
          go (lt k) = behind i p k r
          go (eq k) = absurd (clash (rw (sym k) at r.begins) s)
          go (gt k) = absurd (omega arith)

      hit : (q : ℕ) → First t key (end_of 10 t i + 1) q → First t key i q
      hit q f = record {
        low = let a = f.low in let b = end_ge 10 t i (omega arith) in omega arith;
        row = f.row;
        found = row-miss t key i (end_of 10 t i) refl h s ∙ f.found;
        first = λ p g r. f.first p (later p g r) r;
      }

      miss : Without t key (end_of 10 t i + 1) → Without t key i
      miss w = record { found = row-miss t key i (end_of 10 t i) refl h s ∙ w.found; none = λ p g r. w.none p (later p g r) r }

  rows-from : (n i : ℕ) → length t ≤ i + n → Opens t i → Rows i
  rows-from zero i h o = rows-past i (omega arith)
  rows-from (suc n) i h o =
      ⊎_elim (rows-past i)
      (λ g. go (rows-from n (end_of 10 t i + 1) (let b = end_ge 10 t i (omega arith) in omega arith)) g (starts (key ++ (9 ∷ [])) (take (end_of 10 t i - i) (drop i t))) refl)
      (le-or-lt (length t) i)
    where
      go : (Opens t (end_of 10 t i + 1) → Rows (end_of 10 t i + 1)) → i < length t → (b : Bool) → starts (key ++ (9 ∷ [])) (take (end_of 10 t i - i) (drop i t)) ≡ b → Rows i
      go next g true s = rows-hit i g o s
      go next g false s = rows-miss i g s (⊎_elim (λ k. rows-past (end_of 10 t i + 1) (omega arith)) (λ k. next (end-opens t i k)) (le-or-lt (length t) (end_of 10 t i)))

  rows_all : Rows 0
  rows_all = rows-from (length t) 0 (omega arith) refl

  -- What a hint answers.
  module _ (v : ℕ) (leads : Leads t key v) where
    -- no row where every row would be somewhere that has none
    none-at : ((q : ℕ) → RowAt t key q → ⊥) → no_row ≡ located t key
    none-at never = sym (row-start t key ∙ ⊎_elim (λ f. absurd (never f.0 f.1.row)) (λ w. w.found) rows_all)

    pub hint-none : v ≡ 0 → no_row ≡ located t key
    hint-none e = none-at (λ q r. let z = (leads.right q r).alone (omega arith) in omega arith)

    pub hint-alone : (f : Located) → 0 < v → v < 32768 → Seen t key (v - 1) f → f ≡ located t key
    hint-alone f h g s = go f.found refl
      where
        go : (b : Bool) → f.found ≡ b → f ≡ located t key
        go true e = (s.yes e).1 ∙ sym (row-start t key ∙ ⊎_elim (λ x. x.1.found ∙ same x.0 ((leads.right x.0 x.1.row).alone g)) (λ w. absurd (w.none (v - 1) zero-le (s.yes e).0)) rows_all)
          where
            same : (q : ℕ) → v ≡ suc q → row_at (q + length key + 1) (end_of 10 t q - (q + length key + 1)) ≡ row_at (v - 1 + length key + 1) (end_of 10 t (v - 1) - (v - 1 + length key + 1))
            same q z = let y : q ≡ v - 1 = omega arith in ap (λ (p : ℕ). row_at (p + length key + 1) (end_of 10 t p - (p + length key + 1))) y
        go false e = (s.no e).1 ∙ none-at (λ q r. (s.no e).0 (let z = (leads.right q r).alone g in let y : q ≡ v - 1 = omega arith in rw y at r))

    pub hint-shared : (f : Located) → 32768 ≤ v → v < 65535 → Seen t key (v - 32768) f → f.found ≡ true → f ≡ located t key
    hint-shared f h g s e = (s.yes e).1 ∙ sym (row-start t key ∙ ⊎_elim (λ x. x.1.found ∙ same x.0 (x.1.first (v - 32768) zero-le (s.yes e).0) ((leads.right x.0 x.1.row).shared h g)) (λ w. absurd (w.none (v - 32768) zero-le (s.yes e).0)) rows_all)
      where
        same : (q : ℕ) → q ≤ v - 32768 → v ≤ q + 32768
            → row_at (q + length key + 1) (end_of 10 t q - (q + length key + 1)) ≡ row_at (v - 32768 + length key + 1) (end_of 10 t (v - 32768) - (v - 32768 + length key + 1))
        same q y z = let y : q ≡ v - 32768 = omega arith in ap (λ (p : ℕ). row_at (p + length key + 1) (end_of 10 t p - (p + length key + 1))) y

-- an answer with a value is a yes
pub some-found : (f : Option (Range ℕ)) → is_some f ≡ true → (found_is f).found ≡ true
some-found None e = e
some-found (Some r) e = refl

-- The answers on the line at p.
module _ (t key : List ℕ) (p : ℕ) where
  pub seen_none : OpensIs t p false → Seen t key p no_row
  seen_none o = record { yes = λ e. absurd (clash e refl); no = λ e. (λ r. o.no refl r.opens r.inside, refl) }

  -- the answer on the line that starts there
  pub seen-line : (e : ℕ) → OpensIs t p true → e ≡ end_of 10 t p → (f : Located) → f ≡ row_in t key p e → Seen t key p f
  unfolding row_in
  seen-line e o q f r = rw r (go (starts (key ++ (9 ∷ [])) (take (e - p) (drop p t))) refl)
    where
      go : (b : Bool) → starts (key ++ (9 ∷ [])) (take (e - p) (drop p t)) ≡ b → Seen t key p (cond b (row_at (p + length key + 1) (e - (p + length key + 1))) no_row)
      go true s = record {
        yes = λ y. (record { opens = (o.yes refl).0; inside = (o.yes refl).1; begins = rw q at s }, ap (λ (z : ℕ). row_at (p + length key + 1) (z - (p + length key + 1))) q);
        no = λ n. absurd (clash refl n);
      }
      go false s = record { yes = λ e. absurd (clash e refl); no = λ e. (λ r. clash r.begins (rw q at s), refl) }

-- Filling. The loop over the bytes of a slot:
module _ (h : ℕ) (key : List ℕ) (i : ℕ) where
  pub slot-end : length key ≤ i → h ≡ slot_from h (drop i key)
  unfolding slot_from
  slot-end g = rw (drop_of_length-le key g)

  pub slot_next : (s : ℕ) → i < length key → s ≡ slot_step h (get_or key i 0) → slot_from h (drop i key) ≡ slot_from s (drop (i + 1) key)
  unfolding slot_from
  slot_next s g e = rw (add-one, drop-cons key i 0 g, e)

-- the slot of a key goes on from that of its beginning
pub slot-append : (h : ℕ) (a b : List ℕ) → slot_from h (a ++ b) ≡ slot_from (slot_from h a) b
unfolding slot_from
slot-append h [] b = refl
slot-append h (x ∷ a) b = slot-append (slot_step h x) a b

-- a row's key is the beginning of its line
starts-take : (key r l : List ℕ) → starts (key ++ r) l ≡ true → key ≡ take (length key) l
unfolding starts
starts-take [] r l e = refl
starts-take (x ∷ key) r [] e = absurd (clash e refl)
starts-take (x ∷ key) r (y ∷ l) e = go (starts-take key r l) (eqb x y) refl e
  where
    go : (starts (key ++ r) l ≡ true → key ≡ take (length key) l) → (b : Bool) → eqb x y ≡ b → cond b (starts (key ++ r) l) false ≡ true → x ∷ key ≡ y ∷ take (length key) l
    go i true f e = ap₂ ◌∷◌ (eqb-true x y f) (i e)
    go i false f e = absurd (clash e refl)

take-take : (n m : ℕ) (l : List ℕ) → n ≤ m → take n (take m l) ≡ take n l
take-take zero m l h = refl
take-take (suc n) zero l h = absurd (not-suc-le-zero h)
take-take (suc n) (suc m) [] h = refl
take-take (suc n) (suc m) (x ∷ l) h = ap (◌∷◌ x) (take-take n m l (le_of_suc-le-suc h))

starts-tab : (key l : List ℕ) → starts (key ++ (9 ∷ [])) l ≡ true → get_or l (length key) 0 ≡ 9
unfolding starts
starts-tab [] [] e = absurd (clash e refl)
starts-tab [] (y ∷ l) e = go (eqb 9 y) refl e
  where
    go : (b : Bool) → eqb 9 y ≡ b → cond b true false ≡ true → y ≡ 9
    go true f e = sym (eqb-true 9 y f)
    go false f e = absurd (clash e refl)
starts-tab (x ∷ key) [] e = absurd (clash e refl)
starts-tab (x ∷ key) (y ∷ l) e = go (starts-tab key l) (eqb x y) e
  where
    go : (starts (key ++ (9 ∷ [])) l ≡ true → get_or l (length key) 0 ≡ 9) → (b : Bool) → cond b (starts (key ++ (9 ∷ [])) l) false ≡ true → get_or l (length key) 0 ≡ 9
    go i true e = i e
    go i false e = absurd (clash e refl)

get_d_take : (n i : ℕ) (l : List ℕ) → i < n → get_or (take n l) i 0 ≡ get_or l i 0
get_d_take zero i l h = absurd (not-suc-le-zero h)
get_d_take (suc n) i [] h = refl
get_d_take (suc n) zero (x ∷ l) h = refl
get_d_take (suc n) (suc i) (x ∷ l) h = get_d_take n i l (le_of_suc-le-suc h)

get_d_drop : (p i : ℕ) (l : List ℕ) → get_or (drop p l) i 0 ≡ get_or l (p + i) 0
get_d_drop zero i l = ap (λ (j : ℕ). get_or l j 0) (let z : i ≡ 0 + i = omega arith in z)
get_d_drop (suc p) i [] = refl
get_d_drop (suc p) i (x ∷ l) = get_d_drop p i l ∙ ap (λ (j : ℕ). get_or (x ∷ l) j 0) (let z : suc (p + i) ≡ suc p + i = omega arith in z)

pub get_or-in : (l : List ℕ) (i a b : ℕ) → i < length l → get_or l i a ≡ get_or l i b
get_or-in [] i a b h = absurd (not-suc-le-zero h)
get_or-in (x ∷ l) zero a b h = refl
get_or-in (x ∷ l) (suc i) a b h = get_or-in l i a b (le_of_suc-le-suc h)

-- a row's tab and key by index
module _ (t key : List ℕ) (p : ℕ) (r : RowAt t key p) where
  row_fits : p + length key + 1 ≤ end_of 10 t p
  row_fits = row_room t key p (end_of 10 t p) (end_ge 10 t p (let i = r.inside in omega arith)) (end-le 10 t p) r.begins

  row-tab : get_or t (p + length key) 0 ≡ 9
  row-tab = sym (get_d_take (end_of 10 t p - p) (length key) (drop p t) (omega (arith, row_fits)) ∙ get_d_drop p (length key) t) ∙ starts-tab key (take (end_of 10 t p - p) (drop p t)) r.begins

  row-key : key ≡ take (length key) (drop p t)
  row-key = starts-take key (9 ∷ []) (take (end_of 10 t p - p) (drop p t)) r.begins ∙ take-take (length key) (end_of 10 t p - p) (drop p t) (omega (arith, row_fits))

-- a hint's place is not behind p
pub record Placed (v p : ℕ) : Type 0 where
  pub alone : v < 32768 → v ≤ suc p
  pub shared : v < 65535 → v ≤ p + 32768

placed-more : (v p q : ℕ) → p ≤ q → Placed v p → Placed v q
placed-more v p q h f = record { alone = λ g. let a = f.alone g in omega arith; shared = λ g. let a = f.shared g in omega arith }

-- what a slot's hint becomes
hint-cases : (P : ℕ → Type 0) (old p : ℕ) → (32766 < p → P 65535) → (p ≤ 32766 → old ≡ 0 → P (p + 1)) → (p ≤ 32766 → 0 < old → old < 32768 → P (old + 32767)) → (32768 ≤ old → P old) → P (hint_of old p)
unfolding hint_of
hint-cases P old p far new second more = ⊎_elim (λ h. near h) (λ h. rw (lt-ltb 32766 p h) (far h)) (le-or-lt p 32766)
  where
    near : p ≤ 32766 → P (cond (ltb 32766 p) 65535 (cond (eqb old 0) (p + 1) (cond (ltb old 32768) (old + 32767) old)))
    near h = rw (le-ltb 32766 p h) (go (cmp old 0) (le-or-lt 32768 old))
      where
        go : Cmp old 0 → (32768 ≤ old) ⊎ (old < 32768) → P (cond (eqb old 0) (p + 1) (cond (ltb old 32768) (old + 32767) old))
        go (lt k) l = absurd (not-suc-le-zero k)
        go (eq k) l = rw (eq-eqb old 0 k) (new h k)
        go (gt k) (inl l) = rw (ne_eqb old 0 (λ e. omega arith), le-ltb old 32768 l) (more l)
        go (gt k) (inr l) = rw (ne_eqb old 0 (λ e. omega arith), lt-ltb old 32768 l) (second h k l)

hint-placed : (old p : ℕ) → Placed old p → Placed (hint_of old p) p
hint-placed old p f = hint-cases (λ (v : ℕ). Placed v p) old p
    (λ h. record { alone = λ g. absurd (omega arith); shared = λ g. absurd (omega arith) })
    (λ h e. record { alone = λ g. omega arith; shared = λ g. omega arith })
    (λ h k l. let a = f.alone l in record { alone = λ g. omega arith; shared = λ g. omega arith })
    (λ l. f)

-- right for the row that it is made of
hint-own : (old p : ℕ) → Placed old p → Right (hint_of old p) p
hint-own old p f = hint-cases (λ (v : ℕ). Right v p) old p
    (λ h. record { alone = λ g. absurd (omega arith); shared = λ g k. absurd (omega arith) })
    (λ h e. record { alone = λ g. omega arith; shared = λ g k. omega arith })
    (λ h k l. let a = f.alone l in record { alone = λ g. absurd (omega arith); shared = λ g m. omega arith })
    (λ l. record { alone = λ g. absurd (omega arith); shared = λ g m. f.shared m })

-- and still for those before it
hint-before : (old p q : ℕ) → Right old q → Right (hint_of old p) q
hint-before old p q r = hint-cases (λ (v : ℕ). Right v q) old p
    (λ h. record { alone = λ g. absurd (omega arith); shared = λ g k. absurd (omega arith) })
    (λ h e. absurd (let a = r.alone (omega arith) in omega arith))
    (λ h k l. let a = r.alone l in record { alone = λ g. absurd (omega arith); shared = λ g m. omega arith })
    (λ l. r)

-- the hints are right for the keys that end before i, and slot is that of the line's bytes before i
pub record Filled (t hints : List ℕ) (start slot i : ℕ) : Type 0 where
  pub opens : Opens t start
  pub low : start ≤ i
  pub line : i ≤ end_of 10 t start
  pub mixed : slot ≡ slot_from 0 (take (i - start) (drop start t))
  pub placed : (s : ℕ) → Placed (get_or hints s 65535) start
  pub rows : (key : List ℕ) (p : ℕ) → RowAt t key p → p + length key < i → Right (hint_at hints (slot_of key)) p

-- hints that are all 0
zeros-at : (n s : ℕ) → ◌≡◌ {A = ℕ} (get_or (replicate n 0) s 0) 0
zeros-at zero s = refl
zeros-at (suc n) zero = refl
zeros-at (suc n) (suc s) = zeros-at n s

pub blank_of : (n : ℕ) → ((slot : ℕ) → slot < 16384 → place_of n slot < n) → Blank (replicate n 0)
blank_of n f = record { room = λ slot h. rw (length-replicate {0} {A = ℕ} n 0) (f slot h); zeros = zeros-at n }

-- where a slot's hint is
pub place-few : (n slot : ℕ) → n ≡ 1024 → slot % 1024 ≡ place_of n slot
unfolding place_of
place-few n slot e = rw (eq-eqb n 1024 e)

pub place-many : (n slot : ℕ) → (n ≡ 1024 → ⊥) → slot ≡ place_of n slot
unfolding place_of
place-many n slot f = rw (ne_eqb n 1024 f)

-- hints of the same length have room for every slot
pub room-same : (hints₀ hints : List ℕ) (slot at : ℕ) → Blank hints₀ → length hints ≡ length hints₀ → slot < 16384 → at ≡ place_of (length hints) slot → at < length hints
room-same hints₀ hints slot at b e h q = rw (q, e) (b.room slot h)

placed-blank : (hints : List ℕ) → ((s : ℕ) → get_or hints s 0 ≡ 0) → (s : ℕ) → Placed (get_or hints s 65535) 0
placed-blank [] h s = record { alone = λ g. absurd (omega arith); shared = λ g. absurd (omega arith) }
placed-blank (x ∷ hints) h zero = let a = h 0 in record { alone = λ g. omega arith; shared = λ g. omega arith }
placed-blank (x ∷ hints) h (suc s) = placed-blank hints (λ j. h (suc j)) s

pub fill_start : (t hints : List ℕ) → Blank hints → Filled t hints 0 0 0
unfolding slot_from
fill_start t hints b = record { opens = refl; low = zero-le; line = zero-le; mixed = refl; placed = placed-blank hints b.zeros; rows = λ key p r h. absurd (not-suc-le-zero h) }

pub fill_done : (t hints : List ℕ) (start slot i : ℕ) → Filled t hints start slot i → length t ≤ i → Hinted t hints
fill_done t hints start slot i f h = record { leads = λ key. record { right = λ p r. f.rows key p r (let a = row_fits t key p r in let b = end-le 10 t p in omega arith) } }

module _ (t hints : List ℕ) (start slot i : ℕ) (f : Filled t hints start slot i) (h : i < length t) (at : ℕ) (q : at ≡ place_of (length hints) slot) (g : at < length hints) where
  -- a key that ends at i is what the line holds before i
  own-start : (key : List ℕ) (p : ℕ) → RowAt t key p → p + length key ≡ i → p ≡ start
  own-start key p r e = go (cmp p start)
    where
      go : Cmp p start → p ≡ start
      go (lt k) = absurd (let a = end-in t p start k (let b = f.low in omega arith) f.opens in let c = row_fits t key p r in let d = f.low in omega arith)
      go (eq k) = k
      go (gt k) = absurd (let a = end-in t start p k (let b = r.inside in omega arith) r.opens in let c = f.line in omega arith)

  own-slot : (key : List ℕ) (p : ℕ) → RowAt t key p → p + length key ≡ i → slot_of key ≡ slot
  unfolding slot_of
  own-slot key p r e =
      let s = own-start key p r e in
      let n : length key ≡ i - start = omega arith in
      ap (slot_from 0) (row-key t key p r ∙ ap₂ (λ (m : ℕ) (q : ℕ). take m (drop q t)) n s) ∙ sym f.mixed

  -- at another byte the hints stay
  stay_rows : (get_or t i 0 ≡ 9 → ⊥) → (key : List ℕ) (p : ℕ) → RowAt t key p → p + length key < i + 1 → Right (hint_at hints (slot_of key)) p
  stay_rows b key p r k = go (cmp (p + length key) i)
    where
      go : Cmp (p + length key) i → Right (hint_at hints (slot_of key)) p
      go (lt l) = f.rows key p r l
      go (eq l) = absurd (b (ap (λ (j : ℕ). get_or t j 0) (sym l) ∙ row-tab t key p r))
      go (gt l) = absurd (omega arith)

  -- at a tab the slot's hint changes
  new : ℕ
  new = hint_of (get_or hints at 0) start

  at_place : (s : ℕ) → s ≡ at → get_or (set hints at new) s 65535 ≡ hint_of (get_or hints at 65535) start
  unfolding new
  at_place s e = ap (λ (j : ℕ). get_or (set hints at new) j 65535) e ∙ get_or-set_same hints at new 65535 g ∙ ap (λ (o : ℕ). hint_of o start) (get_or-in hints at 0 65535 g)

  places : (P : ℕ → Type 0) (s : ℕ) → (s ≡ at → P (hint_of (get_or hints at 65535) start)) → ((s ≡ at → ⊥) → P (get_or hints s 65535)) → P (get_or (set hints at new) s 65535)
  places P s same other = go (cmp s at)
    where
      away : (s ≡ at → ⊥) → P (get_or (set hints at new) s 65535)
      away d = rw (get_or-set_other hints at s new 65535 d) (other d)

      go : Cmp s at → P (get_or (set hints at new) s 65535)
      go (lt k) = away (λ e. omega arith)
      go (eq k) = rw (at_place s k) (same k)
      go (gt k) = away (λ e. omega arith)

  tab-placed : (s : ℕ) → Placed (get_or (set hints at new) s 65535) start
  tab-placed s = places (λ (v : ℕ). Placed v start) s (λ e. hint-placed (get_or hints at 65535) start (f.placed at)) (λ d. f.placed s)

  tab-rows : (key : List ℕ) (p : ℕ) → RowAt t key p → p + length key < i + 1 → Right (hint_at (set hints at new) (slot_of key)) p
  unfolding hint_at
  tab-rows key p r k = rw (length-set hints at new) (go (cmp (p + length key) i))
    where
      s : ℕ
      s = place_of (length hints) (slot_of key)

      go : Cmp (p + length key) i → Right (get_or (set hints at new) s 65535) p
      go (lt l) = places (λ (v : ℕ). Right v p) s (λ e. hint-before (get_or hints at 65535) start p (rw e at (f.rows key p r l))) (λ d. f.rows key p r l)
      go (eq l) = places (λ (v : ℕ). Right v p) s (λ e. rw (own-start key p r l) (hint-own (get_or hints at 65535) start (f.placed at))) (λ d. absurd (d (ap (place_of (length hints)) (own-slot key p r l) ∙ sym q)))
      go (gt l) = absurd (omega arith)

  -- the slot, past a byte of the line
  next-mixed : slot_step slot (get_or t i 0) ≡ slot_from 0 (take (i + 1 - start) (drop start t))
  unfolding slot_from
  next-mixed =
      let l = f.low in
      let n : i + 1 - start ≡ suc (i - start) = omega arith in
      let z : start + (i - start) ≡ i = omega arith in
      let w : i - start < length (drop start t) = rw length-drop (omega arith) in
      sym (ap (λ (m : ℕ). slot_from 0 (take m (drop start t))) n ∙ ap (slot_from 0) (take-suc (drop start t) (i - start) 0 w)
      ∙ slot-append 0 (take (i - start) (drop start t)) (get_or (drop start t) (i - start) 0 ∷ [])
      ∙ ap₂ slot_step (sym f.mixed) (get_d_drop start (i - start) t ∙ ap (λ (j : ℕ). get_or t j 0) z))

  -- the line goes on past a byte that does not end it
  next-line : (get_or t i 0 ≡ 10 → ⊥) → i + 1 ≤ end_of 10 t start
  next-line d = go (cmp i (end_of 10 t start))
    where
      go : Cmp i (end_of 10 t start) → i + 1 ≤ end_of 10 t start
      go (lt k) = omega arith
      go (eq k) = absurd (d (ap (λ (j : ℕ). get_or t j 0) k ∙ end-byte t start (rw k at h)))
      go (gt k) = absurd (let a = f.line in omega arith)

  step_line : get_or t i 0 ≡ 10 → Filled t hints (i + 1) 0 (i + 1)
  unfolding slot_from
  step_line e =
      let z : i + 1 - (i + 1) ≡ 0 = omega arith in
      record {
        opens = rw add-one e;
        low = omega arith;
        line = end_ge 10 t (i + 1) (omega arith);
        mixed = rw z;
        placed = λ s. placed-more (get_or hints s 65535) start (i + 1) (let l = f.low in omega arith) (f.placed s);
        rows = stay_rows (λ n. let y = sym e ∙ n in omega arith);
      }

  step-tab : get_or t i 0 ≡ 9 → Filled t (set hints at (hint_of (get_or hints at 0) start)) start (slot_step slot (get_or t i 0)) (i + 1)
  unfolding new
  step-tab e = record {
    opens = f.opens;
    low = let l = f.low in omega arith;
    line = next-line (λ n. let y = sym e ∙ n in omega arith);
    mixed = next-mixed;
    placed = tab-placed;
    rows = tab-rows;
  }

  step_other : (get_or t i 0 ≡ 10 → ⊥) → (get_or t i 0 ≡ 9 → ⊥) → Filled t hints start (slot_step slot (get_or t i 0)) (i + 1)
  step_other d n = record {
    opens = f.opens;
    low = let l = f.low in omega arith;
    line = next-line d;
    mixed = next-mixed;
    placed = f.placed;
    rows = stay_rows n;
  }

  -- the three, by what the code leaves
  module _ (hints₁ : List ℕ) (start₁ slot₁ : ℕ) where
    pub past-line : get_or t i 0 ≡ 10 → hints₁ ≡ hints → start₁ ≡ i + 1 → slot₁ ≡ 0 → Filled t hints₁ start₁ slot₁ (i + 1)
    past-line e x y z = rw (x, y, z) (step_line e)

    pub past-tab : get_or t i 0 ≡ 9 → hints₁ ≡ set hints at (hint_of (get_or hints at 0) start) → start₁ ≡ start → slot₁ ≡ slot_step slot (get_or t i 0) → Filled t hints₁ start₁ slot₁ (i + 1)
    past-tab e x y z = rw (x, y, z) (step-tab e)

    pub past-other : (get_or t i 0 ≡ 10 → ⊥) → (get_or t i 0 ≡ 9 → ⊥) → hints₁ ≡ hints → start₁ ≡ start → slot₁ ≡ slot_step slot (get_or t i 0) → Filled t hints₁ start₁ slot₁ (i + 1)
    past-other d n x y z = rw (x, y, z) (step_other d n)

-- the answers by cases
module _ (old p : ℕ) where
  pub hint-far : 32766 < p → 65535 ≡ hint_of old p
  unfolding hint_of
  hint-far h = rw (lt-ltb 32766 p h)

  pub hint-new : p ≤ 32766 → old ≡ 0 → p + 1 ≡ hint_of old p
  unfolding hint_of
  hint-new h e = rw (le-ltb 32766 p h, eq-eqb old 0 e)

  pub hint-second : p ≤ 32766 → (old ≡ 0 → ⊥) → old < 32768 → old + 32767 ≡ hint_of old p
  unfolding hint_of
  hint-second h e g = rw (le-ltb 32766 p h, ne_eqb old 0 e, lt-ltb old 32768 g)

  pub hint-more : p ≤ 32766 → 32768 ≤ old → old ≡ hint_of old p
  unfolding hint_of
  hint-more h g = rw (le-ltb 32766 p h, ne_eqb old 0 (λ e. omega arith), le-ltb old 32768 g)

get_d_past : (l : List ℕ) (i : ℕ) → length l ≤ i → 65535 ≡ get_or l i 65535
get_d_past [] i h = refl
get_d_past (x ∷ l) zero h = absurd (not-suc-le-zero h)
get_d_past (x ∷ l) (suc i) h = get_d_past l i (le_of_suc-le-suc h)

-- a slot's hint, by its place
module _ (hints : List ℕ) (slot at : ℕ) (e : at ≡ place_of (length hints) slot) where
  pub hint-missing : length hints ≤ at → 65535 ≡ hint_at hints slot
  unfolding hint_at
  hint-missing h = rw (← e) (get_d_past hints at h)

  pub hint-there : at < length hints → get_or hints at 0 ≡ hint_at hints slot
  unfolding hint_at
  hint-there h = rw (← e) (get_or-in hints at 0 65535 h)

-- a key's hint, by its slot
pub leads-at : (t hints key : List ℕ) (s v : ℕ) → Hinted t hints → s ≡ slot_from 0 key → v ≡ hint_at hints s → Leads t key v
unfolding slot_of
leads-at t hints key s v h e f = rw (f, e) (h.leads key)

-- Missing hints say nothing.
pub hinted-empty : (t : List ℕ) → Hinted t []
unfolding hint_at
hinted-empty t = record { leads = λ key. record { right = λ p r. record { alone = λ h. absurd (omega arith); shared = λ h g. absurd (omega arith) } } }
