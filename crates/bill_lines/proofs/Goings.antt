-- One line more: the bill goes on, or is refused for good. Assumes nothing.
use mathlib.Core.Path.{◌≡◌, refl, sym, ap, ◌∙◌, subst}
use mathlib.Core.Bool.{Bool, true, false, not}
use mathlib.Core.Logic.{inl, inr}
use mathlib.Core.List.{List, [], ◌∷◌, ◌++◌, map, reverse_aux, append_assoc, append-nil}
use mathlib.Core.Option.{Option, none, some}
use Prim.Native.Nat.{ℕ, zero, suc, ◌+◌, ◌-◌, ◌≤◌, ◌<◌}
use native.Mathlib.Omega.{arith}
use lib.Dec.{ltb}
use lib.ListN.{length, take, length-append}
use lib.Seq.{take-append_seam}
use borrow.Author.Tests.{lt-ltb, le-ltb}
use Rattle.standard.specs.Tag.{Tag}
use Rattle.standard.specs.Identifier.{Tables}
use Rattle.standard.specs.Delivery.{Bytes}
use Rattle.bill_rules.specs.Order.{Reordered, kept, swapped, again}
use Rattle.bill_rules.specs.Bill.{Usage, usage, accepted, usages, refusing, refusals, keys_of, more, refused_with, most_keys, most_lines, bill_of}
use Rattle.bill_rules.proofs.Keys.{elem, different, sorted-length}
use Rattle.bill_rules.proofs.Orders.{reordered-refl, keys-order, usages-order, refusals-order, length-order}
use Rattle.bill_ledger.specs.Entries.{Entry, add_to}
use Rattle.bill_ledger.specs.Places.{entries_from}
use Rattle.bill_ledger.specs.Ledger.{entries_of}
use Rattle.bill_ledger.specs.Up.{Up, Few, Added}
use Rattle.bill_ledger.proofs.Changes.{length-entries}
use Rattle.bill_ledger.proofs.Ledgers.{add-entries, entries-up, entries-few, entries-length}
use Rattle.std.specs.Prelude.{Some, None}
use Rattle.bill_lines.specs.declared.Counts.{Counts}
use Rattle.bill_lines.specs.declared.line.Used.{Used}
use Rattle.bill_lines.specs.State.{used_is, Bounded, only, one_more, Going, Good}

-- the latest line first
back_last : (ls : List Bytes) (l : Bytes) (rs : List Bytes) → reverse_aux (ls ++ (l ∷ [])) rs ≡ l ∷ reverse_aux ls rs
back_last [] l rs = refl
back_last (m ∷ ls) l rs = back_last ls l (m ∷ rs)

moved : {A : Type 0} (xs : List A) (y : A) (ys : List A) → Reordered (xs ++ (y ∷ ys)) (y ∷ (xs ++ ys))
moved [] y ys = reordered-refl (y ∷ ys)
moved (x ∷ xs) y ys = again _ _ _ (kept x (xs ++ (y ∷ ys)) (y ∷ (xs ++ ys)) (moved xs y ys)) (swapped x y (xs ++ ys))

back-order : (xs rs : List Bytes) → Reordered (reverse_aux xs rs) (xs ++ rs)
back-order [] rs = reordered-refl rs
back-order (x ∷ xs) rs = again _ _ _ (back-order xs (x ∷ rs)) (moved xs x rs)

pub back-reordered : (ls : List Bytes) → Reordered (reverse_aux ls []) ls
back-reordered ls = subst (λ (x : List Bytes). Reordered (reverse_aux ls []) x) (append-nil ls) (back-order ls [])

unmoved : {A : Type 0} (xs : List A) (y : A) (ys : List A) → Reordered (y ∷ (xs ++ ys)) (xs ++ (y ∷ ys))
unmoved [] y ys = reordered-refl (y ∷ ys)
unmoved (x ∷ xs) y ys = again _ _ _ (swapped y x (xs ++ ys)) (kept x (y ∷ (xs ++ ys)) (xs ++ (y ∷ ys)) (unmoved xs y ys))

turned : {A : Type 0} (xs ys : List A) → Reordered (xs ++ ys) (ys ++ xs)
turned [] ys = subst (λ (x : List _). Reordered ys x) (sym (append-nil ys)) (reordered-refl ys)
turned (x ∷ xs) ys = again _ _ _ (kept x (xs ++ ys) (ys ++ xs) (turned xs ys)) (unmoved ys x xs)

usages-append : (T : Tables) (ls ms : List Bytes) → usages T (ls ++ ms) ≡ usages T ls ++ usages T ms
unfolding usages accepted
usages-append T [] ms = refl
usages-append T (l ∷ ls) ms = go (usage T l) (usages-append T ls ms)
  where
    go : (o : Option Usage) → usages T (ls ++ ms) ≡ usages T ls ++ usages T ms → accepted o (usages T (ls ++ ms)) ≡ accepted o (usages T ls) ++ usages T ms
    go none e = e
    go (some u) e = ap (λ (x : List Usage). u ∷ x) e

-- more lines have no fewer keys
different-behind : (xs ys : List Tag) → different ys ≤ different (xs ++ ys)
unfolding different more
different-behind [] ys = omega arith
different-behind (x ∷ xs) ys = go (not (elem x (xs ++ ys))) (different-behind xs ys)
  where
    go : (b : Bool) → different ys ≤ different (xs ++ ys) → different ys ≤ more b (different (xs ++ ys))
    go true h = omega arith
    go false h = h

map-append : (us vs : List Usage) → map (λ (u : Usage). u.key) (us ++ vs) ≡ map (λ (u : Usage). u.key) us ++ map (λ (u : Usage). u.key) vs
map-append [] vs = refl
map-append (u ∷ us) vs = ap (λ (x : List Tag). u.key ∷ x) (map-append us vs)

keys-more : (us vs : List Usage) → length (keys_of us) ≤ length (keys_of (us ++ vs))
unfolding keys_of
keys-more us vs =
    let a = sorted-length (map (λ (u : Usage). u.key) us) in
    let b = ap length (keys-order (turned us vs)) ∙ sorted-length (map (λ (u : Usage). u.key) (vs ++ us)) ∙ ap different (map-append vs us) in
    let c = different-behind (map (λ (u : Usage). u.key) vs) (map (λ (u : Usage). u.key) us) in
    omega (arith, a, b, c)

take-front : {A : Type 0} (n : ℕ) (xs ys : List A) → length xs ≤ n → take n (xs ++ ys) ≡ xs ++ take (n - length xs) ys
take-front n [] ys h = ap (λ (m : ℕ). take m ys) (let z : n ≡ n - 0 = omega arith in z)
take-front zero (x ∷ xs) ys h = absurd (omega arith)
take-front (suc n) (x ∷ xs) ys h = ap (λ (z : List _). x ∷ z) (take-front n xs ys (omega arith) ∙ ap (λ (m : ℕ). xs ++ take m ys) (let z : n - length xs ≡ suc n - suc (length xs) = omega arith in z))

last-length : (ls : List Bytes) (l : Bytes) → length (ls ++ (l ∷ [])) ≡ length ls + 1
last-length ls l = length-append ls (l ∷ [])

refusals-last : (T : Tables) (ls : List Bytes) (l : Bytes) → refusals T (ls ++ (l ∷ [])) ≡ more (refusing (usage T l)) (refusals T ls)
unfolding refusals
refusals-last T ls l = refusals-order T (moved ls l []) ∙ ap (λ (x : List Bytes). more (refusing (usage T l)) (refusals T x)) (append-nil ls)

module _ (T : Tables) (ls : List Bytes) (c : Counts) (ks : Bytes) (cs : List ℕ) (g : Going T ls c ks cs) (l : Bytes) where
  abbrev us : List Usage
  us = usages T (reverse_aux ls [])

  abbrev es : List Entry
  es = entries_from ks cs 0 c.keys

  few-usages : (ms : List Bytes) → length (usages T ms) ≤ length ms
  unfolding usages accepted
  few-usages [] = omega arith
  few-usages (m ∷ ms) = go (usage T m) (few-usages ms)
    where
      go : (o : Option Usage) → length (usages T ms) ≤ length ms → length (accepted o (usages T ms)) ≤ suc (length ms)
      go none h = omega arith
      go (some u) h = omega arith

  pub going-up : Up es
  going-up = subst Up (sym g.entries) (entries-up us)

  pub going-few : c.lines < 1000000 → Few es
  going-few h = subst Few (sym g.entries) (entries-few us (let a = few-usages (reverse_aux ls []) in let b = length-order (back-reordered ls) in omega (arith, a, b, g.lines, h)))

  keys-count : length (keys_of (usages T ls)) ≡ c.keys
  keys-count = sym (ap length (keys-order (usages-order T (back-reordered ls)))) ∙ sym (entries-length us) ∙ sym (ap length g.entries) ∙ length-entries ks cs 0 c.keys

  -- 18 at line 1,000,001
  pub line-18 : 1000000 ≤ c.lines → Good T (ls ++ (l ∷ [])) (only 18 0 0) ks cs
  unfolding Good only bill_of most_lines most_keys
  line-18 h = inr (record { number = omega arith; alone = refl; bill = λ ms. by ms })
    where
      by : (ms : List Bytes) → bill_of T ((ls ++ (l ∷ [])) ++ ms) ≡ refused_with 18
      by ms =
          let n : 1000000 ≡ length ls = omega (arith, g.lines, g.most-lines) in
          let a : take 1000000 ((ls ++ (l ∷ [])) ++ ms) ≡ ls = ap (take 1000000) (append_assoc ls (l ∷ []) ms) ∙ ap (λ (k : ℕ). take k (ls ++ (l ∷ ms))) n ∙ take-append_seam ls (l ∷ ms) in
          let b : ltb 512 (length (keys_of (usages T (take 1000000 ((ls ++ (l ∷ [])) ++ ms))))) ≡ false = le-ltb 512 (length (keys_of (usages T (take 1000000 ((ls ++ (l ∷ [])) ++ ms))))) (rw a (omega (arith, keys-count, g.most-keys))) in
          let d : 1000000 < length ((ls ++ (l ∷ [])) ++ ms) = (let y = length-append (ls ++ (l ∷ [])) ms in let z = last-length ls l in omega (arith, y, z, n)) in
          rw (b, lt-ltb 1000000 (length ((ls ++ (l ∷ [])) ++ ms)) d)

  -- a refused line
  pub line_refused : c.lines < 1000000 → usage T l ≡ none → Good T (ls ++ (l ∷ [])) (one_more c c.keys (c.refused + 1)) ks cs
  unfolding Good one_more usages accepted refusing more
  line_refused h e = inl (record {
    number = g.number;
    table = g.table;
    place = g.place;
    lines = omega (arith, g.lines, last-length ls l);
    most-lines = omega (arith, h);
    refused = (let z : c.refused + 1 ≡ suc (refusals T ls) = omega (arith, g.refused) in z) ∙ sym (refusals-last T ls l ∙ ap (λ (o : Option Usage). more (refusing o) (refusals T ls)) e);
    most-keys = g.most-keys;
    entries = g.entries ∙ ap entries_of (sym (ap (usages T) (back_last ls l []) ∙ ap (λ (o : Option Usage). accepted o us) e));
  })

  -- an accepted one
  module _ (u : Usage) (ks' : Bytes) (cs' : List ℕ) (r : ℕ) (e : usage T l ≡ some u) (a : Added u es ks' cs' r) where
    with_it : add_to u es ≡ entries_of (usages T (reverse_aux (ls ++ (l ∷ [])) []))
    unfolding usages accepted
    with_it = ap (add_to u) g.entries ∙ sym (add-entries u us) ∙ ap entries_of (sym (ap (usages T) (back_last ls l []) ∙ ap (λ (o : Option Usage). accepted o us) e))

    pub line-added : c.lines < 1000000 → r ≤ 512 → Good T (ls ++ (l ∷ [])) (one_more c r c.refused) ks' cs'
    unfolding Good one_more refusing more
    line-added h k = inl (record {
      number = g.number;
      table = g.table;
      place = g.place;
      lines = omega (arith, g.lines, last-length ls l);
      most-lines = omega (arith, h);
      refused = g.refused ∙ sym (refusals-last T ls l ∙ ap (λ (o : Option Usage). more (refusing o) (refusals T ls)) e);
      most-keys = k;
      entries = a.entries k ∙ with_it;
    })

    -- 17 at the 513th key
    pub line-17 : c.lines < 1000000 → 512 < r → Good T (ls ++ (l ∷ [])) (only 17 0 0) ks' cs'
    unfolding Good only bill_of most_lines most_keys
    line-17 h k = inr (record { number = omega arith; alone = refl; bill = λ ms. by ms })
      where
        by : (ms : List Bytes) → bill_of T ((ls ++ (l ∷ [])) ++ ms) ≡ refused_with 17
        by ms =
            let ns = ls ++ (l ∷ []) in
            let n : r ≡ length (keys_of (usages T ns)) = a.count ∙ ap length with_it ∙ entries-length (usages T (reverse_aux ns [])) ∙ ap length (keys-order (usages-order T (back-reordered ns))) in
            let f : take 1000000 (ns ++ ms) ≡ ns ++ take (1000000 - length ns) ms = take-front 1000000 ns ms (omega (arith, g.lines, last-length ls l, h)) in
            let m = keys-more (usages T ns) (usages T (take (1000000 - length ns) ms)) in
            let q : length (keys_of (usages T (take 1000000 (ns ++ ms)))) ≡ length (keys_of (usages T ns ++ usages T (take (1000000 - length ns) ms))) =
            ap (λ (x : List Bytes). length (keys_of (usages T x))) f ∙ ap (λ (x : List Usage). length (keys_of x)) (usages-append T ns (take (1000000 - length ns) ms)) in
            rw (lt-ltb 512 (length (keys_of (usages T (take 1000000 (ns ++ ms))))) (omega (arith, n, m, q, k)))

-- the counts stay bounded
pub bounded-only : (r : Counts) (n p t : ℕ) → r ≡ only n p t → Bounded r
unfolding only
bounded-only r n p t e = subst Bounded (sym e) (record { keys = omega arith; lines = omega arith; refused = omega arith })

pub bounded-more : (c : Counts) (k r : ℕ) → Bounded c → c.lines < 1000000 → k ≤ 512 → r ≤ c.refused + 1 → Bounded (one_more c k r)
unfolding one_more
bounded-more c k r b h p q = record { keys = p; lines = omega (arith, h); refused = omega (arith, b.refused, q) }

-- the same, of the code's results
module _ (T : Tables) (ls : List Bytes) (c : Counts) (ks : Bytes) (cs : List ℕ) (l : Bytes) (g : Going T ls c ks cs) (r : Counts) where
  pub at-18 : r ≡ only 18 0 0 → 1000000 ≤ c.lines → Good T (ls ++ (l ∷ [])) r ks cs
  at-18 e h = subst (λ (q : Counts). Good T (ls ++ (l ∷ [])) q ks cs) (sym e) (line-18 T ls c ks cs g l h)

  pub at-refused : (out : Bytes) → r ≡ one_more c c.keys (c.refused + 1) → c.lines < 1000000 → used_is None out ≡ usage T l → Good T (ls ++ (l ∷ [])) r ks cs
  at-refused out e h f = subst (λ (q : Counts). Good T (ls ++ (l ∷ [])) q ks cs) (sym e) (line_refused T ls c ks cs g l h (sym f))

  module _ (u : Used) (out : Bytes) (f : used_is (Some u) out ≡ usage T l) (h : c.lines < 1000000) (ks' : Bytes) (cs' : List ℕ) (n : ℕ)
      (a : Up (entries_from ks cs 0 c.keys) → Few (entries_from ks cs 0 c.keys) → Added (record { member = u.member; key = take u.len out }) (entries_from ks cs 0 c.keys) ks' cs' n) where
    used : Usage
    used = record { member = u.member; key = take u.len out }

    use-it : usage T l ≡ some used
    unfolding used
    use-it = sym f

    it-is : Added used (entries_from ks cs 0 c.keys) ks' cs' n
    unfolding used
    it-is = a (going-up T ls c ks cs g l) (going-few T ls c ks cs g l h)

    pub at-17 : r ≡ only 17 0 0 → 512 < n → Good T (ls ++ (l ∷ [])) r ks' cs'
    at-17 e k = subst (λ (q : Counts). Good T (ls ++ (l ∷ [])) q ks' cs') (sym e) (line-17 T ls c ks cs g l used ks' cs' n use-it it-is h k)

    pub at_added : r ≡ one_more c n c.refused → n ≤ 512 → Good T (ls ++ (l ∷ [])) r ks' cs'
    at_added e k = subst (λ (q : Counts). Good T (ls ++ (l ∷ [])) q ks' cs') (sym e) (line-added T ls c ks cs g l used ks' cs' n use-it it-is h k)

pub more-bounded : (c r : Counts) (k m : ℕ) → r ≡ one_more c k m → Bounded c → c.lines < 1000000 → k ≤ 512 → m ≤ c.refused + 1 → Bounded r
more-bounded c r k m e b h p q = subst Bounded (sym e) (bounded-more c k m b h p q)
