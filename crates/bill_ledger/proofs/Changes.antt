-- Laws of entries after one has changed, or one more has come. Assumes nothing.
use mathlib.Core.Path.{◌≡◌, refl, sym, ap, ap₂, ◌∙◌}
use mathlib.Core.Bool.{Bool, true, false}
use mathlib.Core.List.{List, [], ◌∷◌}
use Prim.Native.Nat.{ℕ, zero, suc, ◌+◌, ◌*◌, ◌≤◌, ◌<◌}
use native.Mathlib.Omega.{arith}
use lib.Bits.{bit_or}
use lib.ListN.{get_or, length, set, length-set}
use lib.Seq.{get_or-set_same, get_or-set_other}
use Rattle.standard.specs.Tag.{Tag, same}
use Rattle.standard.specs.Delivery.{Bytes}
use Rattle.bill_rules.specs.Bill.{Usage}
use Rattle.bill_ledger.specs.Entries.{Entry, mark_of, fresh, again, add_to, place_in, insert_at, change_at, hit_at}
use Rattle.bill_ledger.specs.Places.{text_at, entry_at, entries_from, KeyMore, CountsMore}
use Rattle.bill_ledger.specs.Up.{Few, Added}
use Rattle.bill_ledger.proofs.Adding.{add-hit, add-miss}

pub hit-in : (ks : Bytes) (cs : List ℕ) (k : Tag) (at i n : ℕ) → at < n → hit_at k at (entries_from ks cs i n) ≡ same (text_at ks (i + at)) k
unfolding entries_from hit_at entry_at
hit-in ks cs k at i zero h = absurd (omega arith)
hit-in ks cs k zero i (suc n) h = ap (λ (j : ℕ). same (text_at ks j) k) (let z : i ≡ i + 0 = omega arith in z)
hit-in ks cs k (suc at) i (suc n) h = hit-in ks cs k at (suc i) n (omega arith) ∙ ap (λ (j : ℕ). same (text_at ks j) k) (let z : suc i + at ≡ i + suc at = omega arith in z)

pub hit-out : (ks : Bytes) (cs : List ℕ) (k : Tag) (at i n : ℕ) → n ≤ at → hit_at k at (entries_from ks cs i n) ≡ false
unfolding entries_from hit_at
hit-out ks cs k at i zero h = refl
hit-out ks cs k zero i (suc n) h = absurd (omega arith)
hit-out ks cs k (suc at) i (suc n) h = hit-out ks cs k at (suc i) n (omega arith)

pub few-at : (ks : Bytes) (cs : List ℕ) (at i n : ℕ) → at < n → Few (entries_from ks cs i n) → get_or cs (2 * (i + at) + 1) 0 < 1000000
unfolding entries_from Few entry_at
few-at ks cs at i zero h f = absurd (omega arith)
few-at ks cs zero i (suc n) h f = rw (let z : i + 0 ≡ i = omega arith in z) f.0
few-at ks cs (suc at) i (suc n) h f = rw (let z : i + suc at ≡ suc i + at = omega arith in z) (few-at ks cs at (suc i) n (omega arith) f.1)

-- entries that are the same, or the same one further
entries-same : (ks ls : Bytes) (cs ds : List ℕ) (i j n : ℕ) → ((k : ℕ) → k < n → entry_at ls ds (j + k) ≡ entry_at ks cs (i + k)) → entries_from ls ds j n ≡ entries_from ks cs i n
unfolding entries_from
entries-same ks ls cs ds i j zero f = refl
entries-same ks ls cs ds i j (suc n) f =
    ap₂ (λ (e : Entry) (es : List Entry). e ∷ es)
    (ap (entry_at ls ds) (let z : j ≡ j + 0 = omega arith in z) ∙ f 0 (omega arith) ∙ ap (entry_at ks cs) (let z : i + 0 ≡ i = omega arith in z))
    (entries-same ks ls cs ds (suc i) (suc j) n (λ k h. ap (entry_at ls ds) (let z : suc j + k ≡ j + suc k = omega arith in z) ∙ f (suc k) (omega arith) ∙ ap (entry_at ks cs) (let z : i + suc k ≡ suc i + k = omega arith in z)))

-- one changed
entries-change : (ks : Bytes) (cs ds : List ℕ) (f : Entry → Entry) (at i n : ℕ) → at < n → entry_at ks ds (i + at) ≡ f (entry_at ks cs (i + at)) → ((k : ℕ) → (k ≡ i + at → ⊥) → entry_at ks ds k ≡ entry_at ks cs k)
    → entries_from ks ds i n ≡ change_at at f (entries_from ks cs i n)
unfolding entries_from change_at
entries-change ks cs ds f at i zero h e g = absurd (omega arith)
entries-change ks cs ds f zero i (suc n) h e g =
    let z : i + 0 ≡ i = omega arith in
    ap₂ (λ (x : Entry) (es : List Entry). x ∷ es) (ap (entry_at ks ds) (sym z) ∙ e ∙ ap (λ (j : ℕ). f (entry_at ks cs j)) z)
    (entries-same ks ks cs ds (suc i) (suc i) n (λ k q. g (suc i + k) (λ (w : suc i + k ≡ i + 0). omega arith)))
entries-change ks cs ds f (suc at) i (suc n) h e g =
    let z : i + suc at ≡ suc i + at = omega arith in
    ap₂ (λ (x : Entry) (es : List Entry). x ∷ es) (g i (λ (w : i ≡ i + suc at). omega arith))
    (entries-change ks cs ds f at (suc i) n (omega arith) (ap (entry_at ks ds) (sym z) ∙ e ∙ ap (λ (j : ℕ). f (entry_at ks cs j)) z) (λ k q. g k (λ (w : k ≡ i + suc at). q (w ∙ z))))

-- one more
entries-insert : (ks ls : Bytes) (cs ds : List ℕ) (x : Entry) (at i n : ℕ) → at ≤ n → entry_at ls ds (i + at) ≡ x → ((k : ℕ) → k < i + at → entry_at ls ds k ≡ entry_at ks cs k) → ((k : ℕ) → i + at ≤ k → k < i + n → entry_at ls ds (suc k) ≡ entry_at ks cs k)
    → entries_from ls ds i (suc n) ≡ insert_at at x (entries_from ks cs i n)
unfolding entries_from insert_at
entries-insert ks ls cs ds x zero i n h e f g =
    ap₂ (λ (y : Entry) (es : List Entry). y ∷ es) (ap (entry_at ls ds) (let z : i ≡ i + 0 = omega arith in z) ∙ e)
    (entries-same ks ls cs ds i (suc i) n (λ k q. ap (entry_at ls ds) (let z : suc i + k ≡ suc (i + k) = omega arith in z) ∙ g (i + k) (omega arith) (omega arith)))
entries-insert ks ls cs ds x (suc at) i zero h e f g = absurd (omega arith)
entries-insert ks ls cs ds x (suc at) i (suc n) h e f g =
    let z : i + suc at ≡ suc i + at = omega arith in
    ap₂ (λ (y : Entry) (es : List Entry). y ∷ es) (f i (omega arith))
    (entries-insert ks ls cs ds x at (suc i) n (omega arith) (ap (entry_at ls ds) (sym z) ∙ e) (λ k q. f k (omega arith)) (λ k p q. g k (omega arith) (omega arith)))

-- the counts of one entry changed
pub changed : (ks : Bytes) (cs : List ℕ) (u : Usage) (at n m d : ℕ) → at < 512 → length cs ≡ 1024 → m ≡ mark_of u.member → at < n → Few (entries_from ks cs 0 n)
    → (get_or (set cs (2 * at) (bit_or (get_or cs (2 * at) 0) m)) (2 * at + 1) 0 < 1000000 → d ≡ get_or (set cs (2 * at) (bit_or (get_or cs (2 * at) 0) m)) (2 * at + 1) 0 + 1)
    → entries_from ks (set (set cs (2 * at) (bit_or (get_or cs (2 * at) 0) m)) (2 * at + 1) d) 0 n ≡ change_at at (again u) (entries_from ks cs 0 n)
unfolding entry_at again
changed ks cs u at n m d q s e h f g =
    let z : 0 + at ≡ at = omega arith in
    let bs = set cs (2 * at) (bit_or (get_or cs (2 * at) 0) m) in
    let old : get_or bs (2 * at + 1) 0 ≡ get_or cs (2 * at + 1) 0 = get_or-set_other cs (2 * at) (2 * at + 1) (bit_or (get_or cs (2 * at) 0) m) 0 (λ (w : 2 * at + 1 ≡ 2 * at). omega arith) in
    let few : get_or cs (2 * at + 1) 0 < 1000000 = rw z at (few-at ks cs at 0 n h f) in
    let made : d ≡ get_or cs (2 * at + 1) 0 + 1 = g (rw old few) ∙ ap (λ (x : ℕ). x + 1) old in
    let marks : get_or (set bs (2 * at + 1) d) (2 * at) 0 ≡ bit_or (get_or cs (2 * at) 0) (mark_of u.member) =
    get_or-set_other bs (2 * at + 1) (2 * at) d 0 (λ (w : 2 * at ≡ 2 * at + 1). omega arith) ∙ get_or-set_same cs (2 * at) (bit_or (get_or cs (2 * at) 0) m) 0 (omega arith) ∙ ap (bit_or (get_or cs (2 * at) 0)) e in
    let count : get_or (set bs (2 * at + 1) d) (2 * at + 1) 0 ≡ get_or cs (2 * at + 1) 0 + 1 = get_or-set_same bs (2 * at + 1) d 0 (omega (arith, length-set cs (2 * at) (bit_or (get_or cs (2 * at) 0) m))) ∙ made in
    entries-change ks cs (set bs (2 * at + 1) d) (again u) at 0 n h
    (rw z (λ i. record { key = text_at ks at; marks = marks i; deliveries = count i }))
    (λ k w.
    let a = get_or-set_other bs (2 * at + 1) (2 * k) d 0 (λ (v : 2 * k ≡ 2 * at + 1). omega arith) ∙ get_or-set_other cs (2 * at) (2 * k) (bit_or (get_or cs (2 * at) 0) m) 0 (λ (v : 2 * k ≡ 2 * at). w (omega arith)) in
    let b = get_or-set_other bs (2 * at + 1) (2 * k + 1) d 0 (λ (v : 2 * k + 1 ≡ 2 * at + 1). w (omega arith)) ∙ get_or-set_other cs (2 * at) (2 * k + 1) (bit_or (get_or cs (2 * at) 0) m) 0 (λ (v : 2 * k + 1 ≡ 2 * at). omega arith) in
    λ i. record { key = text_at ks k; marks = a i; deliveries = b i })

pub inserted : (ks ls : Bytes) (cs ds : List ℕ) (u : Usage) (at n m : ℕ) → at ≤ n → m ≡ mark_of u.member → KeyMore ks ls n at u.key → CountsMore cs ds n at m
    → entries_from ls ds 0 (suc n) ≡ insert_at at (fresh u) (entries_from ks cs 0 n)
unfolding entry_at fresh
inserted ks ls cs ds u at n m h e k c =
    let z : 0 + at ≡ at = omega arith in
    entries-insert ks ls cs ds (fresh u) at 0 n h
    (rw z (let a = c.marks ∙ e in λ i. record { key = k.here i; marks = a i; deliveries = c.deliveries i }))
    (λ j q. let a = c.before (2 * j) (omega arith) in let b = c.before (2 * j + 1) (omega arith) in let t = k.before j (omega arith) in λ i. record { key = t i; marks = a i; deliveries = b i })
    (λ j p q.
    let a = ap (λ (x : ℕ). get_or ds x 0) (let y : 2 * suc j ≡ 2 * j + 2 = omega arith in y) ∙ c.behind (2 * j) (omega arith) (omega arith) in
    let b = ap (λ (x : ℕ). get_or ds x 0) (let y : 2 * suc j + 1 ≡ 2 * j + 1 + 2 = omega arith in y) ∙ c.behind (2 * j + 1) (omega arith) (omega arith) in
    let t = k.behind j (omega arith) (omega arith) in
    λ i. record { key = t i; marks = a i; deliveries = b i })

-- how many entries there are
pub length-entries : (ks : Bytes) (cs : List ℕ) (i n : ℕ) → length (entries_from ks cs i n) ≡ n
unfolding entries_from
length-entries ks cs i zero = refl
length-entries ks cs i (suc n) = ap suc (length-entries ks cs (suc i) n)

length-change : (f : Entry → Entry) (at : ℕ) (es : List Entry) → length (change_at at f es) ≡ length es
unfolding change_at
length-change f zero [] = refl
length-change f (suc at) [] = refl
length-change f zero (e ∷ es) = refl
length-change f (suc at) (e ∷ es) = ap suc (length-change f at es)

length-insert : (x : Entry) (at : ℕ) (es : List Entry) → length (insert_at at x es) ≡ suc (length es)
unfolding insert_at
length-insert x zero es = refl
length-insert x (suc at) [] = refl
length-insert x (suc at) (e ∷ es) = ap suc (length-insert x at es)

-- what adding a usage leaves: its key's entry changed, no room for one more, or one more
module _ (u : Usage) (ks : Bytes) (cs : List ℕ) (n at : ℕ) (place : at ≡ place_in u.key (entries_from ks cs 0 n)) where
  pub added-hit : (ls : Bytes) (ds : List ℕ) → hit_at u.key at (entries_from ks cs 0 n) ≡ true → entries_from ls ds 0 n ≡ change_at at (again u) (entries_from ks cs 0 n) → Added u (entries_from ks cs 0 n) ls ds n
  added-hit ls ds t e =
      let a : change_at at (again u) (entries_from ks cs 0 n) ≡ add_to u (entries_from ks cs 0 n) =
      ap (λ (i : ℕ). change_at i (again u) (entries_from ks cs 0 n)) place ∙ sym (add-hit u (entries_from ks cs 0 n) (sym (ap (λ (i : ℕ). hit_at u.key i (entries_from ks cs 0 n)) place) ∙ t)) in
      record { count = sym (length-entries ks cs 0 n) ∙ sym (length-change (again u) at (entries_from ks cs 0 n)) ∙ ap length a; entries = λ h. e ∙ a }

  miss : hit_at u.key at (entries_from ks cs 0 n) ≡ false → insert_at at (fresh u) (entries_from ks cs 0 n) ≡ add_to u (entries_from ks cs 0 n)
  miss t = ap (λ (i : ℕ). insert_at i (fresh u) (entries_from ks cs 0 n)) place ∙ sym (add-miss u (entries_from ks cs 0 n) (sym (ap (λ (i : ℕ). hit_at u.key i (entries_from ks cs 0 n)) place) ∙ t))

  counted : hit_at u.key at (entries_from ks cs 0 n) ≡ false → suc n ≡ length (add_to u (entries_from ks cs 0 n))
  counted t = ap suc (sym (length-entries ks cs 0 n)) ∙ sym (length-insert (fresh u) at (entries_from ks cs 0 n)) ∙ ap length (miss t)

  pub added_full : hit_at u.key at (entries_from ks cs 0 n) ≡ false → 512 ≤ n → Added u (entries_from ks cs 0 n) ks cs (n + 1)
  added_full t h = record { count = (let z : n + 1 ≡ suc n = omega arith in z) ∙ counted t; entries = λ k. absurd (omega arith) }

  pub added_more : (ls : Bytes) (ds : List ℕ) → hit_at u.key at (entries_from ks cs 0 n) ≡ false → entries_from ls ds 0 (n + 1) ≡ insert_at at (fresh u) (entries_from ks cs 0 n) → Added u (entries_from ks cs 0 n) ls ds (n + 1)
  added_more ls ds t e = record { count = (let z : n + 1 ≡ suc n = omega arith in z) ∙ counted t; entries = λ h. e ∙ miss t }

-- the same, of the code's key and tests
module _ (u : Usage) (k : Tag) (ks : Bytes) (cs : List ℕ) (n at : ℕ) (b : Bool) (same_key : u.key ≡ k) (place : at ≡ place_in k (entries_from ks cs 0 n)) (test : b ≡ hit_at k at (entries_from ks cs 0 n)) where
  there : at ≡ place_in u.key (entries_from ks cs 0 n)
  there = place ∙ ap (λ (x : Tag). place_in x (entries_from ks cs 0 n)) (sym same_key)

  tested : (c : Bool) → b ≡ c → hit_at u.key at (entries_from ks cs 0 n) ≡ c
  tested c e = ap (λ (x : Tag). hit_at x at (entries_from ks cs 0 n)) same_key ∙ sym test ∙ e

  pub usage-hit : (ls : Bytes) (ds : List ℕ) → b ≡ true → entries_from ls ds 0 n ≡ change_at at (again u) (entries_from ks cs 0 n) → Added u (entries_from ks cs 0 n) ls ds n
  usage-hit ls ds e f = added-hit u ks cs n at there ls ds (tested true e) f

  pub usage-full : b ≡ false → 512 ≤ n → Added u (entries_from ks cs 0 n) ks cs (n + 1)
  usage-full e h = added_full u ks cs n at there (tested false e) h

  pub usage-more : (ls : Bytes) (ds : List ℕ) → b ≡ false → entries_from ls ds 0 (n + 1) ≡ insert_at at (fresh u) (entries_from ks cs 0 n) → Added u (entries_from ks cs 0 n) ls ds (n + 1)
  usage-more ls ds e f = added_more u ks cs n at there ls ds (tested false e) f
