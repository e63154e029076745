-- A bill has as many keys as there are different maximised triples among its accepted lines. Assumes nothing.
use mathlib.Core.Path.{◌≡◌, refl, sym, ap, ◌∙◌, subst}
use mathlib.Core.Bool.{Bool, true, not, ◌||◌, ◌&&◌}
use mathlib.Core.List.{List, [], ◌∷◌, ◌++◌, map, append-nil}
use mathlib.Core.Option.{Option, none, some, none-ne-some}
use Prim.Native.Nat.{ℕ}
use lib.ListN.{length}
use Rattle.standard.specs.Tag.{Tag, same, All}
use Rattle.standard.specs.Grammar.{flat}
use Rattle.standard.specs.Identifier.{Three, three, Identifier, Tables, Answer, done, refused, canonical_form, with_three, without_unknown, maximal_three, trial, minimal_three, maximised, minimised, same_three, Lawful}
use Rattle.standard.specs.Reading.{Read, good, bad, read, split, print, tags, rest, joined, optional, identifier_of}
use Rattle.standard.specs.Chain.{line}
use Rattle.standard.specs.Make.{identifier}
use Rattle.standard.specs.Delivery.{Bytes}
use Rattle.standard.specs.Table.{print_three, tables_of, check, to_maximise}
use Rattle.standard.proofs.Tags.{Ascending, same-eq, same_refl}
use Rattle.standard.proofs.General.{and-true, map-length as length-map, both_ways}
use Rattle.standard.proofs.Faults.{Variants}
use Rattle.standard.proofs.Core.{Full, shrink-maximal}
use Rattle.standard.proofs.Operations.{maximised-form, maximised-maximal, minimised-done, shrunk}
use Rattle.standard.proofs.Round.{Shaped, unprint}
use Rattle.standard.proofs.Lines.{Plain, plain-printable}
use Rattle.standard.proofs.Closed.{ShapedTables, fill-shaped, shrink-shaped, strip-shaped, canon-printable}
use Rattle.standard.proofs.Sound.{Raw, read-raw}
use Rattle.standard.proofs.Table.{passed, good-tables, shaped-tables}
use Rattle.standard.proofs.Whole.{narrow-likely}
use Rattle.bill_rules.specs.Bill.{Usage, member_of, before_tab, after_tab, key_of_answer, key_of_read, key_of, usage_by, usage_at, usage, accepted, usages, keys_of, more, triple_of_answer, triple_of_read, triple_by, triple, triples, one_of, different_threes, Row, row_of, bill, bill_of}
use Rattle.bill_rules.proofs.Keys.{elem, different, sorted-length}
use Rattle.bill_rules.proofs.Sums.{bill-parts}

-- printing three subtags is undone by reading
three-printed : (t : Three) → print (identifier (line t [])) ≡ print_three t
unfolding print tags rest identifier print_three flat
three-printed t =
    ap joined (append-nil ((t.language ∷ (optional t.script ++ (optional t.region ++ []))) ++ []) ∙ append-nil (t.language ∷ (optional t.script ++ (optional t.region ++ [])))
    ∙ ap (λ (x : List Tag). t.language ∷ (optional t.script ++ x)) (append-nil (optional t.region)))

three_back : (t : Three) → Shaped t → (identifier_of (split (print_three t))).core ≡ t
unfolding Variants All Ascending identifier
three_back t h =
    let p : Plain (line t []) = record { core = h; variants = tt; words = tt; ascend = tt } in
    ap (λ (x : Bytes). (identifier_of (split x)).core) (sym (three-printed t)) ∙ ap (λ (i : Identifier). i.core) (unprint (identifier (line t [])) (plain-printable (line t []) p))

three-injective : (t u : Three) → Shaped t → Shaped u → print_three t ≡ print_three u → t ≡ u
three-injective t u h k e = sym (three_back t h) ∙ ap (λ (x : Bytes). (identifier_of (split x)).core) e ∙ three_back u k

some-eq : {t u : Three} → ◌≡◌ {A = Option Three} (some t) (some u) → t ≡ u
some-eq e = cc

three-eq : (t u : Three) → same_three t u ≡ true → t ≡ u
unfolding same_three
three-eq t u e =
    let a = and-true (same t.language u.language) (same t.script u.script && same t.region u.region) e in
    let b = and-true (same t.script u.script) (same t.region u.region) a.1 in
    let l = same-eq t.language u.language a.0 in
    let s = same-eq t.script u.script b.0 in
    let r = same-eq t.region u.region b.1 in
    λ i. three (l i) (s i) (r i)

three-refl : (t : Three) → same_three t t ≡ true
unfolding same_three
three-refl t = rw (same_refl t.language, same_refl t.script, same_refl t.region)

module _ (T : Tables) (g : Lawful T) (s : ShapedTables T) where
  -- the key and the maximised triple of one identifier
  record Pair (k : Tag) (t : Three) : Type 0 where
    shaped : Shaped t
    full : Full T t
    key : k ≡ print_three (minimal_three T t)

  key_back : (t u : Three) → Full T t → Full T u → minimal_three T t ≡ minimal_three T u → t ≡ u
  key_back t u f h e = some-eq (sym (shrink-maximal T t f) ∙ ap (trial T) e ∙ shrink-maximal T u h)

  pair_same : (k l : Tag) (t u : Three) → Pair k t → Pair l u → same k l ≡ same_three t u
  pair_same k l t u p q = both_ways (same k l) (same_three t u) there back
    where
      there : same k l ≡ true → same_three t u ≡ true
      there e =
          let w = three-injective (minimal_three T t) (minimal_three T u) (shrink-shaped T s t p.shaped) (shrink-shaped T s u q.shaped) (sym p.key ∙ same-eq k l e ∙ q.key) in
          ap (λ (x : Three). same_three t x) (sym (key_back t u p.full q.full w)) ∙ three-refl t

      back : same_three t u ≡ true → same k l ≡ true
      back e = ap (λ (x : Tag). same k x) (q.key ∙ ap (λ (x : Three). print_three (minimal_three T x)) (sym (three-eq t u e)) ∙ sym p.key) ∙ same_refl k

  unfoldable Pairs : List Tag → List Three → Type 0
  Pairs [] [] = Unit {0}
  Pairs [] (t ∷ ts) = ⊥
  Pairs (k ∷ ks) [] = ⊥
  Pairs (k ∷ ks) (t ∷ ts) = Pair k t × Pairs ks ts

  pairs-elem : (k : Tag) (t : Three) → Pair k t → (ks : List Tag) (ts : List Three) → Pairs ks ts → elem k ks ≡ one_of t ts
  unfolding Pairs elem one_of
  pairs-elem k t p [] [] h = refl
  pairs-elem k t p [] (u ∷ ts) h = absurd h
  pairs-elem k t p (l ∷ ks) [] h = absurd h
  pairs-elem k t p (l ∷ ks) (u ∷ ts) h = ap (λ (b : Bool). b || elem k ks) (pair_same k l t u p h.0) ∙ ap (λ (b : Bool). same_three t u || b) (pairs-elem k t p ks ts h.1)

  pairs-different : (ks : List Tag) (ts : List Three) → Pairs ks ts → different ks ≡ different_threes ts
  unfolding Pairs different different_threes
  pairs-different [] [] h = refl
  pairs-different [] (u ∷ ts) h = absurd h
  pairs-different (l ∷ ks) [] h = absurd h
  pairs-different (k ∷ ks) (t ∷ ts) h = ap (λ (b : Bool). more (not b) (different ks)) (pairs-elem k t h.0 ks ts h.1) ∙ ap (more (not (one_of t ts))) (pairs-different ks ts h.1)

  maximised-shaped : (i m : Identifier) → Raw i → maximised T i ≡ done m → Shaped m.core
  unfolding with_three
  maximised-shaped i m r e = let f = maximised-form T g i m e in go f.0 f.1 f.2
    where
      go : (t : Three) → maximal_three T (without_unknown (canonical_form T i).core) ≡ some t → with_three (canonical_form T i) t ≡ m → Shaped m.core
      go t f p = subst Shaped (ap (λ (j : Identifier). j.core) p) (fill-shaped T s (without_unknown (canonical_form T i).core) t (strip-shaped T s (canonical_form T i).core (canon-printable T s i r).core) f)

  record Found (x : Bytes) (k : Tag) : Type 0 where
    three : Three
    reads : triple_of_read T (read x) ≡ some three
    pair : Pair k three

  key-eq : {k l : Tag} → ◌≡◌ {A = Option Tag} (some k) (some l) → k ≡ l
  key-eq e = cc

  pair_found : (x : Bytes) (k : Tag) → key_of T x ≡ some k → Found x k
  unfolding key_of key_of_read key_of_answer triple_of_read triple_of_answer shrunk with_three
  pair_found x k e = go (read x) refl e
    where
      made : (i n : Identifier) → read x ≡ good i → minimised T i ≡ done n → print_three n.core ≡ k → Found x k
      made i n f h q =
          let m = minimised-done T g i n h in
          record {
            three = m.0.core;
            reads = rw (f, m.1);
            pair = record {
              shaped = maximised-shaped i m.0 (read-raw x i f) m.1;
              full = (maximised-maximal T g i m.0 m.1).full;
              key = sym q ∙ ap (λ (j : Identifier). print_three j.core) (sym m.2);
            };
          }

      look : (i : Identifier) → read x ≡ good i → (a : Answer) → minimised T i ≡ a → key_of_answer a ≡ some k → Found x k
      look i f (done n) h q = made i n f h (key-eq q)
      look i f (refused n) h q = absurd (none-ne-some k q)

      go : (r : Read) → read x ≡ r → key_of_read T r ≡ some k → Found x k
      go (good i) f q = look i f (minimised T i) refl q
      go (bad n p) f q = absurd (none-ne-some k q)

  -- an accepted line has both; a refused one neither
  pairs-more : (o : Option Usage) (q : Option Three) (us : List Usage) (ts : List Three) → ((u : Usage) → o ≡ some u → (t : Three) × (q ≡ some t) × Pair u.key t) → (o ≡ none → q ≡ none)
      → Pairs (map (λ (u : Usage). u.key) us) ts → Pairs (map (λ (u : Usage). u.key) (accepted o us)) (accepted q ts)
  unfolding Pairs accepted
  pairs-more none q us ts f n h = rw (n refl) h
  pairs-more (some u) q us ts f n h = let p = f u refl in rw p.1 (p.2, h)

  line-found : (l : Bytes) (u : Usage) → usage T l ≡ some u → (t : Three) × (triple T l ≡ some t) × Pair u.key t
  unfolding usage usage_at usage_by triple triple_by
  line-found l u e = go (member_of (before_tab l)) (after_tab l) refl e
    where
      keyed : (m : ℕ) (x : Bytes) (o : Option Tag) → after_tab l ≡ some x → key_of T x ≡ o → usage_by (some m) o ≡ some u → (t : Three) × (triple T l ≡ some t) × Pair u.key t
      keyed m x none f h q = absurd (none-ne-some u q)
      keyed m x (some k) f h q =
          let p = pair_found x k h in
          let w : k ≡ u.key = cc in
          (p.three, rw (e, f) p.reads, subst (λ (j : Tag). Pair j p.three) w p.pair)

      go : (m : Option ℕ) (b : Option Bytes) → after_tab l ≡ b → usage_at T m b ≡ some u → (t : Three) × (triple T l ≡ some t) × Pair u.key t
      go m none f q = absurd (none-ne-some u q)
      go none (some x) f q = absurd (none-ne-some u q)
      go (some m) (some x) f q = keyed m x (key_of T x) f refl q

  line-none : (l : Bytes) → usage T l ≡ none → triple T l ≡ none
  unfolding triple triple_by
  line-none l e = rw e

  lines_paired : (ls : List Bytes) → Pairs (map (λ (u : Usage). u.key) (usages T ls)) (triples T ls)
  unfolding usages triples Pairs
  lines_paired [] = tt
  lines_paired (l ∷ ls) = pairs-more (usage T l) (triple T l) (usages T ls) (triples T ls) (line-found l) (line-none l) (lines_paired ls)

  keys-counted : (ls : List Bytes) → length (keys_of (usages T ls)) ≡ different_threes (triples T ls)
  unfolding keys_of
  keys-counted ls = sorted-length (map (λ (u : Usage). u.key) (usages T ls)) ∙ pairs-different (map (λ (u : Usage). u.key) (usages T ls)) (triples T ls) (lines_paired ls)

-- 02, T-01: the number of keys is the number of different maximised language-script-region triples among the accepted
-- lines, over tables that pass the check.
pub keys-are-triples : (A L : Bytes) (ls : List Bytes) (rs : List Row) (r : ℕ) → check to_maximise A L [] ≡ none → bill_of (tables_of A L []) ls ≡ bill rs r → length rs ≡ different_threes (triples (tables_of A L []) ls)
keys-are-triples A L ls rs r e f =
    let T = tables_of A L [] in
    let p = passed A L [] (narrow-likely A L ∙ e) in
    ap length (sym (bill-parts T ls rs r f).0) ∙ length-map (row_of (usages T ls)) (keys_of (usages T ls)) ∙ keys-counted T (good-tables A L [] p) (shaped-tables A L [] p) ls
