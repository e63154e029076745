-- The numbers of refusals: reading's are 1 to 7, 15 and 16, the tables' 11 to 14, and no refusal has a result's numbers,
-- 0 and 10. So an answer is 0 or 10 exactly where there is a result. Assumes nothing.
use mathlib.Core.Path.{◌≡◌, refl, subst}
use mathlib.Core.Bool.{Bool, true, false, cond, ◌&&◌}
use mathlib.Core.Logic.{◌↔◌, ◌⊎◌, inl, inr}
use mathlib.Core.List.{List, [], ◌∷◌}
use mathlib.Core.Option.{Option, none, some}
use Prim.Native.Nat.{ℕ, suc, ◌+◌, ◌≤◌, ◌<◌}
use native.Mathlib.Omega.{arith}
use lib.Dec.{leb}
use lib.ListN.{length}
use Rattle.standard.specs.Tag.{Tag, same, head_tag, All}
use Rattle.standard.specs.Grammar.{grouped, u_tag, t_tag, is_singleton, is_field_key, kind_of, is_variant}
use Rattle.standard.specs.Identifier.{Identifier, Tables, Answer, done, refused, bounded, printed_length, filled, then, canonical, maximised, minimised, with_three, Three, parts}
use Rattle.standard.specs.Reading.{Fault, first_of, no_bytes, too_long, clean, unclean, bad_tag, wrong_size, member, Stage, accept, rest_fault, start, language_only, by_part, part_fault, alone, groups_fault, wrong_keyword, wrong_value, field_fault, fields_fault, extension_fault, private_fault, is_x, up_to, from, no_language, grammar_fault, fault_by, fault_of, split, Read, good, bad, read_as, read, identifier_of}
use Rattle.standard.specs.Delivery.{Bytes, Made, result, refusal, given}
use Rattle.standard.specs.Calls.{Operation, canonicalise, maximise, minimise}
use Rattle.standard.specs.Table.{TableFault, rows_fault, clash_fault, too_big, in_table, size_fault, shape_fault, free_fault, check, Use, in_use, pieces, row_key, above, to_canonicalise, to_maximise, to_chain}
use Rattle.standard.specs.Demand3.{ZeroOrTen}
use Rattle.standard.proofs.Checks.{tested-have}
use Rattle.standard.specs.Make.{operate, made, make_of, make, listed, chain_made, chain_from, after_check, canonicalise_made, maximise_made, minimise_made, list_made, whole}

pub refusal-not : {n p t s : ℕ} {r : Bytes} {P : Type 0} → refusal n p t ≡ result r s → P
refusal-not e = let z : ◌≡◌ {A = ℕ} 0 1 = cc in absurd (omega arith)

-- a fault's number, if there is one, is from lo to hi
unfoldable pub Within : ℕ → ℕ → Option Fault → Type 0
Within lo hi none = Unit {0}
Within lo hi (some f) = (lo ≤ f.number) × (f.number ≤ hi)

-- 02, T-03: reading's numbers are 1 to 7, 15 and 16
unfoldable pub ReadingNumber : ℕ → Type 0
ReadingNumber n = (1 ≤ n) × ((n ≤ 7) ⊎ ((15 ≤ n) × (n ≤ 16)))

pub at-most-16 : (n : ℕ) → ReadingNumber n → n ≤ 16
unfolding ReadingNumber
at-most-16 n (h, inl k) = omega arith
at-most-16 n (h, inr k) = k.1

-- a fault of reading has such a number
unfoldable pub ReadingFault : Option Fault → Type 0
ReadingFault none = Unit {0}
ReadingFault (some f) = ReadingNumber f.number

small-number : (n : ℕ) → 1 ≤ n → n ≤ 7 → ReadingNumber n
unfolding ReadingNumber
small-number n h k = (h, inl k)

first-number : ReadingNumber by_part.first
first-number = small-number _ (omega arith) (omega arith)

later-number : ReadingNumber by_part.later
unfolding ReadingNumber
later-number = (omega arith, inr (omega arith, omega arith))

extension-number : ReadingNumber by_part.extension
unfolding ReadingNumber
extension-number = (omega arith, inr (omega arith, omega arith))

first-within : (a b : Option Fault) → ReadingFault a → ReadingFault b → ReadingFault (first_of a b)
unfolding first_of ReadingFault ReadingNumber
first-within none b h k = k
first-within (some f) b h k = h

tag-within : (n : ℕ) (p : Tag → Bool) (at : ℕ) (ts : List Tag) → ReadingNumber n → ReadingFault (bad_tag n p at ts)
unfolding bad_tag ReadingFault ReadingNumber
tag-within n p at [] h = tt
tag-within n p at (t ∷ ts) h = go (p t) (tag-within n p (at + suc (length t)) ts h)
  where
    go : (b : Bool) → ReadingFault (bad_tag n p (at + suc (length t)) ts) → ReadingFault (elim b [ true ↦ some (record { number = n; place = at }) | false ↦ bad_tag n p (at + suc (length t)) ts ])
    go true next = h
    go false next = next

unclean-within : (at : ℕ) (x : List ℕ) → ReadingFault (unclean at x)
unfolding unclean ReadingFault ReadingNumber
unclean-within at [] = tt
unclean-within at (b ∷ bs) = go (clean b) (unclean-within (suc at) bs)
  where
    go : (c : Bool) → ReadingFault (unclean (suc at) bs) → ReadingFault (elim c [ true ↦ unclean (suc at) bs | false ↦ some (record { number = 3; place = at }) ])
    go true next = next
    go false next = (omega arith, inl (omega arith))

rest-within : (n : ℕ) → ReadingNumber n → (st : Stage) (seen : List Tag) (at : ℕ) (ts : List Tag) → ReadingFault (rest_fault n st seen at ts)
unfolding rest_fault ReadingFault ReadingNumber
rest-within n h st seen at [] = tt
rest-within n h st seen at (t ∷ ts) = go (accept st (kind_of t)) (is_variant t && member t seen) (λ next more. rest-within n h next more (at + suc (length t)) ts)
  where
    go : (o : Option Stage) (b : Bool) → ((next : Stage) (more : List Tag) → ReadingFault (rest_fault n next more (at + suc (length t)) ts))
        → ReadingFault (elim o [ none ↦ some (record { number = n; place = at }) | some next ↦ elim b [ true ↦ some (record { number = 6; place = at }) | false ↦ rest_fault n next (elim (is_variant t) [ true ↦ t ∷ seen | false ↦ seen ]) (at + suc (length t)) ts ] ])
    go none b more = h
    go (some next) true more = (omega arith, inl (omega arith))
    go (some next) false more = more next _

part-within : (m n : ℕ) → ReadingNumber m → ReadingNumber n → (first : Tag → Option Stage) (at : ℕ) (ts : List Tag) → ReadingFault (part_fault m n first at ts)
unfolding part_fault ReadingFault ReadingNumber
part-within m n h k first at [] = tt
part-within m n h k first at (t ∷ ts) = go (first t)
  where
    go : (o : Option Stage) → ReadingFault (elim o [ none ↦ some (record { number = m; place = at }) | some st ↦ rest_fault n st [] (at + suc (length t)) ts ])
    go none = h
    go (some st) = rest-within n k st [] (at + suc (length t)) ts

groups-within : (inner : ℕ → List Tag → Option Fault) → ((n : ℕ) (g : List Tag) → ReadingFault (inner n g))
    → (seen : List Tag) (at : ℕ) (gs : List (List Tag)) → ReadingFault (groups_fault inner seen at gs)
unfolding groups_fault ReadingFault ReadingNumber
groups-within inner h seen at [] = tt
groups-within inner h seen at (g ∷ gs) = go (member (head_tag g) seen) (alone g) (groups-within inner h (head_tag g ∷ seen) (at + parts g) gs)
  where
    go : (a b : Bool) → ReadingFault (groups_fault inner (head_tag g ∷ seen) (at + parts g) gs)
        → ReadingFault (elim a [ true ↦ some (record { number = 6; place = at }) | false ↦ elim b [ true ↦ some (record { number = 7; place = at }) | false ↦ first_of (inner at g) (groups_fault inner (head_tag g ∷ seen) (at + parts g) gs) ] ])
    go true b next = (omega arith, inl (omega arith))
    go false true next = (omega arith, inl (omega arith))
    go false false next = first-within (inner at g) (groups_fault inner (head_tag g ∷ seen) (at + parts g) gs) (h at g) next

fields_within : (n : ℕ) → ReadingNumber n → (at : ℕ) (ts : List Tag) → ReadingFault (fields_fault n at ts)
unfolding fields_fault field_fault
fields_within n h at ts =
    first-within _ _ (part-within n n h h language_only at (grouped is_field_key ts).before)
    (groups-within (field_fault n) (λ at g. tag-within n wrong_value at g h) [] (at + parts (grouped is_field_key ts).before) (grouped is_field_key ts).groups)

extension-within : (n : ℕ) → ReadingNumber n → (at : ℕ) (g : List Tag) → ReadingFault (extension_fault n at g)
unfolding extension_fault ReadingFault ReadingNumber
extension-within n h at [] = tt
extension-within n h at (s ∷ ts) = go (same s u_tag) (same s t_tag)
  where
    go : (a b : Bool) → ReadingFault (elim a [ true ↦ bad_tag n wrong_keyword (at + 2) ts | false ↦ elim b [ true ↦ fields_fault n (at + 2) ts | false ↦ none ] ])
    go true b = tag-within n wrong_keyword (at + 2) ts h
    go false true = fields_within n h (at + 2) ts
    go false false = tt

private-within : (at : ℕ) (ts : List Tag) → ReadingFault (private_fault at ts)
unfolding private_fault ReadingFault ReadingNumber
private-within at [] = tt
private-within at (x ∷ []) = (omega arith, inl (omega arith))
private-within at (x ∷ t ∷ ts) = tt

language-within : (m : ℕ) → ReadingNumber m → (ts : List Tag) → ReadingFault (no_language m ts)
unfolding no_language ReadingFault ReadingNumber
language-within m h [] = h
language-within m h (t ∷ ts) = tt

grammar-within : (ts : List Tag) → ReadingFault (grammar_fault by_part ts)
unfolding grammar_fault
grammar-within ts =
    let g = grouped is_singleton (up_to is_x ts) in
    first-within _ _ (language-within by_part.first first-number g.before)
    (first-within _ _ (part-within by_part.first by_part.later first-number later-number start 0 g.before)
    (first-within _ _ (groups-within (extension_fault by_part.extension) (extension-within by_part.extension extension-number) [] (parts g.before) g.groups) (private-within (parts (up_to is_x ts)) (from is_x ts))))

empty-within : (x : List ℕ) → ReadingFault (no_bytes x)
unfolding no_bytes ReadingFault ReadingNumber
empty-within [] = (omega arith, inl (omega arith))
empty-within (b ∷ bs) = tt

long-within : (x : List ℕ) → ReadingFault (too_long x)
unfolding too_long ReadingFault ReadingNumber
long-within x = go (leb (length x) 255)
  where
    go : (b : Bool) → ReadingFault (elim b [ true ↦ none | false ↦ some (record { number = 2; place = 0 }) ])
    go true = tt
    go false = (omega arith, inl (omega arith))

-- reading refuses with 1 to 7, 15 or 16
pub fault-within : (x : List ℕ) → ReadingFault (fault_of x)
unfolding fault_of fault_by
fault-within x =
    first-within _ _ (empty-within x) (first-within _ _ (long-within x) (first-within _ _ (unclean-within 0 x)
    (first-within _ _ (tag-within 4 wrong_size 0 (split x) (small-number 4 (omega arith) (omega arith))) (grammar-within (split x)))))

-- the tables' refusals are 11 to 14
rows-within : (shape : List Tag → Bool) (last : Option (List ℕ)) (at : ℕ) (ls : List Tag) → Within 11 14 (rows_fault shape last at ls)
unfolding rows_fault Within
rows-within shape last at [] = tt
rows-within shape last at (l ∷ []) = go l
  where
    go : (l : Tag) → Within 11 14 (elim l [ [] ↦ none | ◌∷◌ b bs ↦ some (record { number = 12; place = at }) ])
    go [] = tt
    go (b ∷ bs) = (omega arith, omega arith)
rows-within shape last at (l ∷ m ∷ ls) = go (shape (pieces 9 l)) (above last (row_key (pieces 9 l))) (rows-within shape (some (row_key (pieces 9 l))) (at + suc (length l)) (m ∷ ls))
  where
    go : (a b : Bool) → Within 11 14 (rows_fault shape (some (row_key (pieces 9 l))) (at + suc (length l)) (m ∷ ls))
        → Within 11 14 (elim a [ false ↦ some (record { number = 12; place = at }) | true ↦ elim b [ false ↦ some (record { number = 13; place = at }) | true ↦ rows_fault shape (some (row_key (pieces 9 l))) (at + suc (length l)) (m ∷ ls) ] ])
    go false b next = (omega arith, omega arith)
    go true false next = (omega arith, omega arith)
    go true true next = next

clash-within : (free : List Tag → Bool) (at : ℕ) (ls : List Tag) → Within 11 14 (clash_fault free at ls)
unfolding clash_fault Within
clash-within free at [] = tt
clash-within free at (l ∷ []) = tt
clash-within free at (l ∷ m ∷ ls) = go (free (pieces 9 l)) (clash-within free (at + suc (length l)) (m ∷ ls))
  where
    go : (b : Bool) → Within 11 14 (clash_fault free (at + suc (length l)) (m ∷ ls))
        → Within 11 14 (elim b [ false ↦ some (record { number = 14; place = at }) | true ↦ clash_fault free (at + suc (length l)) (m ∷ ls) ])
    go false next = (omega arith, omega arith)
    go true next = next

big-within : (x : List ℕ) → Within 11 14 (too_big x)
unfolding too_big Within
big-within x = go (leb (length x) 32768)
  where
    go : (b : Bool) → Within 11 14 (elim b [ true ↦ none | false ↦ some (record { number = 11; place = 0 }) ])
    go true = tt
    go false = (omega arith, omega arith)

unfoldable pub TableWithin : Option TableFault → Type 0
TableWithin none = Unit {0}
TableWithin (some f) = (11 ≤ f.fault.number) × (f.fault.number ≤ 14)

in_within : (n : ℕ) (o : Option Fault) → Within 11 14 o → TableWithin (in_table n o)
unfolding in_table Within TableWithin
in_within n none h = tt
in_within n (some f) h = h

pub check-within : (purpose : Use) (A L P : Bytes) → TableWithin (check purpose A L P)
unfolding check All size_fault shape_fault free_fault TableWithin
check-within u A L P =
    tested-have TableWithin tt _
    ((λ t. in_within _ _ (big-within t.lent)), ((λ t. in_within _ _ (rows-within _ none 0 _)), ((λ t. in_within _ _ (clash-within _ 0 _)), tt))) (in_use u A L P)

-- A refusal's number is neither 0 nor 10.
unfoldable pub Proper : Made → Type 0
Proper (result r s) = Unit {0}
Proper (refusal n p t) = (0 < n) × ((n < 10) ⊎ (10 < n))

after-proper : (o : Option TableFault) (m : Made) → TableWithin o → Proper m → Proper (after_check o m)
unfolding after_check TableWithin Proper
after-proper none m h k = k
after-proper (some f) m h k = (omega (arith, h.0), inr (omega (arith, h.0)))

unfoldable ProperAnswer : Answer → Type 0
ProperAnswer (done i) = Unit {0}
ProperAnswer (refused n) = (0 < n) × (n < 10)

bounded-proper : (i : Identifier) → ProperAnswer (bounded i)
unfolding bounded ProperAnswer
bounded-proper i = go (leb (printed_length i) 255)
  where
    go : (b : Bool) → ProperAnswer (cond b (done i) (refused 9))
    go true = tt
    go false = (omega arith, omega arith)

then-proper : (f : Identifier → Answer) (a : Answer) → ((i : Identifier) → ProperAnswer (f i)) → ProperAnswer a → ProperAnswer (then f a)
unfolding then ProperAnswer
then-proper f (done i) h k = h i
then-proper f (refused n) h k = k

filled-proper : (c : Identifier) (o : Option Three) → ProperAnswer (filled c o)
unfolding filled ProperAnswer
filled-proper c none = (omega arith, omega arith)
filled-proper c (some t) = bounded-proper (with_three c t)

operate-proper : (T : Tables) (o : Operation) (i : Identifier) → ProperAnswer (operate T o i)
unfolding operate canonical maximised minimised ProperAnswer
operate-proper T canonicalise i = bounded-proper _
operate-proper T maximise i = then-proper _ _ (λ c. filled-proper c _) (bounded-proper _)
operate-proper T minimise i = then-proper _ _ (λ m. tt) (then-proper _ _ (λ c. filled-proper c _) (bounded-proper _))

number-proper : (n : ℕ) → ReadingNumber n → (0 < n) × ((n < 10) ⊎ (10 < n))
unfolding ReadingNumber
number-proper n (h, inl k) = (omega arith, inl (omega arith))
number-proper n (h, inr k) = (omega arith, inr (omega (arith, k.0)))

read-proper : (x : Bytes) (n p : ℕ) → read x ≡ bad n p → (0 < n) × ((n < 10) ⊎ (10 < n))
unfolding read read_as ReadingFault
read-proper x n p e = go (fault_of x) (fault-within x) e
  where
    bad-eq : {a b c d : ℕ} → bad a b ≡ bad c d → a ≡ c
    bad-eq q = cc

    good-not : {i : Identifier} {a b : ℕ} {Q : Type 0} → good i ≡ bad a b → Q
    good-not q = let z : ◌≡◌ {A = ℕ} 0 1 = cc in absurd (omega arith)

    go : (o : Option Fault) → ReadingFault o → read_as o (identifier_of (split x)) ≡ bad n p → (0 < n) × ((n < 10) ⊎ (10 < n))
    go none h q = good-not q
    go (some f) h q = number-proper n (subst ReadingNumber (bad-eq q) h)

made-proper : (a : Answer) → ProperAnswer a → Proper (made a)
unfolding made Proper ProperAnswer
made-proper (done i) h = tt
made-proper (refused n) h = (h.0, inl h.1)

make-proper : (T : Tables) (o : Operation) (x : Bytes) → Proper (make T o x)
unfolding make make_of Proper
make-proper T o x = go (read x) refl
  where
    go : (a : Read) → read x ≡ a → Proper (make_of T o a)
    go (good i) e = made-proper (operate T o i) (operate-proper T o i)
    go (bad n p) e = read-proper x n p e

chain-proper : (T : Tables) (x : Bytes) → Proper (chain_from T (read x))
unfolding chain_from Proper chain_made listed ProperAnswer canonical operate
chain-proper T x = go (read x) refl
  where
    answered : (a : Answer) → ProperAnswer a → Proper (chain_made T a)
    answered (done c) h = tt
    answered (refused n) h = (h.0, inl h.1)

    go : (a : Read) → read x ≡ a → Proper (chain_from T a)
    go (good i) e = answered (canonical T i) (operate-proper T canonicalise i)
    go (bad n p) e = read-proper x n p e

pub whole-proper : (A L P : Bytes) (o : Operation) (x : Bytes) → Proper (whole A L P o x)
unfolding whole canonicalise_made maximise_made minimise_made
whole-proper A L P canonicalise x = after-proper _ _ (check-within to_canonicalise A [] []) (make-proper _ canonicalise x)
whole-proper A L P maximise x = after-proper _ _ (check-within to_maximise A L []) (make-proper _ maximise x)
whole-proper A L P minimise x = after-proper _ _ (check-within to_maximise A L []) (make-proper _ minimise x)

-- so a refusal's number is not 0
pub whole-numbered : (A L P : Bytes) (o : Operation) (x : Bytes) (n p t : ℕ) → whole A L P o x ≡ refusal n p t → 0 < n
unfolding Proper
whole-numbered A L P o x n p t e = (subst Proper e (whole-proper A L P o x)).0

pub list-proper : (A P : Bytes) (x : Bytes) → Proper (list_made A P x)
unfolding list_made
list-proper A P x = after-proper _ _ (check-within to_chain A [] P) (chain-proper _ x)

-- a result is made: there is a form, or a listing
pub record Made-of (m : Made) : Type 0 where
  pub bytes : Bytes
  pub steps : ℕ
  pub are : m ≡ result bytes steps

-- 01, The words of demand 3: the answer is 0 or 10 exactly where there is a result, whatever the output lent.
pub answers : (m : Made) (out : Bytes) → Proper m → ZeroOrTen (given m out).number ↔ Made-of m
unfolding given ZeroOrTen Proper
answers (result r s) out h = ((λ _. record { bytes = r; steps = s; are = refl }), (λ _. go (leb (length r) (length out)) refl))
  where
    go : (b : Bool) → leb (length r) (length out) ≡ b → ((given (result r s) out).number ≡ 0) ⊎ ((given (result r s) out).number ≡ 10)
    go true e = inl (rw e)
    go false e = inr (rw e)
answers (refusal n p t) out h = (forth h.1, back)
  where
    forth : (n < 10) ⊎ (10 < n) → (n ≡ 0) ⊎ (n ≡ 10) → Made-of (refusal n p t)
    forth k (inl e) = absurd (omega (arith, h.0))
    forth (inl k) (inr e) = absurd (omega arith)
    forth (inr k) (inr e) = absurd (omega arith)

    back : Made-of (refusal n p t) → (n ≡ 0) ⊎ (n ≡ 10)
    back q = refusal-not q.are
