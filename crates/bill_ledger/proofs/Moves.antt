-- Laws of moving up what stands in an array; and of the search's steps. Assumes nothing.
use mathlib.Core.Path.{◌≡◌, refl, sym, ap, ◌∙◌}
use mathlib.Core.Bool.{Bool, true, false}
use mathlib.Core.List.{List}
use Prim.Native.Nat.{ℕ, Ordering, ◌+◌, ◌-◌, ◌≤◌, ◌<◌}
use native.Mathlib.Omega.{arith}
use lib.Dec.{leb}
use lib.ListN.{get_or, length, take, drop, length-take}
use borrow.Author.Tests.{le-leb, lt-leb, leb-true, leb-false}
use Rattle.standard.specs.Tag.{Tag, order}
use Rattle.standard.specs.Delivery.{Bytes}
use Rattle.std.specs.Prelude.{min}
use Rattle.std.specs.List.{CopiedTo, SameBelow, SameFrom}
use Rattle.std.specs.Ordering.{is_lt as is_less}
use Rattle.std.specs.declared.cmp.Ordering.{Ordering as Answer}
use Rattle.std.specs.declared.cmp.Ordering.TheVariants.{Less, Equal, Greater}
use Rattle.byte_string.specs.Strings.{order_of}
use Rattle.bill_ledger.specs.Entries.{place_in}
use Rattle.bill_ledger.specs.Places.{is_lt, at_most31, text_at, entries_from, Moved}
use Rattle.bill_ledger.specs.Up.{Up}
use Rattle.bill_ledger.proofs.Places.{place-within, place-low, place-high}

pub short : (n : ℕ) → n ≤ 31 → at_most31 n ≡ n
unfolding at_most31
short n h = rw (le-leb n 31 h)

pub long : (n : ℕ) → 31 < n → at_most31 n ≡ 31
unfolding at_most31
long n h = rw (lt-leb n 31 h)

pub length-part : (ks : Bytes) (a e m : ℕ) → e ≡ a + m → m ≤ 31 → length (take (e - a) (drop a ks)) ≤ 31
length-part ks a e m q h = simp length-take (omega arith)

pub most-31 : (n m : ℕ) → m ≡ min n 31 → m ≡ at_most31 n
most-31 n m e = go (leb n 31) refl
  where
    go : (b : Bool) → leb n 31 ≡ b → m ≡ at_most31 n
    go true f = let h = leb-true n 31 f in let z : m ≡ n = omega arith in z ∙ sym (short n h)
    go false f = let h = leb-false n 31 f in let z : m ≡ 31 = omega arith in z ∙ sym (long n h)

pub lt-is : (o : Answer) (x : Ordering) → order_of o ≡ x → is_less o ≡ is_lt x
unfolding is_lt
lt-is Less x e = rw (← e)
lt-is Equal x e = rw (← e)
lt-is Greater x e = rw (← e)

pub is-lt : (o : Ordering) → is_lt o ≡ true → o ≡ Ordering.lt
unfolding is_lt
is-lt Ordering.lt e = refl
is-lt Ordering.eq e = cc
is-lt Ordering.gt e = cc

pub not-lt : (o : Ordering) → is_lt o ≡ false → o ≡ Ordering.lt → ⊥
unfolding is_lt
not-lt Ordering.lt e f = let z : ◌≡◌ {A = ℕ} 0 1 = cc in omega arith
not-lt Ordering.eq e f = let z : ◌≡◌ {A = ℕ} 0 1 = cc in omega arith
not-lt Ordering.gt e f = let z : ◌≡◌ {A = ℕ} 0 1 = cc in omega arith

-- what std's copy within an array leaves
pub moved : (a b : List ℕ) (at end w : ℕ) → at ≤ end → end + w ≤ length a → length b ≡ length a
    → CopiedTo a b at (at + w) (end - at) × SameBelow a b (at + w) × SameFrom a b (at + w + (end - at)) → Moved a b at end w
moved a b at end w h k s m = record { size = s; low = λ i g. m.1 i 0 g; high = λ i g l. m.0 (i + w) 0 (omega arith) (omega arith) ∙ ap (λ (j : ℕ). get_or a j 0) (let z : at + (i + w - (at + w)) ≡ i = omega arith in z) }

-- the search by halves: the key's place is from lo to hi
pub record Between (ks : Bytes) (k : Tag) (n lo hi : ℕ) : Type 0 where
  pub between : (cs : List ℕ) → Up (entries_from ks cs 0 n) → (lo ≤ place_in k (entries_from ks cs 0 n)) × (place_in k (entries_from ks cs 0 n) ≤ hi)

pub search-start : (ks : Bytes) (k : Tag) (n : ℕ) → Between ks k n 0 n
search-start ks k n = record { between = λ cs u. (omega arith, place-within ks cs k 0 n) }

pub search-above : (ks : Bytes) (k : Tag) (n lo hi m : ℕ) → m < n → is_lt (order (text_at ks m) k) ≡ true → Between ks k n lo hi → Between ks k n (m + 1) hi
search-above ks k n lo hi m h e b =
    let z : 0 + m ≡ m = omega arith in
    record { between = λ cs u. (omega (arith, place-high ks cs k m 0 n h u (ap (λ (j : ℕ). order (text_at ks j) k) z ∙ is-lt (order (text_at ks m) k) e)), (b.between cs u).1) }

pub search-below : (ks : Bytes) (k : Tag) (n lo hi m : ℕ) → m < n → is_lt (order (text_at ks m) k) ≡ false → Between ks k n lo hi → Between ks k n lo m
search-below ks k n lo hi m h e b =
    let z : m ≡ 0 + m = omega arith in
    record { between = λ cs u. ((b.between cs u).0, place-low ks cs k m 0 n h (λ f. not-lt (order (text_at ks m) k) e (ap (λ (j : ℕ). order (text_at ks j) k) z ∙ f))) }

pub search-end : (ks : Bytes) (k : Tag) (n lo hi : ℕ) → hi ≤ lo → Between ks k n lo hi → (cs : List ℕ) → Up (entries_from ks cs 0 n) → lo ≡ place_in k (entries_from ks cs 0 n)
search-end ks k n lo hi h b cs u = let q = b.between cs u in omega arith
